-- The cell of an exact quarter is its number: z / 4 metres lie in the cell z. Assumes nothing.
use mathlib.Core.Bool.{Bool, true, false}
use Prim.Native.Nat.{ℕ, suc, ◌*◌}
use native.Mathlib.Omega.{arith}
use lib.IntN.{ℤ, pos, negsuc, ◌+ℤ◌, ◌-ℤ◌, ◌*ℤ◌}
use lib.Ieee.{Float}
use Rattle.integers.proofs.Parts.{up, dn, sum_parts, diff_parts, neg_up, neg_dn, parts_le}
use Rattle.integers.proofs.Linear.{#, ◌≈◌}
use Rattle.integers.proofs.Multiples.{mul}
use Rattle.integers.proofs.Tests.{parts_lt}
use Rattle.outline.specs.Places.{Exactly}
use Rattle.tape.specs.Snapping.{with_sign, Spans, InCell}
use Rattle.tape.proofs.Scales.{scaled_parts}

-- eight eighths of z lie between 4 × (2 × z - 1) and 4 × (2 × z + 1)
own_cell : (z : ℤ) (s : Bool) (a : ℕ) → # (with_sign s (8 * a)) ≈ mul 8 (# z) → Spans z s a 4
unfolding up dn
own_cell z s a h = record {
  reached = parts_le (((z +ℤ z) -ℤ pos 1) *ℤ pos 4) (with_sign s (8 * a)) (omega (arith, scaled_parts ((z +ℤ z) -ℤ pos 1) 4, diff_parts (z +ℤ z) (pos 1), sum_parts z z));
  passed = parts_lt (with_sign s (8 * a)) (((z +ℤ z) +ℤ pos 1) *ℤ pos 4) (omega (arith, scaled_parts ((z +ℤ z) +ℤ pos 1) 4, sum_parts (z +ℤ z) (pos 1), sum_parts z z));
}

pub quarter_in_cell : (z : ℤ) (e : Float) → Exactly z 4 e → InCell e z
unfolding up dn
quarter_in_cell (pos n) e v =
    record { sign = false; size = n; part = 4; some_part = omega arith; value = v; spans = own_cell (pos n) false n (omega arith) }
quarter_in_cell (negsuc n) e v = record {
  sign = true;
  size = suc n;
  part = 4;
  some_part = omega arith;
  value = v;
  spans = own_cell (negsuc n) true (suc n) (omega (arith, neg_up (pos (8 * suc n)), neg_dn (pos (8 * suc n))));
}
