-- The eight steps: what holds of each of eight, and a move along one as a linear fact. Assumes nothing.
use Prim.Native.Nat.{ℕ, zero, suc, ◌*◌, ◌<◌}
use native.Mathlib.Omega.{arith}
use lib.IntN.{ℤ, pos, negsuc, ◌+ℤ◌, ◌*ℤ◌}
use Rattle.integers.proofs.Parts.{up, dn, sum_parts, neg_up, neg_dn}
use Rattle.integers.proofs.Linear.{#, ◌⊕◌, neg, lit, ◌≈◌}

-- what holds of each number below eight
pub eight : (P : ℕ → Type 0) → P 0 → P 1 → P 2 → P 3 → P 4 → P 5 → P 6 → P 7 → (k : ℕ) → k < 8 → P k
eight P p0 p1 p2 p3 p4 p5 p6 p7 zero h = p0
eight P p0 p1 p2 p3 p4 p5 p6 p7 (suc zero) h = p1
eight P p0 p1 p2 p3 p4 p5 p6 p7 (suc (suc zero)) h = p2
eight P p0 p1 p2 p3 p4 p5 p6 p7 (suc (suc (suc zero))) h = p3
eight P p0 p1 p2 p3 p4 p5 p6 p7 (suc (suc (suc (suc zero)))) h = p4
eight P p0 p1 p2 p3 p4 p5 p6 p7 (suc (suc (suc (suc (suc zero))))) h = p5
eight P p0 p1 p2 p3 p4 p5 p6 p7 (suc (suc (suc (suc (suc (suc zero)))))) h = p6
eight P p0 p1 p2 p3 p4 p5 p6 p7 (suc (suc (suc (suc (suc (suc (suc zero))))))) h = p7
eight P p0 p1 p2 p3 p4 p5 p6 p7 (suc (suc (suc (suc (suc (suc (suc (suc k)))))))) h = absurd (omega arith)

-- ---- a number times 1, 0 and -1

pub once : (z : ℤ) → # (pos 1 *ℤ z) ≈ # z
unfolding up dn
once (pos n) = omega arith
once (negsuc n) = omega (arith, neg_up (pos (1 * suc n)), neg_dn (pos (1 * suc n)))

pub never : (z : ℤ) → # (pos 0 *ℤ z) ≈ lit 0
unfolding up dn
never (pos n) = omega arith
never (negsuc n) = omega (arith, neg_up (pos (0 * suc n)), neg_dn (pos (0 * suc n)))

pub reversed : (z : ℤ) → # (negsuc 0 *ℤ z) ≈ neg (# z)
unfolding up dn
reversed (pos n) = omega (arith, neg_up (pos (1 * n)), neg_dn (pos (1 * n)))
reversed (negsuc n) = omega arith

-- ---- a coordinate after n steps

pub forth : (a : ℤ) (n : ℕ) → # (a +ℤ pos 1 *ℤ pos n) ≈ # a ⊕ lit n
unfolding up dn
forth a n = omega (arith, sum_parts a (pos 1 *ℤ pos n), once (pos n))

pub still : (a : ℤ) (n : ℕ) → # (a +ℤ pos 0 *ℤ pos n) ≈ # a
unfolding up dn
still a n = omega (arith, sum_parts a (pos 0 *ℤ pos n), never (pos n))

pub back : (a : ℤ) (n : ℕ) → # (a +ℤ negsuc 0 *ℤ pos n) ≈ # a ⊕ neg (lit n)
unfolding up dn
back a n = omega (arith, sum_parts a (negsuc 0 *ℤ pos n), reversed (pos n))
