-- `nearest` meets its contract: the sum is no NaN, its bits fit an i64, and what they are above the added number's is the nearest whole
-- number of quarters, which fits an i32. Assumes nothing.
use mathlib.Core.Path.{◌≡◌, ◌∙◌}
use mathlib.Core.Bool.{true}
use Prim.Native.Nat.{ℕ, ◌+◌, ◌^◌, ◌≤◌, ◌<◌}
use native.Mathlib.Omega.{arith}
use lib.Dec.{lit≤}
use lib.IntN.{ℤ, pos, negsuc, nat_abs, ◌-ℤ◌}
use lib.Signed.{mag}
use lib.Ieee.{Float, nan, inf, fin, binary64, add, to_bits, of_bits}
use mir.Syntax.{w32, w64}
use mir.Val.{SFits, to_z, of_z}
use mir.Facts.{to_z_pos, to_z-of_z, sfits_widen}
use Rattle.octagon.specs.Cells.{limit}
use Rattle.tape.specs.Snapping.{within_edges}
use Rattle.tape.proofs.Edges.{between_bound, between_finite}
use Rattle.tape.proofs.Nearest.{Told, told, tells}
use Rattle.tape.proofs.Shift.{quarters, quarters_bits}
use Rattle.tape.proofs.snapping.nearest.Goals as goal

-- how many eighths of a metre the map's edge is from its middle
abbrev eighths : ℕ
eighths = limit + limit + 1

told_between : (e : Float) → within_edges e ≡ true → Told eighths e
told_between nan h = absurd (between_finite nan h)
told_between (inf s) h = absurd (between_finite (inf s) h)
told_between (fin s m x) h = tells eighths s m x (lit≤ tt) (between_bound s m x h)

near_nought : (z : ℤ) → nat_abs z + nat_abs z ≤ eighths + 1 → mag z < 2 ^ 31
near_nought (pos n) h = omega arith
near_nought (negsuc n) h = omega arith

module _ (e : Float) (t : Told eighths e) where
  -- the bits, as an i64 reads them
  read : to_z w64 (to_bits binary64 (add binary64 e quarters)) ≡ pos (to_bits binary64 (add binary64 e quarters))
  read = to_z_pos w64 t.small

  told_fits : SFits w32 (told e)
  told_fits = record { sfits = near_nought (told e) t.within }

  told_fits_64 : SFits w64 (told e)
  told_fits_64 = sfits_widen tt told_fits

  difference_fits : SFits w64 (to_z w64 (to_bits binary64 (add binary64 e quarters)) -ℤ pos quarters_bits)
  difference_fits = rw read told_fits_64

  -- and what the casts make of the difference
  cast_is : to_z w64 (of_z w64 (to_z w64 (to_bits binary64 (add binary64 e quarters)) -ℤ pos quarters_bits)) ≡ told e
  cast_is = to_z-of_z difference_fits ∙ rw read

  result_is : to_z w32 (of_z w32 (to_z w64 (of_z w64 (to_z w64 (to_bits binary64 (add binary64 e quarters)) -ℤ pos quarters_bits)))) ≡ told e
  result_is = rw cast_is (to_z-of_z told_fits)

pub float_to_bits-result : goal.float_to_bits-result
unfolding of_bits
float_to_bits-result c = (told_between c.args.e c.requires).number

pub overflow_cast-result : goal.overflow_cast-result
unfolding of_bits
overflow_cast-result c = record { sfits = (told_between c.args.e c.requires).small }

pub overflow_sub-result : goal.overflow_sub-result
unfolding of_bits
overflow_sub-result c = difference_fits c.args.e (told_between c.args.e c.requires)

pub overflow_cast-result-2 : goal.overflow_cast-result-2
unfolding of_bits
overflow_cast-result-2 c =
    let t = told_between c.args.e c.requires in
    rw (cast_is c.args.e t) (told_fits c.args.e t)

pub returns : goal.returns
unfolding of_bits
returns c = let t = told_between c.args.e c.requires in rw (result_is c.args.e t) t.nearby
