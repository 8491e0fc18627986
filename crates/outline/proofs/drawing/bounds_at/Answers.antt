-- `bounds_at` meets its contract: each bound fits 32 bits, so its sum and its cast keep it. Assumes nothing.
use mathlib.Core.Path.{◌≡◌, refl, ◌∙◌}
use lib.IntN.{ℤ}
use mir.Syntax.{w32, w64}
use mir.Val.{SFits, to_z, of_z}
use mir.Facts.{to_z-of_z}
use Rattle.integers.proofs.Range.{signs, wide_fits, minus, negated, minus_both, negated_both}
use Rattle.octagon.specs.Widths.{Held}
use Rattle.octagon.proofs.Fields.{stored}
use Rattle.outline.specs.declared.walk.Cell.{Cell}
use Rattle.outline.specs.Tracing.{bounds_at}
use Rattle.outline.proofs.drawing.bounds_at.Goals.{Start}
use Rattle.outline.proofs.drawing.bounds_at.Goals as goal

-- ---- cells as they are read back

record Wide (v : Cell) : Type 0 where
  wide_x : SFits w64 v.x
  wide_y : SFits w64 v.y

abbrev back : Cell → Cell
back v = record { x = to_z w64 (of_z w64 v.x); y = to_z w64 (of_z w64 v.y) }

back_is : (v : Cell) → Wide v → back v ≡ v
back_is v h = rw (to_z-of_z h.wide_x, to_z-of_z h.wide_y)

same_bounds : (c : Start) → bounds_at (back c.args.v1) (back c.args.v3) (back c.args.v5) (back c.args.v7)
    ≡ bounds_at c.args.v1 c.args.v3 c.args.v5 c.args.v7
same_bounds c = rw (back_is c.args.v1 w1, back_is c.args.v3 w3, back_is c.args.v5 w5, back_is c.args.v7 w7)
  where
    w1 : Wide c.args.v1
    w1 = search signs

    w3 : Wide c.args.v3
    w3 = search signs

    w5 : Wide c.args.v5
    w5 = search signs

    w7 : Wide c.args.v7
    w7 = search signs

-- so the bounds that are read back fit
fits : (c : Start) → Held w32 (bounds_at (back c.args.v1) (back c.args.v3) (back c.args.v5) (back c.args.v7))
fits c = rw (same_bounds c) c.requires

-- ---- one bound

-- a bound that fits 32 bits is kept in 64
kept : {z : ℤ} → SFits w32 z → to_z w64 (of_z w64 z) ≡ z
kept f = to_z-of_z (wide_fits f)

cast : {z : ℤ} → SFits w32 z → SFits w32 (to_z w64 (of_z w64 z))
cast f = rw (kept f) f

pub overflow_sub-result : goal.overflow_sub-result
unfolding bounds_at
overflow_sub-result c = wide_fits (minus (fits (goal.at.overflow_sub-result c).Start).held0)

pub overflow_cast-result : goal.overflow_cast-result
unfolding bounds_at
overflow_cast-result c = cast (minus (fits (goal.at.overflow_cast-result c).Start).held0)

pub overflow_sub-result-2 : goal.overflow_sub-result-2
unfolding bounds_at
overflow_sub-result-2 c = wide_fits (fits (goal.at.overflow_sub-result-2 c).Start).held1

pub overflow_cast-result-2 : goal.overflow_cast-result-2
unfolding bounds_at
overflow_cast-result-2 c = cast (fits (goal.at.overflow_cast-result-2 c).Start).held1

pub overflow_cast-result-3 : goal.overflow_cast-result-3
unfolding bounds_at
overflow_cast-result-3 c = (fits (goal.at.overflow_cast-result-3 c).Start).held2

pub overflow_add-result : goal.overflow_add-result
unfolding bounds_at
overflow_add-result c = wide_fits (fits (goal.at.overflow_add-result c).Start).held3

pub overflow_cast-result-4 : goal.overflow_cast-result-4
unfolding bounds_at
overflow_cast-result-4 c = cast (fits (goal.at.overflow_cast-result-4 c).Start).held3

pub overflow_cast-result-5 : goal.overflow_cast-result-5
unfolding bounds_at
overflow_cast-result-5 c = (fits (goal.at.overflow_cast-result-5 c).Start).held4

pub overflow_sub-result-3 : goal.overflow_sub-result-3
unfolding bounds_at
overflow_sub-result-3 c = wide_fits (fits (goal.at.overflow_sub-result-3 c).Start).held5

pub overflow_cast-result-6 : goal.overflow_cast-result-6
unfolding bounds_at
overflow_cast-result-6 c = cast (fits (goal.at.overflow_cast-result-6 c).Start).held5

pub overflow_sub-result-4 : goal.overflow_sub-result-4
unfolding bounds_at
overflow_sub-result-4 c = wide_fits (minus (fits (goal.at.overflow_sub-result-4 c).Start).held6)

pub overflow_cast-result-7 : goal.overflow_cast-result-7
unfolding bounds_at
overflow_cast-result-7 c = cast (minus (fits (goal.at.overflow_cast-result-7 c).Start).held6)

pub overflow_sub-result-5 : goal.overflow_sub-result-5
unfolding bounds_at
overflow_sub-result-5 c = wide_fits (minus (fits (goal.at.overflow_sub-result-5 c).Start).held6)

pub overflow_sub-result-6 : goal.overflow_sub-result-6
unfolding bounds_at
overflow_sub-result-6 c = let h = fits (goal.at.overflow_sub-result-6 c).Start in minus_both _ (wide_fits h.held6) (wide_fits h.held7)

pub overflow_cast-result-8 : goal.overflow_cast-result-8
unfolding bounds_at
overflow_cast-result-8 c = let h = fits (goal.at.overflow_cast-result-8 c).Start in rw (negated_both _ (wide_fits h.held6) (wide_fits h.held7)) h.held7

pub returns : goal.returns
unfolding bounds_at
returns c =
    let s = (goal.at.returns c).Start in
    let h = fits s in
    stored w32 h (negated (wide_fits h.held0)) (kept h.held1) refl (kept h.held3) refl (kept h.held5)
    (negated (wide_fits h.held6)) (negated_both _ (wide_fits h.held6) (wide_fits h.held7))
    ∙ same_bounds s
