-- `odd_side` meets its contract: the sums fit 64 bits, and the side is cast by what is required. Assumes nothing.
use mathlib.Core.Path.{◌≡◌}
use lib.IntN.{◌-ℤ◌}
use mir.Syntax.{w32, w64}
use mir.Val.{SFits, to_z, of_z}
use mir.Facts.{to_z-of_z}
use Rattle.integers.proofs.Range.{signs, kept, widened}
use Rattle.octagon.specs.NormalForm.{odd_side}
use Rattle.outline.proofs.Lengths.{cast}
use Rattle.outline.proofs.sides.odd_side.Goals.{After-sum, Start}
use Rattle.outline.proofs.sides.odd_side.Goals as goal

-- the difference as it is read back
is : (c : After-sum) →
    to_z w64 (of_z w64 c.sum.result) -ℤ to_z w64 (of_z w64 (to_z w32 (of_z w32 c.args.own)))
    ≡ odd_side c.args.before c.args.own c.args.after
is c =
    let s = c.before in
    rw (
      kept w64 c.sum.type_inv,
      c.sum.ensures,
      to_z-of_z (widened s.ranges.own),
      to_z-of_z s.ranges.before,
      to_z-of_z s.ranges.own,
      to_z-of_z s.ranges.after,
    )

fits : (c : Start) → SFits w64 (odd_side c.args.before c.args.own c.args.after)
fits c = search signs depth 8

pub overflow_cast-result : goal.overflow_cast-result
overflow_cast-result c = widened c.ranges.own

pub overflow_sub-result : goal.overflow_sub-result
overflow_sub-result c = rw (is c) (fits c.before)

pub overflow_cast-result-2 : goal.overflow_cast-result-2
overflow_cast-result-2 c = cast (is c) (fits c.before) c.requires

pub returns : goal.returns
returns c = rw (is c, to_z-of_z (fits c.before))
