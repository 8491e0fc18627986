-- `outline_of` meets its contract: eight calls, and the start. Assumes nothing.
use mathlib.Core.Path.{ap}
use lib.IntN.{+ℤ_idl}
use mir.Syntax.{w32}
use mir.Facts.{to_z-of_z}
use Rattle.integers.proofs.Range.{signs}
use Rattle.octagon.specs.NormalForm.{sides}
use Rattle.octagon.specs.Widths.{Held}
use Rattle.octagon.proofs.Fields.{back, back_is}
use Rattle.outline.proofs.Lengths.{accepted_sized}
use Rattle.outline.specs.Outlining.{Sized, outline_of}
use Rattle.outline.proofs.sides.outline_of.Goals.{Start}
use Rattle.outline.proofs.sides.outline_of.Goals as goal

held : (c : Start) → Held w32 c.args.a.bounds
held c = search signs

-- the bounds as they are read back
sized : (c : Start) → Sized (back w32 c.args.a.bounds)
sized c = rw (back_is w32 c.args.a.bounds (held c)) (accepted_sized c.args.a.bounds c.args.a.bounds c.args.a.is_normal)

pub overflow_sub-result-2 : goal.overflow_sub-result-2
overflow_sub-result-2 c = rw +ℤ_idl (sized (goal.at.overflow_sub-result-2 c).Start).start_j

pub overflow_sub-result : goal.overflow_sub-result
overflow_sub-result c = (sized (goal.at.overflow_sub-result c).Start).start_i

pub even_side-requires : goal.even_side-requires
unfolding sides
even_side-requires c = (sized (goal.at.even_side-requires c).Start).length0

pub odd_side-requires : goal.odd_side-requires
unfolding sides
odd_side-requires c = (sized (goal.at.odd_side-requires c).Start).length1

pub even_side-requires-2 : goal.even_side-requires-2
unfolding sides
even_side-requires-2 c = (sized (goal.at.even_side-requires-2 c).Start).length2

pub odd_side-requires-2 : goal.odd_side-requires-2
unfolding sides
odd_side-requires-2 c = (sized (goal.at.odd_side-requires-2 c).Start).length3

pub even_side-requires-3 : goal.even_side-requires-3
unfolding sides
even_side-requires-3 c = (sized (goal.at.even_side-requires-3 c).Start).length4

pub odd_side-requires-3 : goal.odd_side-requires-3
unfolding sides
odd_side-requires-3 c = (sized (goal.at.odd_side-requires-3 c).Start).length5

pub even_side-requires-4 : goal.even_side-requires-4
unfolding sides
even_side-requires-4 c = (sized (goal.at.even_side-requires-4 c).Start).length6

pub odd_side-requires-4 : goal.odd_side-requires-4
unfolding sides
odd_side-requires-4 c = (sized (goal.at.odd_side-requires-4 c).Start).length7

pub returns : goal.returns
unfolding outline_of sides
returns c =
    let s = (goal.at.returns c).Start in
    let z = sized s in
    rw (
      to_z-of_z z.start_i,
      +ℤ_idl,
      to_z-of_z z.start_j,
      c.even_side.ensures,
      c.odd_side.ensures,
      c.even_side-2.ensures,
      c.odd_side-2.ensures,
      c.even_side-3.ensures,
      c.odd_side-3.ensures,
      c.even_side-4.ensures,
      c.odd_side-4.ensures,
    )
    (ap outline_of (back_is w32 s.args.a.bounds (held s)))
