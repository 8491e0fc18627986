-- `is_within` meets its contract: one call, with the bounds in 64 bits. Assumes nothing.
use mathlib.Core.Path.{◌∙◌, ap}
use mir.Syntax.{w32}
use mir.Facts.{to_z-of_z}
use Rattle.integers.proofs.Range.{signs, widened}
use Rattle.octagon.specs.NormalForm.{is_within}
use Rattle.octagon.specs.Widths.{Held}
use Rattle.octagon.proofs.Fields.{back_is}
use Rattle.octagon.proofs.is_within.Goals.{Start}
use Rattle.octagon.proofs.is_within.Goals as goal

held : (c : Start) → Held w32 c.args.a
held c = search signs

pub returns : goal.returns
returns c =
    let s : Start = search in
    let h = held s in
    c.are_within.ensures ∙
    rw (to_z-of_z (widened h.held0), to_z-of_z (widened h.held2), to_z-of_z (widened h.held4), to_z-of_z (widened h.held6))
    (ap (is_within s.args.r) (back_is w32 s.args.a h))
