-- `put_joined` meets its contract: the heading, the records and the trailer, one after the other. Assumes nothing.
use mathlib.Core.Path.{sym, ◌∙◌}
use native.Mathlib.Omega.{arith}
use lib.ListN.{take}
use lib.Seq.{length-take-le}
use Rattle.sheet.specs.Merging.{merged}
use Rattle.sheet.specs.Stored.{plots_of}
use Rattle.sheet.proofs.Layouts.{record_is_length}
use Rattle.sheet.proofs.Overwritten.{laid_in_turn}
use Rattle.sheet.proofs.joining.put_joined.Goals as goal

pub returns : goal.returns
returns c =
    let a = c.args in
    let at = a.a.rows.at in
    let heading_length = length-take-le at a.a.bytes.now (omega (arith, a.a.within)) in
    c.put_trailer.ensures
    ∙ rw (c.put_merged.ensures, c.copy_bytes.ensures)
    (laid_in_turn _ record_is_length a.u.now (take at a.a.bytes.now) (merged (plots_of a.a) (plots_of a.b)) at a.all heading_length (sym c.requires.all_value) c.requires.trailer_length_in_bounds.0)
