-- `put_converted` meets its contract: the heading, the records and the trailer, one after the other. Assumes nothing.
use mathlib.Core.Path.{◌∙◌}
use native.Mathlib.Omega.{arith}
use lib.ListN.{take}
use lib.Seq.{length-take-le}
use Rattle.sheet.specs.Layout.{fee_length, fee}
use Rattle.sheet.specs.Stored.{plots_of}
use Rattle.sheet.proofs.RowsLeft.{rows_many}
use Rattle.sheet.proofs.Overwritten.{laid_in_turn}
use Rattle.sheet.proofs.converting.put_converted.Goals as goal

pub returns : goal.returns
returns c =
    let a = c.args in
    let x = a.x in
    let at = x.rows.at in
    let heading_length = length-take-le at x.bytes.now (omega (arith, x.within)) in
    c.put_trailer.ensures
    ∙ rw (c.put_narrow.ensures, c.copy_bytes.ensures)
    (laid_in_turn fee_length fee a.u.now (take at x.bytes.now) (plots_of x) at x.rows.count heading_length (rows_many x.bytes.now x.rows) c.requires.in_bounds)
