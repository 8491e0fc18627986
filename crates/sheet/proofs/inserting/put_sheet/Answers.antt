-- `put_sheet` meets its contract: the old records with room for one more, the new one and the trailer. Assumes nothing.
use mathlib.Core.Path.{ap, ◌∙◌}
use mathlib.Core.List.{List}
use Prim.Native.Nat.{◌+◌, ◌-◌, ◌*◌}
use native.Mathlib.Omega.{arith}
use borrow.Author.Rules.{rules}
use Rattle.records.specs.Parts.{splice}
use Rattle.sheet.specs.declared.Record.{Record}
use Rattle.sheet.specs.Layout.{record_length}
use Rattle.sheet.specs.Sheets.{plots_from, records_bytes}
use Rattle.sheet.proofs.Layouts.{record_is_length}
use Rattle.sheet.proofs.Plots.{length_plots, put_among}
use Rattle.sheet.proofs.WrittenRows.{written_parts}
use Rattle.sheet.proofs.inserting.put_sheet.Goals as goal

pub put_record-requires : goal.put_record-requires
put_record-requires c = search (rules, record_is_length)

pub returns : goal.returns
returns c =
    let a = c.args in
    let x = a.x in
    let n = a.k in
    let low = plots_from x.each.bytes a.s.now x.at n in
    let high = plots_from x.each.bytes a.s.now (x.at + x.each.bytes * n) (x.count - n) in
    let u = length_plots x.each.bytes a.s.now (x.at + x.each.bytes * n) (x.count - n) in
    c.put_trailer.ensures
    ∙ rw (c.put_record.ensures, c.make_room.ensures)
    (written_parts record_length record_is_length a.s.now x.at low a.r high n (x.count + 1) (length_plots x.each.bytes a.s.now x.at n) (omega arith) c.requires.record_length
    ∙ ap (λ (rs : List Record). splice a.s.now x.at (records_bytes record_length rs)) (put_among x.each.bytes a.s.now x.at x.count n a.r c.requires.place.0 c.requires.place.1))
