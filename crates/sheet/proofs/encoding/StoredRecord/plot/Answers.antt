-- `plot` meets its contract. Assumes nothing.
use mathlib.Core.Path.{sym, ap, ◌∙◌}
use mathlib.Core.List.{List}
use Prim.Native.Nat.{ℕ}
use native.Mathlib.Omega.{arith}
use lib.ListN.{drop}
use Rattle.sheet.specs.Layout.{decoded}
use Rattle.sheet.proofs.Layouts.{all_narrow, narrow_fee, within_length, each_layout}
use Rattle.sheet.proofs.Plots.{read_there}
use Rattle.sheet.proofs.encoding.StoredRecord.plot.Goals as goal

pub returns-then-self-eq-COUNTY_RECORD : goal.returns-then-self-eq-COUNTY_RECORD
returns-then-self-eq-COUNTY_RECORD c =
    let r = c.args.self in
    c.read_record.ensures ∙ ap (λ (ws : List ℕ). decoded ws (drop r.at r.bytes.now)) (sym each_layout.2) ∙ rw c.if-self-eq-COUNTY_RECORD.true (read_there _ r.bytes.now r.at)

pub read_record-requires-else-self-eq-COUNTY_RECORD-clause-inside : goal.read_record-requires-else-self-eq-COUNTY_RECORD-clause-inside
read_record-requires-else-self-eq-COUNTY_RECORD-clause-inside c =
    let L = c.args.self.each.bytes in
    rw c.short_widths-widths.ensures (omega (arith, within_length L, c.args.self.inside))

pub read_record-requires-else-self-eq-COUNTY_RECORD-clause-narrow_widths : goal.read_record-requires-else-self-eq-COUNTY_RECORD-clause-narrow_widths
read_record-requires-else-self-eq-COUNTY_RECORD-clause-narrow_widths c =
    let L = c.args.self.each.bytes in
    rw c.short_widths-widths.ensures (all_narrow L, narrow_fee L)

pub returns-else-self-eq-COUNTY_RECORD : goal.returns-else-self-eq-COUNTY_RECORD
returns-else-self-eq-COUNTY_RECORD c =
    let r = c.args.self in
    c.read_record-else-self-eq-COUNTY_RECORD.ensures ∙ ap (λ (ws : List ℕ). decoded ws (drop r.at r.bytes.now)) c.short_widths-widths.ensures ∙ read_there _ r.bytes.now r.at
