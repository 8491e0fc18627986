-- `put_row` meets its contract. Assumes nothing.
use mathlib.Core.Path.{◌≡◌, sym, ap, ◌∙◌}
use mathlib.Core.List.{List}
use Prim.Native.Nat.{ℕ, ◌+◌, ◌-◌, ◌≤◌}
use native.Mathlib.Omega.{arith}
use lib.ListN.{length}
use Rattle.records.specs.Numbers.{AreBytes}
use Rattle.records.specs.Parts.{part, splice}
use Rattle.sheet.specs.Layout.{record_length, layout_of, encoded, decoded}
use Rattle.sheet.proofs.Layouts.{record_is_length}
use Rattle.sheet.proofs.WrittenRows.{row_kept}
use Rattle.sheet.proofs.Outlines.{accepted_fits}
use Rattle.sheet.proofs.Plots.{plot_sized}
use Rattle.sheet.proofs.copying.put_row.Goals as goal

-- a record that keeps its length keeps its bytes
kept : (s : List ℕ) (at each : ℕ) → each ≡ record_length → AreBytes s → at + each ≤ length s → part s at record_length ≡ encoded (layout_of record_length) (decoded (layout_of each) (part s at each))
kept s at each e b h = rw e (sym (row_kept record_length record_is_length s at b (omega arith)))

pub returns-then-each-eq-RECORD : goal.returns-then-each-eq-RECORD
returns-then-each-eq-RECORD c =
    let a = c.args in
    let n : a.from + record_length - a.from ≡ record_length = omega arith in
    let b : AreBytes a.s.now = λ i. omega (arith, c.type_inv.s i) in
    (rw n at c.copy_bytes.ensures) ∙ ap (splice a.u.now a.to) (kept a.s.now a.from a.each.bytes c.if-each-eq-RECORD.true b c.requires.each_in_bounds.0)

-- a record that has an octagon fits the layout that is written
pub put_record-requires : goal.put_record-requires
put_record-requires c =
    let a = c.args in
    let b : AreBytes a.s.now = λ i. omega (arith, c.type_inv.s i) in
    let q = c.requires.octagon in
    (c.requires.each_in_bounds.1, rw c.plot.ensures (accepted_fits _ q.0 (plot_sized a.each.bytes a.s.now a.from b) q.1))
