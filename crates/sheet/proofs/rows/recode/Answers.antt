-- `recode` meets its contract: what is known where a record is next, and that it is moved as it was. Assumes nothing.
use mathlib.Core.Path.{◌≡◌, refl, sym, ◌∙◌}
use Prim.Native.Nat.{ℕ, ◌+◌, ◌-◌, ◌*◌, ◌≤◌, ◌<◌}
use native.Mathlib.Omega.{arith}
use native.Mathlib.Nat.{mul-le-mul_right}
use lib.ListN.{length}
use Rattle.records.proofs.Splices.{splice_nil}
use Rattle.records.proofs.Rows.{mul_pred, mul_split}
use Rattle.sheet.specs.declared.rows.Rows.{Rows}
use Rattle.sheet.specs.Layout.{record_length}
use Rattle.sheet.proofs.Layouts.{longest, record_is_length, tests_length}
use Rattle.sheet.proofs.Plots.{plots_none, all_plot}
use Rattle.sheet.proofs.WrittenRows.{moved_part, moved_more}
use Rattle.sheet.proofs.rows.recode.Goals as goal

-- the record before number k, and its place, where those from number k on are written
record Turn (x : Rows) (to k most : ℕ) : Type 0 where
  read_to : x.at + x.each.bytes * (k - 1) + x.each.bytes ≡ x.at + x.each.bytes * k
  put_to : to + record_length * (k - 1) + record_length ≡ to + record_length * k
  above : x.at + x.each.bytes * k ≤ to + record_length * k
  room : to + record_length * k + record_length * (x.count - k) ≤ most

turn : (x : Rows) (to k most : ℕ) → 0 < k → k ≤ x.count → (x.at ≤ to) × (to + record_length * x.count ≤ most) → Turn x to k most
turn x to k most h n r =
    let w : x.each.bytes ≤ record_length = longest _ (tests_length _ x.each.known) in
    record {
      read_to = omega (arith, mul_pred x.each.bytes k h);
      put_to = omega (arith, mul_pred record_length k h);
      above = omega (arith, mul-le-mul_right k w, r.0);
      room = omega (arith, mul_split record_length x.count k n, r.1);
    }

-- none is moved
pub loop-k-init : goal.loop-k-init
loop-k-init c =
    let a = c.args in
    let x = a.x in
    rw (plots_none x.each.bytes a.s.now (x.at + x.each.bytes * x.count) (x.count - x.count) (omega arith)) (sym (splice_nil a.s.now (a.to + record_length * x.count)))

-- the record that is next is read as it was, and fits
pub copy_record-requires-clause-fits : goal.copy_record-requires-clause-fits
copy_record-requires-clause-fits c =
    let l = c.loop-k in
    let a = c.args in
    let x = a.x in
    let t = turn x a.to l.k (length a.s.now) c.loop-k-test.true l.auto.k c.requires.at_le_to in
    let was =
    moved_part record_length record_is_length a.s.now l.s x.each.bytes _ _ (x.count - l.k) (x.at + x.each.bytes * (l.k - 1)) (a.to + record_length * (l.k - 1)) t.read_to t.put_to t.above t.room l.invariant in
    rw was (all_plot x.each.bytes a.s.now x.at x.count (l.k - 1) (omega arith) c.requires.all)

pub loop-k-preserved : goal.loop-k-preserved
loop-k-preserved c =
    let l = c.loop-k in
    let a = c.args in
    let x = a.x in
    let t = turn x a.to l.k (length a.s.now) c.loop-k-test.true l.auto.k c.requires.at_le_to in
    let n : x.count - (l.k - 1) ≡ x.count - l.k + 1 = omega (arith, l.auto.k, c.loop-k-test.true) in
    c.copy_record.ensures
    ∙ rw n (moved_more record_length record_is_length a.s.now l.s x.each.bytes _ _ (x.count - l.k) (x.at + x.each.bytes * (l.k - 1)) (a.to + record_length * (l.k - 1)) t.read_to t.put_to t.above t.room l.invariant
    _ refl)
