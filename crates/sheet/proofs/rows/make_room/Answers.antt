-- `make_room` meets its contract: the records from the place on, and then those before it. Assumes nothing.
use mathlib.Core.Path.{◌≡◌, sym, ap, subst, ◌∙◌}
use mathlib.Core.List.{List}
use Prim.Native.Nat.{ℕ, ◌+◌, ◌-◌, ◌*◌, ◌≤◌}
use native.Mathlib.Omega.{arith}
use native.Mathlib.Nat.{mul-le-mul_right}
use lib.ListN.{length}
use borrow.Author.Rules.{rules}
use Rattle.records.specs.Parts.{splice}
use Rattle.records.proofs.Splices.{part_before}
use Rattle.records.proofs.Rows.{mul_split}
use Rattle.sheet.specs.declared.Record.{Record}
use Rattle.sheet.specs.Layout.{IsRecordLength, record_length, layout_of, Fits}
use Rattle.sheet.specs.Order.{All}
use Rattle.sheet.specs.Sheets.{plots_from, rows_bytes}
use Rattle.sheet.proofs.Layouts.{longest, record_is_length, tests_length}
use Rattle.sheet.proofs.Order.{all_take, all_drop}
use Rattle.sheet.proofs.Plots.{take_plots, drop_plots, plots_same}
use Rattle.sheet.proofs.WrittenRows.{rows_moved}
use Rattle.sheet.proofs.rows.make_room.Goals as goal

-- how many bytes k of n records of M bytes and the others take, read and written with L bytes, and that there is room for one more
record Room (M L n k at most : ℕ) : Type 0 where
  old : M * k + M * (n - k) ≡ M * n
  new : L * k + L * (n - k) ≡ L * n
  low : M * k ≤ L * k
  all : M * n ≤ L * n
  one_more : at + L * n + L ≤ most

room : (M n k at most : ℕ) → IsRecordLength M → (k ≤ n) × (at + record_length * (n + 1) ≤ most) → Room M record_length n k at most
room M n k at most l h =
    let w = longest M l in
    record {
      old = mul_split M n k h.0;
      new = mul_split record_length n k h.0;
      low = mul-le-mul_right k w;
      all = mul-le-mul_right n w;
      one_more = omega (arith, h.1);
    }

-- ---- records that keep their length

pub returns-then-x-eq-RECORD : goal.returns-then-x-eq-RECORD
returns-then-x-eq-RECORD c =
    let a = c.args in
    let x = a.x in
    let m = room x.each.bytes x.count a.k x.at (length a.s.now) (tests_length _ x.each.known) c.requires.k_in_bounds in
    c.move_bytes.ensures
    ∙ rows_moved record_length record_is_length x.each.bytes c.if-x-eq-RECORD.true a.s.now x.at a.k (x.count - a.k) (λ i. search rules) (omega arith)

-- ---- records that grow wider

pub recode-requires-clause-all : goal.recode-requires-clause-all
recode-requires-clause-all c =
    let x = c.args.x in
    rw (drop_plots x.each.bytes c.args.s.now x.at x.count c.args.k c.requires.k_in_bounds.0) at (all_drop c.args.k c.requires.all)

-- those before the place are as they were, once a list rs is written from the place on
same_below : (M n k at : ℕ) (s : List ℕ) (rs : List Record) → IsRecordLength M → (k ≤ n) × (at + record_length * (n + 1) ≤ length s)
    → plots_from M (splice s (at + record_length * k + record_length) (rows_bytes record_length rs)) at k ≡ plots_from M s at k
same_below M n k at s rs l h =
    let m = room M n k at (length s) l h in
    let to = at + record_length * k + record_length in
    plots_same M (splice s to (rows_bytes record_length rs)) s at at k (part_before s to (rows_bytes record_length rs) at (M * k) (omega arith) (omega arith))

pub recode-requires-else-x-eq-RECORD-clause-all : goal.recode-requires-else-x-eq-RECORD-clause-all
recode-requires-else-x-eq-RECORD-clause-all c =
    let a = c.args in
    let x = a.x in
    let h = c.requires.k_in_bounds in
    let same = ap (λ (t : List ℕ). plots_from x.each.bytes t x.at a.k) c.recode.ensures ∙ same_below x.each.bytes x.count a.k x.at a.s.now _ (tests_length _ x.each.known) h in
    subst (All (Fits (layout_of record_length))) (sym same) (rw (take_plots x.each.bytes a.s.now x.at x.count a.k h.0) at (all_take a.k c.requires.all))

pub returns-else-x-eq-RECORD : goal.returns-else-x-eq-RECORD
returns-else-x-eq-RECORD c =
    let a = c.args in
    let x = a.x in
    let lower = plots_from x.each.bytes a.s.now x.at a.k in
    let same = ap (λ (t : List ℕ). plots_from x.each.bytes t x.at a.k) c.recode.ensures ∙ same_below x.each.bytes x.count a.k x.at a.s.now _ (tests_length _ x.each.known) c.requires.k_in_bounds in
    c.recode-else-x-eq-RECORD.ensures
    ∙ ap (λ (rs : List Record). splice c.recode.new.s x.at (rows_bytes record_length rs)) same
    ∙ ap (λ (t : List ℕ). splice t x.at (rows_bytes record_length lower)) c.recode.ensures
