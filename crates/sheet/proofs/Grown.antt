-- A refused insert leaves every byte (`insert_refused`), and an accepted one the sheet with one record more (`insert_accepted`), in which
-- no record is lost (`nothing_lost`); how much longer it is (`longer`); the order of records that are fetched (`fetched_ascending`). Assumes nothing.
use mathlib.Core.Path.{◌≡◌, refl, sym, ap, subst, ◌∙◌}
use mathlib.Core.Logic.{◌↔◌, ◌⊎◌, inl, inr}
use mathlib.Core.List.{List}
use Prim.Native.Nat.{ℕ, suc, ◌+◌, ◌-◌, ◌*◌, ◌≤◌, ◌<◌}
use native.Mathlib.Omega.{arith}
use lib.ListN.{length, take}
use lib.Seq.{length-take-le}
use lib.Dec.{ltb, eqb}
use borrow.Author.Tests.{ltb-true, ltb-false, eqb-true, eqb-false}
use Rattle.integers.proofs.Tests.{cases}
use Rattle.octagon.specs.Outcome.{Outcome, accepted, refused, left}
use Rattle.octagon.proofs.Outcomes.{accepted_same, then_accepted, map_accepted, map_refused}
use Rattle.outline.specs.Tracing.{traced}
use Rattle.records.specs.Numbers.{AreBytes}
use Rattle.records.specs.Parts.{part}
use Rattle.records.proofs.Numbers.{take_bytes}
use Rattle.sheet.specs.declared.Record.{Record}
use Rattle.sheet.specs.declared.trailer.Trailer.{Trailer}
use Rattle.sheet.specs.Layout.{record_length, layout_of, Fits, Sized}
use Rattle.sheet.specs.Trailer.{trailer_length, trailer_at}
use Rattle.sheet.specs.Bytes.{TrailerOf}
use Rattle.sheet.specs.Order.{nth, All, rank}
use Rattle.sheet.specs.Sheets.{Sheet, first, sheet_of, sheet_length}
use Rattle.sheet.specs.Checking.{inspected, parsed, checked, fetched}
use Rattle.sheet.specs.Cases.{stated_heading, HasOctagon, IsFetched}
use Rattle.sheet.specs.Writing.{written_over, written_length, with_plot, admitted, insertion, inserted, after_insert, grown_length, GrownSheet}
use Rattle.sheet.proofs.Outlines.{accepted_fits}
use Rattle.sheet.proofs.Order.{length_put_in_order, ascending_put_in_order, all_put_in_order, ascending_step, put_in_order_before, put_in_order_here, put_in_order_after}
use Rattle.sheet.proofs.Plots.{length_plots, plots_fit}
use Rattle.sheet.proofs.Checks.{Good, inspected_good, parsed_sheet, parsed_inspected, checked_count, checked_trailer, checked_plotted, fetched_plot}
use Rattle.sheet.proofs.Overwritten.{over_parsed, over_trailer, over_heading, over_past, over_length}
use Rattle.sheet.proofs.BytesWritten.{laid_bytes}
use Rattle.sheet.proofs.Inserts.{Admitted, admitted_passed, next_length_stated}

-- "A refused call alters nothing it was lent": every byte is as it was
pub insert_refused : (s : List ℕ) (len : ℕ) (r : Record) (k : ℕ) → inserted s len r ≡ refused k → after_insert s len r ≡ s
unfolding inserted after_insert
insert_refused s len r k e = rw ((map_refused (insertion s len r) written_length k).0 e)

-- ---- what is accepted

-- the outline, the sheet and the record are, and the sheet with the record is what is written
pub record Taken (s : List ℕ) (len : ℕ) (r : Record) (y : Sheet) : Type 0 where
  pub octagon : HasOctagon r
  pub trailer : Trailer
  pub is_inspected : inspected s len ≡ accepted trailer
  pub admission : Admitted s r (sheet_of s len trailer)
  pub sheet_is : y ≡ with_plot r (sheet_of s len trailer)

pub insertion_taken : (s : List ℕ) (len : ℕ) (r : Record) (y : Sheet) → insertion s len r ≡ accepted y → Taken s len r y
unfolding insertion
insertion_taken s len r y e =
    let t = then_accepted (traced r.outline) _ y e in
    let u = then_accepted (parsed s len) (admitted s r) y t.second in
    let p = parsed_inspected s len u.between u.first in
    let a = admitted_passed s r (sheet_of s len p.0) y (rw (← p.2) at u.second) in
    record { octagon = (t.between, t.first); trailer = p.0; is_inspected = p.1; admission = a.0; sheet_is = a.1 }

module _ (s : List ℕ) (len : ℕ) (r : Record) (z : Trailer) (b : AreBytes s) (v : Sized r) (o : HasOctagon r)
    (e : inspected s len ≡ accepted z) (a : Admitted s r (sheet_of s len z)) where
  abbrev old : List Record
  old = (sheet_of s len z).plots

  abbrev new : Sheet
  new = with_plot r (sheet_of s len z)

  good : Good s len z
  good = inspected_good s len z e

  new_fits : All (Fits (layout_of record_length)) new.plots
  new_fits =
      all_put_in_order r (accepted_fits r o.0 v o.1) (plots_fit z.length s (first len z.distance) z.count 0 b good.ascending)

  new_parsed : parsed (written_over s new) (sheet_length record_length new) ≡ accepted new
  new_parsed = over_parsed s new a.short new_fits (ascending_put_in_order r a.above o a.new good.ascending)

  new_count : length new.plots ≡ z.count + 1
  new_count = length_put_in_order r old ∙ omega (arith, length_plots z.length s (first len z.distance) z.count)

  -- record k, before and after
  was : (k : ℕ) → fetched s len k ≡ nth old k
  was k = fetched_plot s len k (parsed_sheet s len e)

  is : (k : ℕ) → fetched (written_over s new) (sheet_length record_length new) k ≡ nth new.plots k
  is k = fetched_plot (written_over s new) (sheet_length record_length new) k new_parsed

  heading_stated : first len z.distance ≡ stated_heading s len
  heading_stated = ap (λ (t : Trailer). first len t.distance) good.is_trailer

  front : length new.heading ≡ stated_heading s len
  front = let h = good.framing.holds in length-take-le (first len z.distance) s (omega arith) ∙ heading_stated

  grown_sheet : GrownSheet s (written_over s new) len z.count r (sheet_length record_length new)
  grown_sheet = record {
    length_is = next_length_stated s len z r good;
    counted = checked_trailer s len e;
    checks = checked_count (written_over s new) (sheet_length record_length new) new_parsed ∙ ap accepted new_count;
    at = rank r.number old;
    before = λ k h. is k ∙ put_in_order_before r old k h ∙ sym (was k);
    here = is (rank r.number old) ∙ put_in_order_here r old;
    after = λ k h. is (suc k) ∙ put_in_order_after r old k h ∙ sym (was k);
    trailer_is = subst (λ (n : ℕ). TrailerOf record_length n (part (written_over s new) (sheet_length record_length new - trailer_length) trailer_length)) new_count (over_trailer s new a.short);
    heading = ap (λ (n : ℕ). take n (written_over s new)) (sym front) ∙ over_heading s new ∙ ap (λ (n : ℕ). take n s) heading_stated;
    past = over_past s new;
    same_length = over_length s new a.within;
  }

  left_there : (y : Sheet) (n : ℕ) → y ≡ new → insertion s len r ≡ accepted y → written_length y ≡ n → GrownSheet s (after_insert s len r) len z.count r n
  unfolding after_insert
  left_there y n q i l = rw (i, ← l, q) grown_sheet

-- what is left of a buffer of bytes is one
pub insert_bytes : (s : List ℕ) (len : ℕ) (r : Record) → AreBytes s → AreBytes (after_insert s len r)
unfolding after_insert
insert_bytes s len r b = go (insertion s len r) refl
  where
    go : (o : Outcome Sheet) → insertion s len r ≡ o → AreBytes (left s o (written_over s))
    go (refused k) e = b
    go (accepted y) e =
        let t = insertion_taken s len r y e in
        let h : AreBytes y.heading = rw t.sheet_is (take_bytes (first len t.trailer.distance) s b) in
        laid_bytes record_length s y b h

-- "The old records and the new one then stand by rising number, with the trailer brought up to date, and the answer is the new length.
-- Heading and bytes past the new length keep their values."
pub insert_accepted : (s : List ℕ) (len : ℕ) (r : Record) (n : ℕ) → AreBytes s → Sized r → inserted s len r ≡ accepted n
    → (c : ℕ) × GrownSheet s (after_insert s len r) len c r n
unfolding inserted
insert_accepted s len r n b v q =
    let m = map_accepted (insertion s len r) written_length n q in
    let t = insertion_taken s len r m.0 m.1 in
    (t.trailer.count, left_there s len r t.trailer b v t.octagon t.is_inspected t.admission m.0 n t.sheet_is m.1 m.2)

-- nothing is lost in the rewriting: what is fetched after an accepted insert is the old records and the new one, and no others, for sheets
-- of any record length
pub nothing_lost : (s : List ℕ) (len : ℕ) (r : Record) (n : ℕ) → AreBytes s → Sized r → inserted s len r ≡ accepted n
    → (q : Record) → IsFetched (after_insert s len r) n q ↔ (IsFetched s len q ⊎ (q ≡ r))
nothing_lost s len r n b v e q = (to, from)
  where
    g : GrownSheet s (after_insert s len r) len (insert_accepted s len r n b v e).0 r n
    g = (insert_accepted s len r n b v e).1

    to : IsFetched (after_insert s len r) n q → IsFetched s len q ⊎ (q ≡ r)
    to (k, f) =
        cases (ltb k g.at)
        (λ t. inl (k, sym (g.before k (ltb-true k g.at t)) ∙ f))
        (λ t. after k (ltb-false k g.at t) f)
      where
        after : (k : ℕ) → g.at ≤ k → fetched (after_insert s len r) n k ≡ accepted q → IsFetched s len q ⊎ (q ≡ r)
        after k h f =
            cases (eqb k g.at)
            (λ t. inr (accepted_same (sym f ∙ rw (eqb-true k g.at t) g.here)))
            (λ t. let m : k ≡ suc (k - 1) = omega (arith, eqb-false k g.at t) in inl (k - 1, sym (g.after (k - 1) (omega (arith, eqb-false k g.at t))) ∙ (rw m at f)))

    from : IsFetched s len q ⊎ (q ≡ r) → IsFetched (after_insert s len r) n q
    from (inl (k, f)) =
        cases (ltb k g.at) (λ t. (k, g.before k (ltb-true k g.at t) ∙ f)) (λ t. (suc k, g.after k (ltb-false k g.at t) ∙ f))
    from (inr e) = (g.at, g.here ∙ ap accepted (sym e))

-- the old records, of as many bytes as the trailer names, give way to one more of those that are written
pub longer : (s : List ℕ) (len c : ℕ) → checked s len ≡ accepted c → grown_length s len c + (trailer_at s (len - trailer_length)).length * c ≡ len + record_length * (c + 1)
longer s len c e =
    let f = (checked_plotted s len c e).frame in
    let L = (trailer_at s (len - trailer_length)).length in
    let d : (trailer_at s (len - trailer_length)).distance ≡ L * c = f.distance.distance_is ∙ ap (λ (n : ℕ). L * n) f.count in
    omega (arith, f.distance.near, f.size.long)

-- of any sheet that checks, and so of this one, the records that are fetched stand by rising number
pub fetched_ascending : (s : List ℕ) (len c k : ℕ) (a b : Record) → checked s len ≡ accepted c → fetched s len k ≡ accepted a → fetched s len (suc k) ≡ accepted b
    → a.number < b.number
fetched_ascending s len c k a b e p q =
    let d = checked_plotted s len c e in
    ascending_step k a b (sym (d.fetch k) ∙ p) (sym (d.fetch (suc k)) ∙ q) d.ascending
