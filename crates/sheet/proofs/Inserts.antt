-- An insert step by step: which records are admitted, how long the sheet then is, and the order of the refusals. Assumes nothing.
use mathlib.Core.Path.{◌≡◌, refl, sym, ap, ◌∙◌}
use mathlib.Core.Bool.{true, false}
use mathlib.Core.List.{List}
use Prim.Native.Nat.{ℕ, ◌+◌, ◌*◌, ◌≤◌, ◌<◌}
use native.Mathlib.Omega.{arith}
use lib.ListN.{length}
use lib.Seq.{length-take-le}
use lib.Dec.{ltb, eqb}
use borrow.Author.Tests.{ltb-false, le-ltb, eqb-false}
use Rattle.integers.proofs.Tests.{or_false}
use Rattle.octagon.specs.Octagon.{Octagon}
use Rattle.octagon.specs.Outcome.{accepted, refused, then, left}
use Rattle.octagon.proofs.Outcomes.{accepted_same, past_test, map_accepted}
use Rattle.outline.specs.Tracing.{traced}
use Rattle.sheet.specs.declared.Record.{Record}
use Rattle.sheet.specs.declared.trailer.Trailer.{Trailer}
use Rattle.sheet.specs.declared.stored.Records.{Records}
use Rattle.sheet.specs.Answers.{bad_number, no_room}
use Rattle.sheet.specs.Layout.{record_length}
use Rattle.sheet.specs.Trailer.{trailer_length}
use Rattle.sheet.specs.Order.{present, put_in_order}
use Rattle.records.specs.Parts.{splice}
use Rattle.sheet.specs.Sheets.{sheet_limit, Sheet, records_bytes, first, sheet_of, sheet_length}
use Rattle.sheet.specs.Stored.{plots_of, said}
use Rattle.sheet.specs.Checking.{parsed}
use Rattle.sheet.specs.Writing.{written_over, written_length, with_plot, is_bad_number, has_no_room, admitted, insertion, inserted, after_insert, grown_length}
use Rattle.sheet.proofs.Order.{length_put_in_order}
use Rattle.sheet.proofs.Plots.{length_plots}
use Rattle.sheet.proofs.RowsLeft.{rows_many}
use Rattle.sheet.proofs.Overwritten.{over_records}
use Rattle.sheet.proofs.Checks.{Good}

-- a sheet of n bytes that has room
pub room_kept : (s : List ℕ) (n : ℕ) → has_no_room s n ≡ false → (n ≤ length s) × (n ≤ sheet_limit)
room_kept s n e = let b = or_false (ltb (length s) n) (ltb sheet_limit n) e in (ltb-false (length s) n b.0, ltb-false sheet_limit n b.1)

pub room_enough : (s : List ℕ) (n : ℕ) → n ≤ length s → n ≤ sheet_limit → has_no_room s n ≡ false
room_enough s n h k = rw (le-ltb (length s) n h, le-ltb sheet_limit n k)

-- ---- which records are admitted

module _ (s : List ℕ) (r : Record) (z : Sheet) where
  -- the length of the sheet with r
  abbrev pub next_length : ℕ
  next_length = sheet_length record_length (with_plot r z)

  pub admit_number : is_bad_number r.number z.plots ≡ true → admitted s r z ≡ refused bad_number
  unfolding admitted
  admit_number e = rw e

  pub admit_room : is_bad_number r.number z.plots ≡ false → has_no_room s next_length ≡ true → admitted s r z ≡ refused no_room
  unfolding admitted
  admit_room e f = rw (e, f)

  pub admit_good : is_bad_number r.number z.plots ≡ false → has_no_room s next_length ≡ false → admitted s r z ≡ accepted (with_plot r z)
  unfolding admitted
  admit_good e f = rw (e, f)

  -- what an accepted record says
  pub record Admitted : Type 0 where
    pub above : 0 < r.number
    pub new : present r.number z.plots ≡ false
    pub within : next_length ≤ length s
    pub short : next_length ≤ sheet_limit

  pub admitted_passed : (y : Sheet) → admitted s r z ≡ accepted y → Admitted × (y ≡ with_plot r z)
  unfolding admitted
  admitted_passed y e =
      let p = past_test (is_bad_number r.number z.plots) bad_number _ y e in
      let q = past_test (has_no_room s next_length) no_room (accepted (with_plot r z)) y p.1 in
      let a = or_false (eqb r.number 0) (present r.number z.plots) p.0 in
      let b = room_kept s next_length q.0 in
      let n : r.number ≡ 0 → ⊥ = eqb-false r.number 0 a.0 in (
        record {
          above = omega arith;
          new = a.1;
          within = b.0;
          short = b.1;
        },
        sym (accepted_same q.1),
      )

-- ---- how long the sheet then is

pub next_length_of : (x : Records) (r : Record) → sheet_length record_length (with_plot r (said x)) ≡ x.rows.at + record_length * (x.rows.count + 1) + trailer_length
next_length_of x r =
    let a = length-take-le x.rows.at x.bytes.now (omega (arith, x.within)) in
    let b : length (with_plot r (said x)).plots ≡ x.rows.count + 1 = length_put_in_order r (plots_of x) ∙ omega (arith, rows_many x.bytes.now x.rows) in
    rw (a, b)

-- where the records x with r are admitted, they have room, and are written as the sheet that an insert makes
module _ (x : Records) (r : Record) (n : ℕ) (e : accepted n ≡ then (admitted x.bytes.now r (said x)) (λ y. accepted (written_length y))) where
  taken : Admitted x.bytes.now r (said x) × (admitted x.bytes.now r (said x) ≡ accepted (with_plot r (said x)))
  taken =
      let m = map_accepted (admitted x.bytes.now r (said x)) written_length n (sym e) in
      let p = admitted_passed x.bytes.now r (said x) m.0 m.1 in
      (p.0, m.1 ∙ ap accepted p.1)

  pub taken_room :
      (x.rows.at + record_length * (x.rows.count + 1) + trailer_length ≤ length x.bytes.now) × (x.rows.at + record_length * (x.rows.count + 1) + trailer_length ≤ sheet_limit)
  taken_room = let f = taken.0 in let l = next_length_of x r in (rw (← l) f.within, rw (← l) f.short)

  pub taken_written : (len : ℕ) → parsed x.bytes.now len ≡ accepted (said x)
      → splice x.bytes.now x.rows.at (records_bytes record_length (put_in_order r (plots_of x))) ≡ left x.bytes.now (then (parsed x.bytes.now len) (admitted x.bytes.now r)) (written_over x.bytes.now)
  taken_written len p = over_records x.bytes.now x.rows.at (put_in_order r (plots_of x)) (omega (arith, x.within)) ∙ rw (p, taken.1)

module _ (s : List ℕ) (len : ℕ) (z : Trailer) (r : Record) (g : Good s len z) where
  pub next_length_is : sheet_length record_length (with_plot r (sheet_of s len z)) ≡ first len z.distance + record_length * (z.count + 1) + trailer_length
  next_length_is =
      let h = g.framing.holds in
      let a = length-take-le (first len z.distance) s (omega arith) in
      let b : length (with_plot r (sheet_of s len z)).plots ≡ z.count + 1 =
      length_put_in_order r (sheet_of s len z).plots ∙ omega (arith, length_plots z.length s (first len z.distance) z.count) in
      rw (a, b)

  -- which is told by its trailer
  pub next_length_stated : sheet_length record_length (with_plot r (sheet_of s len z)) ≡ grown_length s len z.count
  next_length_stated = next_length_is ∙ ap (λ (t : Trailer). first len t.distance + record_length * (z.count + 1) + trailer_length) g.is_trailer

-- ---- the order of the refusals

module _ (s : List ℕ) (len : ℕ) (r : Record) where
  -- the outline is refused, and nothing is touched
  pub insert_outline : {k : ℕ} → traced r.outline ≡ refused k → (refused k ≡ inserted s len r) × (s ≡ after_insert s len r)
  unfolding insertion inserted after_insert
  insert_outline e = rw e (refl, refl)

  -- the outline is accepted, and the sheet decides
  pub insert_sheet : {o : Octagon} → traced r.outline ≡ accepted o
      → (then (then (parsed s len) (admitted s r)) (λ z. accepted (written_length z)) ≡ inserted s len r)
      × (left s (then (parsed s len) (admitted s r)) (written_over s) ≡ after_insert s len r)
  unfolding insertion inserted after_insert
  insert_sheet e = rw e (refl, refl)
