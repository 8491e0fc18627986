-- A sheet that is started: each answer is given exactly where its case of specs/WritingCases.antt holds (`start_exactly`); a refused
-- start leaves every byte (`start_refused`), and an accepted one a sheet that checks with no records (`start_accepted`). Assumes nothing.
use mathlib.Core.Path.{◌≡◌, refl, sym}
use mathlib.Core.Logic.{◌↔◌}
use mathlib.Core.List.{List, []}
use Prim.Native.Nat.{ℕ, ◌+◌, ◌-◌, ◌≤◌, ◌<◌}
use native.Mathlib.Omega.{arith}
use lib.ListN.{length, take}
use lib.Seq.{length-take-le}
use lib.Dec.{ltb}
use borrow.Author.Tests.{lt-ltb, le-ltb, ltb-true, ltb-false}
use Rattle.integers.proofs.Tests.{cases}
use Rattle.octagon.specs.Outcome.{Outcome, accepted, refused}
use Rattle.octagon.proofs.Outcomes.{accepted_same, accepted_not_refused}
use Rattle.records.specs.Parts.{splice}
use Rattle.sheet.specs.Answers.{bad_length, no_room}
use Rattle.sheet.specs.Layout.{record_length}
use Rattle.sheet.specs.Trailer.{trailer_length, trailer}
use Rattle.sheet.specs.Order.{none, last}
use Rattle.sheet.specs.Sheets.{sheet_limit, Sheet, records_bytes, sheet_length}
use Rattle.sheet.specs.Writing.{written_over, started, after_start, StartedSheet}
use Rattle.sheet.specs.WritingCases.{StartCase, above_limit, above_buffer, starts}
use Rattle.sheet.proofs.Overwritten.{over_parsed, over_trailer, over_heading, over_past, over_length, over_records}
use Rattle.sheet.proofs.Checks.{checked_count}

-- a heading of h bytes, and no records
abbrev pub empty : List ℕ → ℕ → Sheet
empty s h = record { heading = take h s; plots = [] }

-- each answer, and what is left in the buffer
module _ (s : List ℕ) (h : ℕ) where
  pub start_long : sheet_limit < h + trailer_length → (refused bad_length ≡ started s h) × (s ≡ after_start s h)
  unfolding started after_start
  start_long l = rw (lt-ltb sheet_limit (h + trailer_length) l) (refl, refl)

  pub start_full : h + trailer_length ≤ sheet_limit → length s < h + trailer_length → (refused no_room ≡ started s h) × (s ≡ after_start s h)
  unfolding started after_start
  start_full l m = rw (le-ltb sheet_limit (h + trailer_length) l, lt-ltb (length s) (h + trailer_length) m) (refl, refl)

  pub start_made : h + trailer_length ≤ sheet_limit → h + trailer_length ≤ length s
      → (accepted (h + trailer_length) ≡ started s h) × (written_over s (empty s h) ≡ after_start s h)
  unfolding started after_start
  start_made l m = rw (le-ltb sheet_limit (h + trailer_length) l, le-ltb (length s) (h + trailer_length) m) (refl, refl)

  start_case : StartCase s h (started s h)
  start_case =
      cases (ltb sheet_limit (h + trailer_length))
      (λ t. let l = ltb-true sheet_limit (h + trailer_length) t in rw (← (start_long l).0) (above_limit l))
      (λ t. let l = ltb-false sheet_limit (h + trailer_length) t in
      cases (ltb (length s) (h + trailer_length))
      (λ u. let m = ltb-true (length s) (h + trailer_length) u in rw (← (start_full l m).0) (above_buffer l m))
      (λ u. let m = ltb-false (length s) (h + trailer_length) u in rw (← (start_made l m).0) (starts l m)))

  -- "8 when h+16 exceeds 65,536. 12 when it exceeds the buffer. .. It answers h+16": each exactly
  pub start_exactly : (o : Outcome ℕ) → (started s h ≡ o) ↔ StartCase s h o
  start_exactly o = (λ e. rw e at start_case, given)
    where
      given : {o : Outcome ℕ} → StartCase s h o → started s h ≡ o
      given (above_limit l) = sym (start_long l).0
      given (above_buffer l m) = sym (start_full l m).0
      given (starts l m) = sym (start_made l m).0

-- ---- what they leave

-- "A refused call alters nothing it was lent": every byte is as it was
pub start_refused : (s : List ℕ) (h k : ℕ) → started s h ≡ refused k → after_start s h ≡ s
unfolding after_start
start_refused s h k e = rw e

started_passed : (s : List ℕ) (h n : ℕ) → started s h ≡ accepted n
    → (h + trailer_length ≤ sheet_limit) × (h + trailer_length ≤ length s) × (n ≡ h + trailer_length)
started_passed s h n e = go ((start_exactly s h (accepted n)).0 e) refl
  where
    go : {o : Outcome ℕ} → StartCase s h o → o ≡ accepted n → (h + trailer_length ≤ sheet_limit) × (h + trailer_length ≤ length s) × (n ≡ h + trailer_length)
    go (above_limit l) q = absurd (accepted_not_refused (sym q))
    go (above_buffer l m) q = absurd (accepted_not_refused (sym q))
    go (starts l m) q = (l, m, sym (accepted_same q))

-- the trailer alone is written
pub start_trailer : (s : List ℕ) (h : ℕ) → h + trailer_length ≤ length s → splice s h (trailer record_length 0) ≡ written_over s (empty s h)
unfolding records_bytes
start_trailer s h m = over_records s h [] (omega arith)

-- "Only the 16 trailer bytes are written, after the heading, with distance and count 0. It answers h+16."
pub start_accepted : (s : List ℕ) (h n : ℕ) → started s h ≡ accepted n → StartedSheet s (after_start s h) h n
start_accepted s h n e =
    let p = started_passed s h n e in
    let l = length-take-le h s (omega (arith, p.1)) in
    let m : n ≡ sheet_length record_length (empty s h) = omega (arith, p.2) in
    let d : sheet_length record_length (empty s h) - trailer_length ≡ h = omega arith in
    rw (sym (start_made s h p.0 p.1).1) (record {
      length_is = p.2;
      checks = rw m (checked_count _ _ (over_parsed s (empty s h) (omega (arith, p.0)) none last));
      trailer_is = rw d at (over_trailer s (empty s h) (omega (arith, p.0)));
      heading = rw l at (over_heading s (empty s h));
      past = rw m (over_past s (empty s h));
      same_length = over_length s (empty s h) (omega (arith, p.1));
    })
