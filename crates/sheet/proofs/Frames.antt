-- The frame of a sheet, its length and its trailer: what each test says, that a frame is accepted exactly where it is good and refused
-- exactly where it has a fault, and that its records then lie in the buffer. Assumes nothing.
use mathlib.Core.Path.{◌≡◌, refl, sym, ap, ◌∙◌}
use mathlib.Core.Bool.{true, false, not, ◌||◌}
use mathlib.Core.List.{List}
use Prim.Native.Nat.{ℕ, ◌+◌, ◌-◌, ◌*◌, ◌≤◌}
use native.Mathlib.Omega.{arith}
use native.Mathlib.Nat.{mul-le-mul_right}
use lib.ListN.{length}
use lib.Dec.{ltb, eqb}
use Rattle.integers.proofs.Tests.{cases, or_false, true_is_not_false}
use borrow.Author.Tests.{ltb-false, le-ltb, eqb-true, eq-eqb, not-false}
use Rattle.octagon.specs.Outcome.{Outcome, accepted, refused}
use Rattle.octagon.proofs.Outcomes.{accepted_same, past_test}
use Rattle.sheet.specs.declared.trailer.Trailer.{Trailer}
use Rattle.sheet.specs.Layout.{base_length, IsRecordLength, is_record_length}
use Rattle.sheet.specs.Trailer.{trailer_length, letters, trailer_at}
use Rattle.sheet.specs.Sheets.{sheet_limit}
use Rattle.sheet.specs.Answers.{bad_length, bad_trailer, bad_distance}
use Rattle.sheet.specs.Checking.{is_bad_length, has_bad_marks, is_bad_distance, stated, framed}
use Rattle.sheet.specs.Cases.{GoodLength, GoodMarks, GoodDistance, GoodFrame, FrameFault, wrong_size, unmarked, misplaced}
use Rattle.sheet.proofs.Layouts.{tests_length, passes_length_test, shortest}

-- ---- the length

pub good_length : (s : List ℕ) (len : ℕ) → is_bad_length s len ≡ false → GoodLength s len
good_length s len e =
    let p = or_false (ltb len trailer_length || ltb sheet_limit len) (ltb (length s) len) e in
    let q = or_false (ltb len trailer_length) (ltb sheet_limit len) p.0 in
    record { long = ltb-false len trailer_length q.0; short = ltb-false sheet_limit len q.1; within = ltb-false (length s) len p.1 }

pub passes_length : (s : List ℕ) (len : ℕ) → GoodLength s len → is_bad_length s len ≡ false
passes_length s len h = rw (le-ltb len trailer_length h.long, le-ltb sheet_limit len h.short, le-ltb (length s) len h.within)

-- ---- the trailer

pub good_marks : (z : Trailer) → has_bad_marks z ≡ false → GoodMarks z
good_marks z e =
    let a = or_false (not (is_record_length z.length) || not (eqb z.zeros 0)) (not (eqb z.letters letters)) e in
    let b = or_false (not (is_record_length z.length)) (not (eqb z.zeros 0)) a.0 in
    record {
      length_is = tests_length z.length (not-false _ b.0);
      zeros_are = eqb-true z.zeros 0 (not-false _ b.1);
      letters_are = eqb-true z.letters letters (not-false _ a.1);
    }

pub passes_marks : (z : Trailer) → GoodMarks z → has_bad_marks z ≡ false
passes_marks z h = rw (passes_length_test z.length h.length_is, h.zeros_are, h.letters_are)

pub good_distance : (len : ℕ) (z : Trailer) → is_bad_distance len z ≡ false → GoodDistance len z
good_distance len z e =
    let d = or_false (not (eqb z.distance (z.length * z.count))) (ltb (len - trailer_length) z.distance) e in
    record {
      distance_is = eqb-true z.distance (z.length * z.count) (not-false _ d.0);
      near = ltb-false (len - trailer_length) z.distance d.1;
    }

pub passes_distance : (len : ℕ) (z : Trailer) → GoodDistance len z → is_bad_distance len z ≡ false
passes_distance len z h = rw (eq-eqb z.distance (z.length * z.count) h.distance_is, le-ltb (len - trailer_length) z.distance h.near)

-- ---- the frame

-- a frame is accepted exactly where it is good, with the trailer at its end
pub framed_good : (s : List ℕ) (len : ℕ) (z : Trailer) → framed s len ≡ accepted z → GoodFrame s len z.count × (z ≡ trailer_at s (len - trailer_length))
unfolding framed stated
framed_good s len z e =
    let t = trailer_at s (len - trailer_length) in
    let p = past_test (is_bad_length s len) bad_length _ z e in
    let q = past_test (has_bad_marks t) bad_trailer _ z p.1 in
    let r = past_test (is_bad_distance len t) bad_distance _ z q.1 in
    let f = accepted_same r.1 in
    (record { size = good_length s len p.0; marks = good_marks t q.0; distance = good_distance len t r.0; count = ap (λ (x : Trailer). x.count) f }, sym f)

pub framed_when : (s : List ℕ) (len c : ℕ) → GoodFrame s len c → framed s len ≡ accepted (trailer_at s (len - trailer_length))
unfolding framed stated
framed_when s len c h =
    let z = trailer_at s (len - trailer_length) in
    rw (passes_length s len h.size, passes_marks z h.marks, passes_distance len z h.distance)

-- and refused with the first fault that it has
module _ (s : List ℕ) (len : ℕ) where
  abbrev at_end : Trailer
  at_end = trailer_at s (len - trailer_length)

  -- the length first, and then the trailer
  pub length_refused : is_bad_length s len ≡ true → framed s len ≡ refused bad_length
  unfolding framed
  length_refused a = rw a

  pub framed_stated : is_bad_length s len ≡ false → framed s len ≡ stated len at_end
  unfolding framed
  framed_stated a = rw a

  marks_refused : is_bad_length s len ≡ false → has_bad_marks at_end ≡ true → framed s len ≡ refused bad_trailer
  unfolding stated
  marks_refused a b = framed_stated a ∙ rw b

  distance_refused : is_bad_length s len ≡ false → has_bad_marks at_end ≡ false → is_bad_distance len at_end ≡ true → framed s len ≡ refused bad_distance
  unfolding stated
  distance_refused a b d = framed_stated a ∙ rw (b, d)

  -- either it is good, or it has a fault
  pub data FrameCase : Outcome Trailer → Type 0 where
    is_good : GoodFrame s len at_end.count → FrameCase (accepted at_end)
    is_faulty : {e : ℕ} → FrameFault s len e → FrameCase (refused e)

  pub frame_case : FrameCase (framed s len)
  frame_case =
      cases (is_bad_length s len)
      (λ a. rw (length_refused a) (is_faulty (wrong_size (λ h. true_is_not_false (sym a ∙ passes_length s len h)))))
      (λ a. let l = good_length s len a in
      cases (has_bad_marks at_end)
      (λ b. rw (marks_refused a b) (is_faulty (unmarked l (λ h. true_is_not_false (sym b ∙ passes_marks at_end h)))))
      (λ b. let m = good_marks at_end b in
      cases (is_bad_distance len at_end)
      (λ d. rw (distance_refused a b d) (is_faulty (misplaced l m (λ h. true_is_not_false (sym d ∙ passes_distance len at_end h)))))
      (λ d. let f : GoodFrame s len at_end.count = record { size = l; marks = m; distance = good_distance len at_end d; count = refl } in
      rw (framed_when s len at_end.count f) (is_good f))))

  pub framed_refused : {e : ℕ} → FrameFault s len e → framed s len ≡ refused e
  framed_refused (wrong_size h) = cases (is_bad_length s len) length_refused (λ a. absurd (h (good_length s len a)))
  framed_refused (unmarked l h) = cases (has_bad_marks at_end) (marks_refused (passes_length s len l)) (λ a. absurd (h (good_marks at_end a)))
  framed_refused (misplaced l m h) =
      cases (is_bad_distance len at_end) (distance_refused (passes_length s len l) (passes_marks at_end m)) (λ a. absurd (h (good_distance len at_end a)))

-- so a sheet has no more records than one of document 01's records can hold
pub frame_few : (s : List ℕ) (len c : ℕ) → GoodFrame s len c → base_length * c + trailer_length ≤ sheet_limit
frame_few s len c f =
    let L = (trailer_at s (len - trailer_length)).length in
    let d : (trailer_at s (len - trailer_length)).distance ≡ L * c = f.distance.distance_is ∙ ap (λ (n : ℕ). L * n) f.count in
    omega (arith, d, f.distance.near, f.size.long, f.size.short, mul-le-mul_right c (shortest L f.marks.length_is))

-- the first len bytes of s are as many as a sheet may have, and have room for d bytes of records and a trailer
pub record HoldsRecords (s : List ℕ) (len d : ℕ) : Type 0 where
  pub within : len ≤ length s
  pub short : len ≤ sheet_limit
  pub long : d + trailer_length ≤ len

-- what an accepted trailer says: its records have a length that records may have, and lie in the buffer before it
pub record Framing (s : List ℕ) (len : ℕ) (z : Trailer) : Type 0 where
  pub known : IsRecordLength z.length
  pub distance_is : z.distance ≡ z.length * z.count
  pub holds : HoldsRecords s len z.distance

pub framing : (s : List ℕ) (len : ℕ) (z : Trailer) → framed s len ≡ accepted z → Framing s len z
framing s len z e =
    let f = framed_good s len z e in
    let n = f.0.size in
    let m : GoodMarks z = rw f.1 f.0.marks in
    let d : GoodDistance len z = rw f.1 f.0.distance in
    record {
      known = m.length_is;
      distance_is = d.distance_is;
      holds = record { within = n.within; short = n.short; long = omega (arith, d.near) };
    }
