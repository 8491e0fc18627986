-- Check a sheet: each answer is given exactly where its case of specs/Cases.antt holds (`check_exactly`). Assumes nothing.
use mathlib.Core.Path.{◌≡◌, refl, ap, ◌∙◌}
use mathlib.Core.Logic.{◌↔◌}
use mathlib.Core.List.{List, [], ◌∷◌}
use Prim.Native.Nat.{ℕ, ◌-◌, ◌≤◌, ◌<◌}
use lib.Dec.{ltb}
use borrow.Author.Tests.{ltb-true, ltb-false, le-ltb, lt-ltb}
use Rattle.integers.proofs.Tests.{cases}
use Rattle.octagon.specs.Octagon.{Octagon}
use Rattle.octagon.specs.Cells.{limit}
use Rattle.octagon.specs.Outcome.{Outcome, accepted, refused, then}
use Rattle.outline.specs.Tracing.{traced_in}
use Rattle.outline.proofs.TracingCases.{TracingIn, is_octagon_in, is_open_in, is_off_in, tracing_in}
use Rattle.outline.proofs.Tracings.{in_not_closed, in_off_map}
use Rattle.sheet.specs.declared.Record.{Record}
use Rattle.sheet.specs.declared.trailer.Trailer.{Trailer}
use Rattle.sheet.specs.Trailer.{trailer_length, trailer_at}
use Rattle.sheet.specs.Order.{Ascending, last, next}
use Rattle.sheet.specs.Checking.{framed, judged, surveyed, inspected, checked}
use Rattle.sheet.specs.Cases.{GoodFrame, stated_plots, stated_limit, HasOctagonIn, Faulty, wrong_number, open_outline, off_outline, later, CheckCase, frame_wrong, faulty, right}
use Rattle.sheet.proofs.Frames.{framed_when, framed_refused, FrameCase, is_good, is_faulty, frame_case}
use Rattle.sheet.proofs.Surveys.{judged_when, surveyed_when, limit_most}
use Rattle.sheet.proofs.Checks.{inspected_frame, inspected_records, parsed_refused, checked_refused, checked_trailer}

-- ---- the records

-- each answer of a survey, with what it says of the records
pub data SurveyCase {A : Type 0} (m : ℕ) (a : A) (before : ℕ) (rs : List Record) : Outcome A → Type 0 where
  all_good : Ascending (HasOctagonIn m) before rs → SurveyCase m a before rs (accepted a)
  one_faulty : {e : ℕ} → Faulty m before rs e → SurveyCase m a before rs (refused e)

module _ {A : Type 0} (m : ℕ) (small : m ≤ limit) (a : A) where
  pub survey_case : (before : ℕ) (rs : List Record) → SurveyCase m a before rs (surveyed m a before rs)
  unfolding surveyed judged
  survey_case before [] = all_good last
  survey_case before (r ∷ rs) =
      cases (ltb before r.number)
      (λ h. rw h (traces (ltb-true before r.number h) (survey_case r.number rs) (tracing_in m small r.outline) refl))
      (λ h. rw h (one_faulty (wrong_number (ltb-false before r.number h))))
    where
      on : {t : Outcome A} → before < r.number → HasOctagonIn m r → SurveyCase m a r.number rs t → SurveyCase m a before (r ∷ rs) t
      on l q (all_good g) = all_good (next l q g)
      on l q (one_faulty f) = one_faulty (later l q f)

      traces : before < r.number → SurveyCase m a r.number rs (surveyed m a r.number rs) → {o : Outcome Octagon} → TracingIn m r.outline o → traced_in m r.outline ≡ o
          → SurveyCase m a before (r ∷ rs) (then (then o (λ _. accepted r.number)) (λ v. surveyed m a v rs))
      traces l i (is_octagon_in o _ _) q = on l (o, q) i
      traces l i (is_open_in f) q = one_faulty (open_outline l f)
      traces l i (is_off_in k f) q = one_faulty (off_outline l k f)

  -- a record that is refused decides the survey
  pub surveyed_faulty : {before e : ℕ} {rs : List Record} → Faulty m before rs e → surveyed m a before rs ≡ refused e
  unfolding surveyed judged
  surveyed_faulty (wrong_number {before = v} {r = r} h) = rw (le-ltb v r.number h)
  surveyed_faulty (open_outline {before = v} {r = r} h f) = rw (lt-ltb v r.number h, (in_not_closed m small r.outline).1 f)
  surveyed_faulty (off_outline {before = v} {r = r} h k f) = rw (lt-ltb v r.number h, (in_off_map m small r.outline).1 (k, f))
  surveyed_faulty (later {before = v} {r = r} h t f) = rw (judged_when m v r h t) (surveyed_faulty f)

-- ---- the sheet

module _ (s : List ℕ) (len : ℕ) where
  refuses : {e : ℕ} → inspected s len ≡ refused e → checked s len ≡ refused e
  refuses q = checked_refused s len (parsed_refused s len q)

  -- one of them holds of any buffer and any length
  pub check_case : CheckCase s len (checked s len)
  check_case = go (frame_case s len) refl
    where
      on : {c : ℕ} {t : Outcome Trailer} → GoodFrame s len c → inspected s len ≡ t
          → SurveyCase (stated_limit s len) (trailer_at s (len - trailer_length)) 0 (stated_plots s len) t → CheckCase s len (checked s len)
      on f q (all_good g) = rw (checked_trailer s len q) (right (record { size = f.size; marks = f.marks; distance = f.distance; count = refl }) g)
      on f q (one_faulty h) = rw (refuses q) (faulty f h)

      go : {t : Outcome Trailer} → FrameCase s len t → framed s len ≡ t → CheckCase s len (checked s len)
      go (is_faulty h) q = rw (refuses (inspected_frame s len q)) (frame_wrong h)
      go (is_good f) q = on f (inspected_records s len q) (survey_case (stated_limit s len) (limit_most _) _ 0 (stated_plots s len))

  -- and each answer is given exactly where its case holds
  pub check_exactly : (o : Outcome ℕ) → (checked s len ≡ o) ↔ CheckCase s len o
  check_exactly o = (λ e. rw e at check_case, given)
    where
      given : {o : Outcome ℕ} → CheckCase s len o → checked s len ≡ o
      given (frame_wrong h) = refuses (inspected_frame s len (framed_refused s len h))
      given (faulty {c = c} f h) = refuses (inspected_records s len (framed_when s len c f) ∙ surveyed_faulty _ (limit_most _) _ h)
      given (right {c = c} f g) = checked_trailer s len (inspected_records s len (framed_when s len c f) ∙ surveyed_when _ _ g) ∙ ap accepted f.count
