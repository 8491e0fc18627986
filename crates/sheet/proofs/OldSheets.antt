-- A sheet whose trailer names 24 or 26 bytes a record, or a length that no record has, is checked, fetched from and read by the rules of such
-- sheets alone (`check_kept`, `fetch_kept`, `read_kept`); so what these accept is accepted, with the same value, of whatever sheet
-- (`count_kept`, `record_kept`). Assumes nothing.
use mathlib.Core.Path.{◌≡◌, refl, sym, ◌∙◌}
use mathlib.Core.Bool.{Bool, true, false, cond, ◌||◌}
use mathlib.Core.List.{List, [], ◌∷◌}
use Prim.Native.Nat.{ℕ, ◌-◌}
use native.Mathlib.Omega.{arith}
use lib.Dec.{eqb}
use borrow.Author.Tests.{ne_eqb, eqb-true, eqb-false}
use Rattle.integers.proofs.Tests.{cases}
use Rattle.octagon.specs.Outcome.{Outcome, accepted, refused, then, off_map}
use Rattle.octagon.specs.Cells.{limit}
use Rattle.octagon.specs.NormalForm.{is_within, is_on_map, placed}
use Rattle.octagon.proofs.Outcomes.{accepted_not_refused, then_accepted}
use Rattle.octagon.proofs.Within.{NearTo}
use Rattle.octagon.proofs.Map.{test_within, within_test}
use Rattle.outline.specs.declared.Outline.{Outline}
use Rattle.outline.specs.Closing.{closes}
use Rattle.outline.specs.Tracing.{drawn, traced, traced_in}
use Rattle.sheet.specs.declared.Record.{Record}
use Rattle.sheet.specs.declared.trailer.Trailer.{Trailer}
use Rattle.sheet.specs.Answers.{bad_length, bad_trailer, bad_distance}
use Rattle.sheet.specs.Layout.{base_length, fee_length, county_length, old_limit, map_limit}
use Rattle.sheet.specs.Trailer.{trailer_length, trailer_at}
use Rattle.sheet.specs.Sheets.{Sheet, sheet_of}
use Rattle.sheet.specs.Checking.{is_bad_length, has_bad_marks, is_bad_distance, stated, framed, judged, surveyed, inspected, parsed, checked, fetched, read}
use Rattle.sheet.specs.OldSheets.{old_traced, old_judged, old_surveyed, has_bad_old_marks, old_framed, old_parsed, old_checked, old_fetched, old_read}
use Rattle.sheet.proofs.Frames.{framed_good}
use Rattle.sheet.proofs.Surveys.{survey_then}

-- ---- the records, on the old map

trace_kept : (o : Outline) → traced_in old_limit o ≡ old_traced o
unfolding traced_in traced placed old_traced is_on_map
trace_kept o =
    cases (closes o)
    (λ c. cases (is_within old_limit (drawn o))
    (λ h. rw (c, h, larger (test_within old_limit (drawn o) h)) (rw h))
    (λ h. rw (c, h) (pick (is_within limit (drawn o)) h)))
    (λ c. rw c)
  where
    larger : NearTo old_limit (drawn o) → is_within limit (drawn o) ≡ true
    larger n = within_test limit (drawn o) (record { near0 = omega arith; near2 = omega arith; near4 = omega arith; near6 = omega arith })

    pick : (b : Bool) → is_within old_limit (drawn o) ≡ false
        → then (cond b (accepted (drawn o)) (refused off_map)) (λ a. cond (is_within old_limit a) (accepted a) (refused off_map)) ≡ refused off_map
    pick true h = rw h
    pick false h = refl

judge_kept : (before : ℕ) (r : Record) → judged old_limit before r ≡ old_judged before r
unfolding judged old_judged
judge_kept before r = rw (trace_kept r.outline)

survey_kept : (before : ℕ) (rs : List Record) → surveyed old_limit tt before rs ≡ old_surveyed before rs
unfolding surveyed old_surveyed
survey_kept before [] = refl
survey_kept before (r ∷ rs) = rw (judge_kept before r) (on (old_judged before r) (λ v. survey_kept v rs))
  where
    on : (o : Outcome ℕ) → ((v : ℕ) → surveyed old_limit tt v rs ≡ old_surveyed v rs)
        → then o (λ v. surveyed old_limit tt v rs) ≡ then o (λ v. old_surveyed v rs)
    on (accepted v) f = f v
    on (refused k) f = refl

-- ---- a sheet whose trailer does not name 46

map_old : (L : ℕ) → (L ≡ county_length → ⊥) → map_limit L ≡ old_limit
unfolding map_limit
map_old L n = rw (ne_eqb L county_length n)

marks_kept : (z : Trailer) → (z.length ≡ county_length → ⊥) → has_bad_marks z ≡ has_bad_old_marks z
marks_kept z n = rw (ne_eqb z.length county_length n, or_nothing (eqb z.length base_length || eqb z.length fee_length))
  where
    or_nothing : (b : Bool) → (b || false) ≡ b
    or_nothing true = refl
    or_nothing false = refl

module _ (s : List ℕ) (len : ℕ) where
  abbrev names : ℕ
  names = (trailer_at s (len - trailer_length)).length

  module _ (n : names ≡ county_length → ⊥) where
    frame_kept : framed s len ≡ old_framed s len
    unfolding framed stated old_framed
    frame_kept = rw (marks_kept (trailer_at s (len - trailer_length)) n)

    -- what is read of it, or the refusal
    pub parse_kept : parsed s len ≡ old_parsed s len
    unfolding parsed inspected old_parsed
    parse_kept = rw (← frame_kept) (go (framed s len) refl)
      where
        value : (z : Trailer) (o : Outcome (Unit {0}))
            → then (then o (λ _. accepted z)) (λ y. accepted (sheet_of s len y)) ≡ then o (λ _. accepted (sheet_of s len z))
        value z (accepted v) = refl
        value z (refused k) = refl

        go : (t : Outcome Trailer) → framed s len ≡ t
            → then (then t (λ z. surveyed (map_limit z.length) z 0 (sheet_of s len z).plots)) (λ z. accepted (sheet_of s len z))
            ≡ then t (λ z. then (old_surveyed 0 (sheet_of s len z).plots) (λ _. accepted (sheet_of s len z)))
        go (refused k) q = refl
        go (accepted z) q =
            let m : z.length ≡ county_length → ⊥ = rw (framed_good s len z q).1 n in
            let p = (sheet_of s len z).plots in
            rw (map_old z.length m, survey_then old_limit z 0 p, survey_kept 0 p) (value z (old_surveyed 0 p))

    -- "Sheets of 24 and 26 still read under their old limits": each answer, accepted or refused, is the one of those rules
    pub check_kept : checked s len ≡ old_checked s len
    unfolding checked old_checked
    check_kept = rw parse_kept

    pub fetch_kept : (k : ℕ) → fetched s len k ≡ old_fetched s len k
    unfolding fetched old_fetched
    fetch_kept k = rw parse_kept

    pub read_kept : (k : ℕ) → read s len k ≡ old_read s len k
    unfolding read old_read
    read_kept k = rw frame_kept

  -- ---- any sheet

  -- one whose trailer names 46 is no sheet by those rules
  old_unframed : names ≡ county_length → (z : Trailer) → ¬ (old_framed s len ≡ accepted z)
  unfolding old_framed
  old_unframed e z = go (is_bad_length s len)
    where
      go : (b : Bool) → ¬ (cond b (refused bad_length) (cond (has_bad_old_marks (trailer_at s (len - trailer_length))) (refused bad_trailer)
          (cond (is_bad_distance len (trailer_at s (len - trailer_length))) (refused bad_distance) (accepted (trailer_at s (len - trailer_length))))) ≡ accepted z)
      go true q = accepted_not_refused (sym q)
      go false q = accepted_not_refused (sym (rw e at q))

  old_unparsed : names ≡ county_length → (y : Sheet) → ¬ (old_parsed s len ≡ accepted y)
  unfolding old_parsed
  old_unparsed e y q = let t = then_accepted (old_framed s len) _ y q in old_unframed e t.between t.first

  -- so what those rules accept is accepted, and with the same value
  pub count_kept : (c : ℕ) → old_checked s len ≡ accepted c → checked s len ≡ accepted c
  unfolding old_checked
  count_kept c e =
      cases (eqb names county_length)
      (λ h. let t = then_accepted (old_parsed s len) _ c e in absurd (old_unparsed (eqb-true names county_length h) t.between t.first))
      (λ h. check_kept (eqb-false names county_length h) ∙ e)

  pub record_kept : (k : ℕ) (r : Record) → old_fetched s len k ≡ accepted r → fetched s len k ≡ accepted r
  unfolding old_fetched
  record_kept k r e =
      cases (eqb names county_length)
      (λ h. let t = then_accepted (old_parsed s len) _ r e in absurd (old_unparsed (eqb-true names county_length h) t.between t.first))
      (λ h. fetch_kept (eqb-false names county_length h) k ∙ e)
