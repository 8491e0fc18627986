-- Insert a plot: each answer is given exactly where its case of specs/WritingCases.antt holds (`insert_exactly`). Assumes nothing.
use mathlib.Core.Path.{◌≡◌, refl, sym, ap, ◌∙◌}
use mathlib.Core.Bool.{Bool, true, false, ◌||◌}
use mathlib.Core.Logic.{◌↔◌, ◌⊎◌, inl, inr}
use mathlib.Core.List.{List}
use Prim.Native.Nat.{ℕ, ◌<◌}
use native.Mathlib.Omega.{arith}
use lib.ListN.{length}
use lib.Dec.{ltb, eqb}
use borrow.Author.Tests.{ltb-true, ltb-false, eqb-true, eqb-false}
use Rattle.integers.proofs.Tests.{cases, or_false}
use Rattle.octagon.specs.Octagon.{Octagon}
use Rattle.octagon.specs.Outcome.{Outcome, accepted, refused, then}
use Rattle.octagon.proofs.Outcomes.{accepted_not_refused}
use Rattle.outline.specs.declared.Outline.{Outline}
use Rattle.outline.specs.Tracing.{traced}
use Rattle.outline.proofs.TracingCases.{Tracing, is_octagon, is_open, is_off, tracing}
use Rattle.outline.proofs.Tracings.{accepted_means, accepted_when, refused_not_closed, refused_off_map}
use Rattle.sheet.specs.declared.Record.{Record}
use Rattle.sheet.specs.declared.trailer.Trailer.{Trailer}
use Rattle.sheet.specs.Answers.{bad_number, no_room}
use Rattle.sheet.specs.Layout.{record_length}
use Rattle.sheet.specs.Order.{Present, present}
use Rattle.sheet.specs.Sheets.{sheet_limit, Sheet, sheet_of, sheet_length}
use Rattle.sheet.specs.Checking.{parsed, checked}
use Rattle.sheet.specs.Cases.{stated_plots}
use Rattle.sheet.specs.Writing.{written_length, with_plot, is_bad_number, has_no_room, admitted, inserted, grown_length}
use Rattle.sheet.specs.WritingCases.{Exceeds, GoodOutline, GoodSheet, InsertCase, plot_open, plot_off, sheet_refused, number_bad, sheet_full, inserts}
use Rattle.sheet.proofs.Order.{present_test, absent_test}
use Rattle.sheet.proofs.Checks.{inspected_good, parsed_sheet, checked_refused, checked_count, checked_counted}
use Rattle.sheet.proofs.CheckCases.{check_exactly}
use Rattle.sheet.proofs.Inserts.{admit_number, admit_room, admit_good, next_length_stated, insert_outline, insert_sheet}

-- ---- the tests

-- a test of either of two things: one of them holds, or neither does
one_holds : {A B : Type 0} (x y : Bool) → (x ≡ true → A) → (y ≡ true → B) → (x || y) ≡ true → A ⊎ B
one_holds true y f g e = inl (f refl)
one_holds false y f g e = inr (g e)

none_holds : {A B : Type 0} (x y : Bool) → (x ≡ false → ¬ A) → (y ≡ false → ¬ B) → (x || y) ≡ false → ¬ (A ⊎ B)
none_holds x y f g e (inl a) = f (or_false x y e).0 a
none_holds x y f g e (inr b) = g (or_false x y e).1 b

number_told : (v : ℕ) (rs : List Record) → is_bad_number v rs ≡ true → (v ≡ 0) ⊎ Present v rs
number_told v rs = one_holds (eqb v 0) (present v rs) (eqb-true v 0) (present_test v rs)

number_good : (v : ℕ) (rs : List Record) → is_bad_number v rs ≡ false → ¬ ((v ≡ 0) ⊎ Present v rs)
number_good v rs = none_holds (eqb v 0) (present v rs) (eqb-false v 0) (absent_test v rs)

-- a number that is not above another
not_above : (m n : ℕ) → ltb m n ≡ false → ¬ (m < n)
not_above m n e h = omega (arith, ltb-false m n e)

-- the length n exceeds the buffer or the limit, or it does not
pub room_told : (s : List ℕ) (n : ℕ) → has_no_room s n ≡ true → Exceeds s n
room_told s n = one_holds (ltb (length s) n) (ltb sheet_limit n) (ltb-true (length s) n) (ltb-true sheet_limit n)

pub room_good : (s : List ℕ) (n : ℕ) → has_no_room s n ≡ false → ¬ (Exceeds s n)
room_good s n = none_holds (ltb (length s) n) (ltb sheet_limit n) (not_above (length s) n) (not_above sheet_limit n)

-- ---- the outline

good_traced : (o : Outline) (a : Octagon) → traced o ≡ accepted a → GoodOutline o
good_traced o a e =
    let m = accepted_means o a e in
    record { closed = m.closed; on_the_map = λ x y i. m.on_the_map x y ((m.same_cells x y).1 i) }

-- ---- each answer

module _ (s : List ℕ) (len : ℕ) (r : Record) where
  -- the sheet decides, where the outline is good
  by_sheet : GoodOutline r.outline → {t : Outcome Sheet} → then (parsed s len) (admitted s r) ≡ t → inserted s len r ≡ then t (λ z. accepted (written_length z))
  by_sheet g e = let a = accepted_when r.outline g.closed g.on_the_map in rw (← e) (sym (insert_sheet s len r a.1).0)

  from_sheet : {e : ℕ} → GoodOutline r.outline → checked s len ≡ refused e → inserted s len r ≡ refused e
  from_sheet {e} g q = go (parsed s len) refl
    where
      go : (t : Outcome Sheet) → parsed s len ≡ t → inserted s len r ≡ refused e
      go (refused n) f = by_sheet g {t = refused n} (rw f) ∙ sym (checked_refused s len f) ∙ q
      go (accepted y) f = absurd (accepted_not_refused (sym (checked_count s len f) ∙ q))

  -- a sheet that checks with c records: those that its trailer states, and the length with one more
  module _ {c : ℕ} (g : GoodOutline r.outline) (e : checked s len ≡ accepted c) where
    says : (z : Sheet) × (parsed s len ≡ accepted z) × (z.plots ≡ stated_plots s len) × (sheet_length record_length (with_plot r z) ≡ grown_length s len c)
    says =
        let d = checked_counted s len c e in
        let z = d.trailer in
        let f = inspected_good s len z d.is_inspected in (
          sheet_of s len z,
          parsed_sheet s len d.is_inspected,
          ap (λ (t : Trailer). (sheet_of s len t).plots) f.is_trailer,
          next_length_stated s len z r f ∙ ap (grown_length s len) d.count_is,
        )

    by_record : {t : Outcome Sheet} → admitted s r says.0 ≡ t → inserted s len r ≡ then t (λ z. accepted (written_length z))
    by_record {t} q = by_sheet g {t = t} (rw says.1 q)

    from_number : is_bad_number r.number (stated_plots s len) ≡ true → inserted s len r ≡ refused bad_number
    from_number t = by_record (admit_number s r says.0 (rw says.2 t))

    module _ (t : is_bad_number r.number (stated_plots s len) ≡ false) where
      from_room : has_no_room s (grown_length s len c) ≡ true → inserted s len r ≡ refused no_room
      from_room u = by_record (admit_room s r says.0 (rw says.2 t) (rw says.3 u))

      from_good : has_no_room s (grown_length s len c) ≡ false → inserted s len r ≡ accepted (grown_length s len c)
      from_good u = by_record (admit_good s r says.0 (rw says.2 t) (rw says.3 u)) ∙ ap accepted says.3

  sheet_case : GoodOutline r.outline → (t : Outcome ℕ) → checked s len ≡ t → InsertCase s len r (inserted s len r)
  sheet_case g (refused k) e = rw (from_sheet g e) (sheet_refused g ((check_exactly s len (refused k)).0 e))
  sheet_case g (accepted c) e =
      let h : GoodSheet s len r c = record { outline = g; sheet = (check_exactly s len (accepted c)).0 e } in
      cases (is_bad_number r.number (stated_plots s len))
      (λ t. rw (from_number g e t) (number_bad h (number_told r.number (stated_plots s len) t)))
      (λ t. cases (has_no_room s (grown_length s len c))
      (λ u. rw (from_room g e t u) (sheet_full h (number_good r.number (stated_plots s len) t) (room_told s (grown_length s len c) u)))
      (λ u. rw (from_good g e t u) (inserts h (number_good r.number (stated_plots s len) t) (room_good s (grown_length s len c) u))))

  insert_case : InsertCase s len r (inserted s len r)
  insert_case = go (tracing r.outline) refl
    where
      go : {t : Outcome Octagon} → Tracing r.outline t → traced r.outline ≡ t → InsertCase s len r (inserted s len r)
      go (is_open f) e = rw (← (insert_outline s len r e).0) (plot_open f)
      go (is_off k f) e = rw (← (insert_outline s len r e).0) (plot_off k f)
      go (is_octagon a _ _ _ _) e = sheet_case (good_traced r.outline a e) (checked s len) refl

  -- "The outline's 3 and 2, the check's refusals, 11 .., 12 ..": each exactly, and else the new length
  pub insert_exactly : (o : Outcome ℕ) → (inserted s len r ≡ o) ↔ InsertCase s len r o
  insert_exactly o = (λ e. rw e at insert_case, given)
    where
      given : {o : Outcome ℕ} → InsertCase s len r o → inserted s len r ≡ o
      given (plot_open f) = sym (insert_outline s len r ((refused_not_closed r.outline).1 f)).0
      given (plot_off k f) = sym (insert_outline s len r ((refused_off_map r.outline).1 (k, f))).0
      given (sheet_refused {e = n} g f) = from_sheet g ((check_exactly s len (refused n)).1 f)
      given (number_bad {c = c} h b) =
          cases (is_bad_number r.number (stated_plots s len)) (from_number h.outline ((check_exactly s len (accepted c)).1 h.sheet))
          (λ t. absurd (number_good r.number (stated_plots s len) t b))
      given (sheet_full {c = c} h b f) =
          cases (is_bad_number r.number (stated_plots s len)) (λ t. absurd (b (number_told r.number (stated_plots s len) t)))
          (λ t. cases (has_no_room s (grown_length s len c)) (from_room h.outline ((check_exactly s len (accepted c)).1 h.sheet) t)
          (λ u. absurd (room_good s (grown_length s len c) u f)))
      given (inserts {c = c} h b f) =
          cases (is_bad_number r.number (stated_plots s len)) (λ t. absurd (b (number_told r.number (stated_plots s len) t)))
          (λ t. cases (has_no_room s (grown_length s len c)) (λ u. absurd (f (room_told s (grown_length s len c) u)))
          (from_good h.outline ((check_exactly s len (accepted c)).1 h.sheet) t))
