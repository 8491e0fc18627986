-- Join two sheets: each answer is given exactly where its case of specs/JoiningCases.antt holds (`join_exactly`). Assumes nothing.
use mathlib.Core.Path.{◌≡◌, refl, sym, ap, ◌∙◌}
use mathlib.Core.Bool.{true, false}
use mathlib.Core.Logic.{◌↔◌}
use mathlib.Core.List.{List}
use Prim.Native.Nat.{ℕ}
use Rattle.integers.proofs.Tests.{cases}
use Rattle.octagon.specs.Outcome.{Outcome, accepted, refused, then}
use Rattle.octagon.proofs.Outcomes.{refused_same, accepted_not_refused}
use Rattle.sheet.specs.Answers.{no_room, two_records}
use Rattle.sheet.specs.Merging.{conflict}
use Rattle.sheet.specs.Sheets.{Sheet}
use Rattle.sheet.specs.Checking.{parsed, checked}
use Rattle.sheet.specs.Cases.{stated_plots}
use Rattle.sheet.specs.Writing.{written_length, has_no_room}
use Rattle.sheet.specs.Joining.{united, joined, joined_count, joined_length}
use Rattle.sheet.specs.JoiningCases.{GoodSheets, TwoRecords, JoinCase, first_refused, second_refused, two_differ, too_long, joins}
use Rattle.sheet.proofs.Checks.{checked_refused, checked_count}
use Rattle.sheet.proofs.CheckCases.{check_exactly}
use Rattle.sheet.proofs.InsertCases.{room_told, room_good}
use Rattle.sheet.proofs.Members.{parsed_among, stated_sheet, checked_stated}
use Rattle.sheet.proofs.Agreement.{conflict_found, conflict_none}
use Rattle.sheet.proofs.Joins.{unite_differing, unite_room, unite_good, join_first, join_second, join_both, both_length}

-- what a check that refuses says of the sheet
pub refused_parsed : (s : List ℕ) (m k : ℕ) → checked s m ≡ refused k → parsed s m ≡ refused k
refused_parsed s m k e = go (parsed s m) refl
  where
    go : (x : Outcome Sheet) → parsed s m ≡ x → parsed s m ≡ refused k
    go (refused i) f = f ∙ ap refused (refused_same (sym (checked_refused s m f) ∙ e))
    go (accepted y) f = absurd (accepted_not_refused (sym (checked_count s m f) ∙ e))

module _ (s : List ℕ) (m : ℕ) (t : List ℕ) (n : ℕ) (u : List ℕ) where
  from_first : {k : ℕ} → checked s m ≡ refused k → joined s m t n u ≡ refused k
  from_first {k} e = sym (join_first s m t n u (refused_parsed s m k e)).0

  from_second : {c k : ℕ} → checked s m ≡ accepted c → checked t n ≡ refused k → joined s m t n u ≡ refused k
  from_second {c} {k} e f = sym (join_second s m t n u (checked_stated s m c e).is_parsed (refused_parsed t n k f)).0

  -- both sheets check, with c and d records
  module _ {c d : ℕ} (e : checked s m ≡ accepted c) (f : checked t n ≡ accepted d) where
    -- the test of two records that differ
    two_told : conflict (stated_plots s m) (stated_plots t n) ≡ true → TwoRecords s m t n
    two_told h =
        let g = conflict_found (stated_plots s m) (stated_plots t n) h in
        record {
          one = g.0;
          other = g.1;
          in_first = (parsed_among s m (checked_stated s m c e).is_parsed g.0).1 g.2;
          in_second = (parsed_among t n (checked_stated t n d f).is_parsed g.1).1 g.3;
          same_number = g.4;
          differing = g.5;
        }

    two_none : conflict (stated_plots s m) (stated_plots t n) ≡ false → ¬ (TwoRecords s m t n)
    two_none h g =
        g.differing (conflict_none (stated_plots s m) (stated_plots t n) h g.one g.other
        ((parsed_among s m (checked_stated s m c e).is_parsed g.one).0 g.in_first)
        ((parsed_among t n (checked_stated t n d f).is_parsed g.other).0 g.in_second)
        g.same_number)

    by_both : {x : Outcome Sheet} → united u (stated_sheet s m) (stated_sheet t n) ≡ x → joined s m t n u ≡ then x (λ z. accepted (written_length z))
    by_both h = rw (← h) (sym (join_both s m t n u (checked_stated s m c e).is_parsed (checked_stated t n d f).is_parsed).0)

    from_differing : conflict (stated_plots s m) (stated_plots t n) ≡ true → joined s m t n u ≡ refused two_records
    from_differing h = by_both (unite_differing u (stated_sheet s m) (stated_sheet t n) h)

    module _ (h : conflict (stated_plots s m) (stated_plots t n) ≡ false) where
      from_room : has_no_room u (joined_length s m (joined_count s m t n c d)) ≡ true → joined s m t n u ≡ refused no_room
      from_room r = by_both (unite_room u (stated_sheet s m) (stated_sheet t n) h (rw (both_length s m t n c d e f) r))

      from_good : has_no_room u (joined_length s m (joined_count s m t n c d)) ≡ false → joined s m t n u ≡ accepted (joined_length s m (joined_count s m t n c d))
      from_good r =
          by_both (unite_good u (stated_sheet s m) (stated_sheet t n) h (rw (both_length s m t n c d e f) r)) ∙ ap accepted (both_length s m t n c d e f)

  join_case : JoinCase s m t n u (joined s m t n u)
  join_case = go (checked s m) (checked t n) refl refl
    where
      go : (x y : Outcome ℕ) → checked s m ≡ x → checked t n ≡ y → JoinCase s m t n u (joined s m t n u)
      go (refused k) y e f = rw (from_first e) (first_refused ((check_exactly s m (refused k)).0 e))
      go (accepted c) (refused k) e f = rw (from_second e f) (second_refused ((check_exactly s m (accepted c)).0 e) ((check_exactly t n (refused k)).0 f))
      go (accepted c) (accepted d) e f =
          let g : GoodSheets s m t n c d = record { first_good = (check_exactly s m (accepted c)).0 e; second_good = (check_exactly t n (accepted d)).0 f } in
          let l = joined_length s m (joined_count s m t n c d) in
          cases (conflict (stated_plots s m) (stated_plots t n))
          (λ h. rw (from_differing e f h) (two_differ g (two_told e f h)))
          (λ h. cases (has_no_room u l)
          (λ r. rw (from_room e f h r) (too_long g (two_none e f h) (room_told u l r)))
          (λ r. rw (from_good e f h r) (joins g (two_none e f h) (room_good u l r))))

  -- "the first is checked before the second"; "18 .. after both checks and before 12": each exactly, and else the new length
  pub join_exactly : (o : Outcome ℕ) → (joined s m t n u ≡ o) ↔ JoinCase s m t n u o
  join_exactly o = (λ e. rw e at join_case, given)
    where
      given : {o : Outcome ℕ} → JoinCase s m t n u o → joined s m t n u ≡ o
      given (first_refused {e = k} g) = from_first ((check_exactly s m (refused k)).1 g)
      given (second_refused {c = c} {e = k} g h) = from_second ((check_exactly s m (accepted c)).1 g) ((check_exactly t n (refused k)).1 h)
      given (two_differ {c = c} {d = d} g b) =
          let e = (check_exactly s m (accepted c)).1 g.first_good in
          let f = (check_exactly t n (accepted d)).1 g.second_good in
          cases (conflict (stated_plots s m) (stated_plots t n)) (from_differing e f) (λ h. absurd (two_none e f h b))
      given (too_long {c = c} {d = d} g b x) =
          let e = (check_exactly s m (accepted c)).1 g.first_good in
          let f = (check_exactly t n (accepted d)).1 g.second_good in
          let l = joined_length s m (joined_count s m t n c d) in
          cases (conflict (stated_plots s m) (stated_plots t n)) (λ h. absurd (b (two_told e f h)))
          (λ h. cases (has_no_room u l) (from_room e f h) (λ r. absurd (room_good u l r x)))
      given (joins {c = c} {d = d} g b x) =
          let e = (check_exactly s m (accepted c)).1 g.first_good in
          let f = (check_exactly t n (accepted d)).1 g.second_good in
          let l = joined_length s m (joined_count s m t n c d) in
          cases (conflict (stated_plots s m) (stated_plots t n)) (λ h. absurd (b (two_told e f h)))
          (λ h. cases (has_no_room u l) (λ r. absurd (x (room_told u l r))) (from_good e f h))
