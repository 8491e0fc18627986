-- Convert a sheet: each answer is given exactly where its case of specs/ConvertingCases.antt holds (`convert_exactly`), and a sheet of more
-- records than the limit holds at 26 has no room in any buffer (`convert_full`). Assumes nothing.
use mathlib.Core.Path.{◌≡◌, refl, sym, ap, ◌∙◌}
use mathlib.Core.Bool.{true, false}
use mathlib.Core.Logic.{◌↔◌, inr}
use mathlib.Core.List.{List, [], ◌∷◌}
use Prim.Native.Nat.{ℕ, zero, suc, ◌<◌}
use native.Mathlib.Omega.{arith}
use Rattle.integers.proofs.Tests.{cases, or_false, true_is_not_false}
use Rattle.octagon.specs.Outcome.{Outcome, accepted, refused, then}
use Rattle.octagon.proofs.Outcomes.{accepted_same}
use Rattle.sheet.specs.declared.Record.{Record}
use Rattle.sheet.specs.Answers.{no_room, off_old_map}
use Rattle.sheet.specs.Layout.{fee_length}
use Rattle.sheet.specs.Merging.{Among}
use Rattle.sheet.specs.Sheets.{Sheet, sheet_length}
use Rattle.sheet.specs.Checking.{checked}
use Rattle.sheet.specs.Cases.{stated_plots}
use Rattle.sheet.specs.Writing.{has_no_room}
use Rattle.sheet.specs.Converting.{is_stray, strays, narrowed, converted, converted_length}
use Rattle.sheet.specs.ConvertingCases.{StrayPlot, ConvertCase, sheet_refused, strayed, too_long, converts}
use Rattle.sheet.proofs.Order.{ascending_at}
use Rattle.sheet.proofs.CheckCases.{check_exactly}
use Rattle.sheet.proofs.InsertCases.{room_told, room_good}
use Rattle.sheet.proofs.Members.{not_among_nil, parsed_among, stated_sheet, checked_stated}
use Rattle.sheet.proofs.JoinCases.{refused_parsed}
use Rattle.sheet.proofs.Strays.{stray_leaves, leaves_stray}
use Rattle.sheet.proofs.Conversions.{narrow_stray, narrow_room, narrow_good, convert_first, convert_rest}

-- ---- a plot that leaves the old map, among others

strays_found : (rs : List Record) → strays rs ≡ true → (r : Record) × Among r rs × (is_stray r ≡ true)
strays_found [] e = absurd (true_is_not_false (sym e))
strays_found (r ∷ rs) e = cases (is_stray r) (λ h. (r, (0, refl), h)) (λ h. further (strays_found rs (rw h at e)))
  where
    further : (q : Record) × Among q rs × (is_stray q ≡ true) → (q : Record) × Among q (r ∷ rs) × (is_stray q ≡ true)
    further (q, (k, f), g) = (q, (suc k, f), g)

strays_none : (rs : List Record) → strays rs ≡ false → (r : Record) → Among r rs → is_stray r ≡ false
strays_none [] e r m = absurd (not_among_nil r m)
strays_none (q ∷ rs) e r (zero, m) = rw (← accepted_same m) (or_false (is_stray q) (strays rs) e).0
strays_none (q ∷ rs) e r (suc k, m) = strays_none rs (or_false (is_stray q) (strays rs) e).1 r (k, m)

-- ---- of a sheet that checks, with c records

module _ (s : List ℕ) (len : ℕ) {c : ℕ} (e : checked s len ≡ accepted c) where
  pub stray_told : strays (stated_plots s len) ≡ true → StrayPlot s len
  stray_told h =
      let f = strays_found (stated_plots s len) h in
      let g = checked_stated s len c e in
      record {
        plot = f.0;
        in_sheet = (parsed_among s len g.is_parsed f.0).1 f.1;
        leaves_old_map = stray_leaves f.0 (ascending_at f.1.0 f.0 f.1.1 g.ascending) f.2;
      }

  pub stray_none : strays (stated_plots s len) ≡ false → ¬ (StrayPlot s len)
  stray_none h p =
      leaves_stray p.plot p.leaves_old_map
      (strays_none (stated_plots s len) h p.plot ((parsed_among s len (checked_stated s len c e).is_parsed p.plot).0 p.in_sheet))

  -- and the other way round
  pub none_strays : ¬ (StrayPlot s len) → strays (stated_plots s len) ≡ false
  none_strays f = cases (strays (stated_plots s len)) (λ h. absurd (f (stray_told h))) (λ h. h)

  pub back_length : sheet_length fee_length (stated_sheet s len) ≡ converted_length s len c
  back_length = rw ((checked_stated s len c e).many, (checked_stated s len c e).heading_long)

-- ---- each answer

module _ (s : List ℕ) (len : ℕ) (u : List ℕ) where
  from_check : {k : ℕ} → checked s len ≡ refused k → converted s len u ≡ refused k
  from_check {k} e = sym (convert_first s len u (refused_parsed s len k e)).0

  module _ {c : ℕ} (e : checked s len ≡ accepted c) where
    by_sheet : {x : Outcome Sheet} → narrowed u (stated_sheet s len) ≡ x → converted s len u ≡ then x (λ z. accepted (sheet_length fee_length z))
    by_sheet h = rw (← h) (sym (convert_rest s len u (checked_stated s len c e).is_parsed).0)

    from_stray : strays (stated_plots s len) ≡ true → converted s len u ≡ refused off_old_map
    from_stray h = by_sheet (narrow_stray u (stated_sheet s len) h)

    module _ (h : strays (stated_plots s len) ≡ false) where
      from_room : has_no_room u (converted_length s len c) ≡ true → converted s len u ≡ refused no_room
      from_room r = by_sheet (narrow_room u (stated_sheet s len) h (rw (back_length s len e) r))

      from_good : has_no_room u (converted_length s len c) ≡ false → converted s len u ≡ accepted (converted_length s len c)
      from_good r = by_sheet (narrow_good u (stated_sheet s len) h (rw (back_length s len e) r)) ∙ ap accepted (back_length s len e)

  convert_case : ConvertCase s len u (converted s len u)
  convert_case = go (checked s len) refl
    where
      go : (x : Outcome ℕ) → checked s len ≡ x → ConvertCase s len u (converted s len u)
      go (refused k) e = rw (from_check e) (sheet_refused ((check_exactly s len (refused k)).0 e))
      go (accepted c) e =
          let g = (check_exactly s len (accepted c)).0 e in
          let l = converted_length s len c in
          cases (strays (stated_plots s len))
          (λ h. rw (from_stray e h) (strayed g (stray_told s len e h)))
          (λ h. cases (has_no_room u l)
          (λ r. rw (from_room e h r) (too_long g (stray_none s len e h) (room_told u l r)))
          (λ r. rw (from_good e h r) (converts g (stray_none s len e h) (room_good u l r))))

  -- the check's refusals, then 21, then 12: each exactly, and else the new length
  pub convert_exactly : (o : Outcome ℕ) → (converted s len u ≡ o) ↔ ConvertCase s len u o
  convert_exactly o = (λ e. rw e at convert_case, given)
    where
      given : {o : Outcome ℕ} → ConvertCase s len u o → converted s len u ≡ o
      given (sheet_refused {e = k} g) = from_check ((check_exactly s len (refused k)).1 g)
      given (strayed {c = c} g p) =
          let e = (check_exactly s len (accepted c)).1 g in
          cases (strays (stated_plots s len)) (from_stray e) (λ h. absurd (stray_none s len e h p))
      given (too_long {c = c} g p x) =
          let e = (check_exactly s len (accepted c)).1 g in
          let l = converted_length s len c in
          cases (has_no_room u l) (from_room e (none_strays s len e p)) (λ r. absurd (room_good u l r x))
      given (converts {c = c} g p x) =
          let e = (check_exactly s len (accepted c)).1 g in
          let l = converted_length s len c in
          cases (has_no_room u l) (λ r. absurd (x (room_told u l r))) (from_good e (none_strays s len e p))

-- 2,520 records are the most that a sheet holds at 26: one of 24 with more, up to the 2,730 that it holds, has no room in any buffer
pub convert_full : (s : List ℕ) (len : ℕ) (u : List ℕ) (c : ℕ) → checked s len ≡ accepted c → 2520 < c → ¬ (StrayPlot s len)
    → converted s len u ≡ refused no_room
convert_full s len u c e h p =
    (convert_exactly s len u (refused no_room)).1 (too_long ((check_exactly s len (accepted c)).0 e) p (inr (omega arith)))
