-- A conversion step by step: what a sheet that is to be written back says, and the order of the refusals. Assumes nothing.
use mathlib.Core.Path.{◌≡◌, refl, sym, ap}
use mathlib.Core.Bool.{true, false}
use mathlib.Core.List.{List}
use Prim.Native.Nat.{ℕ, ◌+◌, ◌*◌, ◌≤◌}
use native.Mathlib.Omega.{arith}
use lib.ListN.{length}
use lib.Seq.{length-take-le}
use Rattle.octagon.specs.Outcome.{Outcome, accepted, refused, then, left}
use Rattle.octagon.proofs.Outcomes.{accepted_same, past_test}
use Rattle.sheet.specs.declared.stored.Records.{Records}
use Rattle.sheet.specs.Answers.{no_room, off_old_map}
use Rattle.sheet.specs.Layout.{fee_length}
use Rattle.sheet.specs.Trailer.{trailer_length}
use Rattle.sheet.specs.Sheets.{sheet_limit, Sheet, sheet_length}
use Rattle.sheet.specs.Stored.{plots_of, said}
use Rattle.sheet.specs.Checking.{parsed}
use Rattle.sheet.specs.Writing.{laid_over, has_no_room}
use Rattle.sheet.specs.Converting.{strays, narrowed, conversion, converted, after_convert}
use Rattle.sheet.proofs.RowsLeft.{rows_many}
use Rattle.sheet.proofs.Inserts.{room_kept}

-- ---- a sheet that is to be written back

module _ (u : List ℕ) (z : Sheet) where
  pub narrow_stray : strays z.plots ≡ true → narrowed u z ≡ refused off_old_map
  unfolding narrowed
  narrow_stray e = rw e

  pub narrow_room : strays z.plots ≡ false → has_no_room u (sheet_length fee_length z) ≡ true → narrowed u z ≡ refused no_room
  unfolding narrowed
  narrow_room e f = rw (e, f)

  pub narrow_good : strays z.plots ≡ false → has_no_room u (sheet_length fee_length z) ≡ false → narrowed u z ≡ accepted z
  unfolding narrowed
  narrow_good e f = rw (e, f)

  -- what one that is accepted says
  pub record Narrowed : Type 0 where
    pub on_old_map : strays z.plots ≡ false
    pub within : sheet_length fee_length z ≤ length u
    pub short : sheet_length fee_length z ≤ sheet_limit

  pub narrowed_passed : (x : Sheet) → narrowed u z ≡ accepted x → Narrowed × (x ≡ z)
  unfolding narrowed
  narrowed_passed x e =
      let n = sheet_length fee_length z in
      let p = past_test (strays z.plots) off_old_map _ x e in
      let q = past_test (has_no_room u n) no_room (accepted z) x p.1 in
      let b = room_kept u n q.0 in
      (record { on_old_map = p.0; within = b.0; short = b.1 }, accepted_same (sym q.1))

-- ---- the records of one that was checked

module _ (x : Records) (u : List ℕ) where
  -- how long their sheet then is
  abbrev new_length : ℕ
  new_length = x.rows.at + fee_length * x.rows.count + trailer_length

  new_length_is : new_length ≡ sheet_length fee_length (said x)
  new_length_is = rw (length-take-le x.rows.at x.bytes.now (omega (arith, x.within)), rows_many x.bytes.now x.rows)

  -- what a conversion of it answers and leaves
  abbrev Answers : Outcome ℕ → List ℕ → Type 0
  Answers o u' = (o ≡ then (narrowed u (said x)) (λ z. accepted (sheet_length fee_length z))) × (u' ≡ left u (narrowed u (said x)) (laid_over fee_length u))

  pub back_stray : strays (plots_of x) ≡ true → Answers (refused off_old_map) u
  back_stray e = rw (narrow_stray u (said x) e) (refl, refl)

  pub back_full : strays (plots_of x) ≡ false → has_no_room u new_length ≡ true → Answers (refused no_room) u
  back_full e h = rw (narrow_room u (said x) e (rw new_length_is at h)) (refl, refl)

  pub back_room : has_no_room u new_length ≡ false → (new_length ≤ length u) × (new_length ≤ sheet_limit)
  back_room = room_kept u new_length

  pub back_made : strays (plots_of x) ≡ false → has_no_room u new_length ≡ false → (u' : List ℕ) → u' ≡ laid_over fee_length u (said x) → Answers (accepted new_length) u'
  back_made e h u' w = rw (narrow_good u (said x) e (rw new_length_is at h)) (ap accepted new_length_is, w)

-- ---- the order of the refusals

module _ (s : List ℕ) (len : ℕ) (u : List ℕ) where
  -- the sheet is refused, and nothing is touched
  pub convert_first : {k : ℕ} → parsed s len ≡ refused k → (refused k ≡ converted s len u) × (u ≡ after_convert s len u)
  unfolding conversion converted after_convert
  convert_first e = rw e (refl, refl)

  -- it is not, and its plots and the room for it decide
  pub convert_rest : {z : Sheet} → parsed s len ≡ accepted z
      → (then (narrowed u z) (λ x. accepted (sheet_length fee_length x)) ≡ converted s len u)
      × (left u (narrowed u z) (laid_over fee_length u) ≡ after_convert s len u)
  unfolding conversion converted after_convert
  convert_rest e = rw e (refl, refl)
