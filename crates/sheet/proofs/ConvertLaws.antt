-- The laws of converting: which sheets have no plot that leaves the old map (`old_no_stray`); that the records are kept (`convert_keeps`), and
-- of a sheet of 26 each byte (`convert_copies`); and an insert of a plot within the old map, converted: it has the old records and the new
-- one (`insert_converts`, `insert_convert_records`). Assumes nothing.
use mathlib.Core.Path.{◌≡◌, sym, ap, ◌∙◌}
use mathlib.Core.Logic.Iff
use mathlib.Core.Logic.{◌↔◌, ◌⊎◌, ⊎_elim}
use mathlib.Core.List.{List}
use Prim.Native.Nat.{ℕ, ◌+◌, ◌-◌, ◌*◌}
use native.Mathlib.Omega.{arith}
use lib.ListN.{length, take}
use lib.Seq.{length-take-le}
use Rattle.octagon.specs.Outcome.{accepted}
use Rattle.octagon.specs.Cells.{Leaves}
use Rattle.octagon.proofs.Outcomes.{accepted_same}
use Rattle.outline.specs.Walk.{InsideWalk}
use Rattle.records.specs.Numbers.{AreBytes}
use Rattle.sheet.specs.declared.Record.{Record}
use Rattle.sheet.specs.Layout.{fee_length, fee, record_length, county_length, old_limit, Sized}
use Rattle.sheet.specs.Trailer.{trailer_length, trailer_at}
use Rattle.sheet.specs.Sheets.{sheet_bytes, sheet_length}
use Rattle.sheet.specs.Checking.{checked}
use Rattle.sheet.specs.Cases.{stated_heading, IsFetched}
use Rattle.sheet.specs.Writing.{inserted, after_insert}
use Rattle.sheet.specs.WritingCases.{Exceeds}
use Rattle.sheet.specs.Converting.{converted, after_convert, converted_length}
use Rattle.sheet.specs.ConvertingCases.{StrayPlot, converts}
use Rattle.sheet.proofs.Checks.{checked_plotted}
use Rattle.sheet.proofs.CheckCases.{check_exactly}
use Rattle.sheet.proofs.Sheets.{sheet_kept}
use Rattle.sheet.proofs.Overwritten.{length_sheet_bytes, laid_sheet}
use Rattle.sheet.proofs.Members.{stated_sheet, checked_stated}
use Rattle.sheet.proofs.Grown.{insert_accepted, nothing_lost, insert_bytes}
use Rattle.sheet.proofs.JoinLaws.{records_same}
use Rattle.sheet.proofs.OneBuffer.{states_heading}
use Rattle.sheet.proofs.Strays.{strays_old}
use Rattle.sheet.proofs.ConvertCases.{stray_none, convert_exactly}
use Rattle.sheet.proofs.ConvertedSheets.{convert_taken, convert_accepted}

-- no plot of a sheet of 24 or 26 bytes a record leaves the old map, so its conversion is never refused with 21
pub old_no_stray : (s : List ℕ) (len c : ℕ) → checked s len ≡ accepted c → ((trailer_at s (len - trailer_length)).length ≡ county_length → ⊥)
    → ¬ (StrayPlot s len)
old_no_stray s len c e n =
    let p = checked_plotted s len c e in
    stray_none s len e (strays_old (trailer_at s (len - trailer_length)).length n (rw p.are at p.on_its_map))

-- a conversion has the records of the sheet, whatever the sheet's record length
pub convert_keeps : (s : List ℕ) (len : ℕ) (u : List ℕ) (m : ℕ) → AreBytes s → converted s len u ≡ accepted m → (q : Record) → IsFetched (after_convert s len u) m q ↔ IsFetched s len q
convert_keeps s len u m a e = records_same (after_convert s len u) m s len (convert_accepted s len u m a e).1.records

-- that of a sheet of 26 is the sheet, byte for byte
pub convert_copies : (s : List ℕ) (len : ℕ) (u : List ℕ) (n : ℕ) → AreBytes s → converted s len u ≡ accepted n → (trailer_at s (len - trailer_length)).length ≡ fee_length
    → (n ≡ len) × (take len (after_convert s len u) ≡ take len s)
convert_copies s len u n b h e =
    let k = convert_taken s len u n h in
    let z = stated_sheet s len in
    let p = checked_plotted s len k.c k.counted in
    let f : sheet_bytes fee_length z ≡ take len s =
    ap (λ (i : ℕ). sheet_bytes i z) (sym e) ∙ sheet_kept s len z b (checked_stated s len k.c k.counted).is_parsed in
    let l : sheet_length fee_length z ≡ len = sym (length_sheet_bytes fee_length fee z) ∙ ap length f ∙ length-take-le len s p.frame.size.within in
    (k.length_is ∙ l, ap (take len) k.left_is ∙ (rw l at (laid_sheet fee_length fee u z)) ∙ f)

-- ---- what an accepted insert of r made of a sheet of which no plot leaves the old map, where r does not leave it either

module _ (s : List ℕ) (len : ℕ) (r : Record) (n : ℕ) (a : AreBytes s) (v : Sized r) (i : inserted s len r ≡ accepted n) where
  -- none leaves it then
  pub insert_no_stray : ¬ (StrayPlot s len) → ¬ (Leaves old_limit (InsideWalk r.outline)) → ¬ (StrayPlot (after_insert s len r) n)
  insert_no_stray f g p = ⊎_elim old new ((nothing_lost s len r n a v i p.plot).0 p.in_sheet)
    where
      old : IsFetched s len p.plot → ⊥
      old h = f (record { plot = p.plot; in_sheet = h; leaves_old_map = p.leaves_old_map })

      new : p.plot ≡ r → ⊥
      new e = g (rw e at p.leaves_old_map)

  -- its conversion is accepted where there is room for all the records at 26 under the heading
  pub insert_converts : ¬ (StrayPlot s len) → ¬ (Leaves old_limit (InsideWalk r.outline)) → (c : ℕ) → checked s len ≡ accepted c → (u : List ℕ)
      → let m = stated_heading s len + fee_length * (c + 1) + trailer_length in ¬ (Exceeds u m) → converted (after_insert s len r) n u ≡ accepted m
  insert_converts f g c e u x =
      let s' = after_insert s len r in
      let b = insert_accepted s len r n a v i in
      let d : b.0 ≡ c = accepted_same (sym b.1.counted ∙ e) in
      let h : stated_heading s' n ≡ stated_heading s len =
      states_heading record_length (stated_heading s len) (b.0 + 1) n s' (record { checks = b.1.checks; trailer_is = b.1.trailer_is; length_is = b.1.length_is }) in
      let l : converted_length s' n (b.0 + 1) ≡ stated_heading s len + fee_length * (c + 1) + trailer_length = omega arith in
      (convert_exactly s' n u (accepted (converted_length s' n (b.0 + 1)))).1
      (converts ((check_exactly s' n (accepted (b.0 + 1))).0 b.1.checks) (insert_no_stray f g) (rw l x)) ∙ ap accepted l

  -- and has the old records and the new one
  pub insert_convert_records : (u : List ℕ) (m : ℕ) → converted (after_insert s len r) n u ≡ accepted m
      → (q : Record) → IsFetched (after_convert (after_insert s len r) n u) m q ↔ (IsFetched s len q ⊎ (q ≡ r))
  insert_convert_records u m e q = Iff.trans (convert_keeps (after_insert s len r) n u m (insert_bytes s len r a) e q) (nothing_lost s len r n a v i q)
