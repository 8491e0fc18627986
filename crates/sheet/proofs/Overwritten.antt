-- A buffer with a sheet written at its start, at once or part by part, over the record length: it says what was written, the heading stays
-- where it is the buffer's own, and so does what follows the sheet. Assumes nothing.
use mathlib.Core.Path.{◌≡◌, sym, ap, ◌∙◌}
use mathlib.Core.List.{List, ◌++◌, append_assoc}
use Prim.Native.Nat.{ℕ, ◌+◌, ◌-◌, ◌*◌, ◌≤◌}
use native.Mathlib.Omega.{arith}
use native.Mathlib.Nat.{zero-add}
use lib.ListN.{length, take, drop, length-append, length-drop}
use lib.Seq.{take_at, drop_at, length-take-le}
use Rattle.octagon.specs.Outcome.{accepted}
use Rattle.records.specs.Parts.{part, splice}
use Rattle.records.proofs.Splices.{splice_append}
use Rattle.sheet.specs.declared.Record.{Record}
use Rattle.sheet.specs.Layout.{IsRecordLength, record_length, layout_of, map_limit, Fits}
use Rattle.sheet.specs.Trailer.{trailer_length, trailer}
use Rattle.sheet.specs.Bytes.{TrailerOf}
use Rattle.sheet.specs.Order.{All, Ascending}
use Rattle.sheet.specs.Sheets.{sheet_limit, Sheet, rows_bytes, records_bytes, sheet_bytes, sheet_length}
use Rattle.sheet.specs.Checking.{parsed}
use Rattle.sheet.specs.Cases.{HasOctagon, HasOctagonIn}
use Rattle.sheet.specs.Writing.{laid_over, written_over}
use Rattle.sheet.proofs.Layouts.{record_is_length}
use Rattle.sheet.proofs.TrailerBytes.{length_trailer}
use Rattle.sheet.proofs.WrittenRows.{length_rows, length_records_bytes}
use Rattle.sheet.proofs.Surveys.{written_octagons}
use Rattle.sheet.proofs.Sheets.{heading_again, parsed_again, trailer_of_again}

-- ---- records of L bytes

module _ (L : ℕ) (l : IsRecordLength L) where
  -- how many bytes a sheet is
  pub length_sheet_bytes : (z : Sheet) → length (sheet_bytes L z) ≡ sheet_length L z
  unfolding sheet_bytes
  length_sheet_bytes z = length-append z.heading (records_bytes L z.plots) ∙ omega (arith, length_records_bytes L l z.plots)

  -- a heading, records and their trailer, written one after the other
  pub laid_in_turn : (s h : List ℕ) (rs : List Record) (at n : ℕ) → length h ≡ at → length rs ≡ n → at + L * n + trailer_length ≤ length s
      → splice (splice (splice s 0 h) at (rows_bytes L rs)) (at + L * n) (trailer L n) ≡ laid_over L s (record { heading = h; plots = rs })
  unfolding laid_over sheet_bytes records_bytes
  laid_in_turn s h rs at n e f k =
      let b = rows_bytes L rs in
      let m : length b ≡ L * n = length_rows L l rs ∙ ap (λ (i : ℕ). L * i) f in
      let p₁ : at ≡ 0 + length h = omega arith in
      let p₂ : at + L * n ≡ 0 + length (h ++ b) = omega (arith, length-append h b) in
      let x = splice_append s 0 h b (omega arith) in
      let y = splice_append s 0 (h ++ b) (trailer L n) (omega (arith, length-append h b, length_trailer L n)) in
      ap (λ (i : ℕ). splice (splice (splice s 0 h) i b) (at + L * n) (trailer L n)) p₁
      ∙ ap (λ (v : List ℕ). splice v (at + L * n) (trailer L n)) x
      ∙ ap (λ (i : ℕ). splice (splice s 0 (h ++ b)) i (trailer L n)) p₂
      ∙ y
      ∙ ap (splice s 0) (append_assoc h b (trailer L n))
      ∙ ap (λ (i : ℕ). splice s 0 (h ++ (b ++ trailer L i))) (sym f)

  -- the buffer, as a sheet and what follows it
  module _ (s : List ℕ) (z : Sheet) where
    laid_is : laid_over L s z ≡ sheet_bytes L z ++ drop (sheet_length L z) s
    unfolding laid_over splice
    laid_is = rw (zero-add, length_sheet_bytes z)

    pub laid_heading : take (length z.heading) (laid_over L s z) ≡ z.heading
    laid_heading = rw laid_is (heading_again L l z (drop (sheet_length L z) s))

    -- its first bytes are the sheet's
    pub laid_sheet : take (sheet_length L z) (laid_over L s z) ≡ sheet_bytes L z
    laid_sheet = rw laid_is (take_at (sheet_bytes L z) (drop (sheet_length L z) s) (sheet_length L z) (length_sheet_bytes z))

    pub laid_past : drop (sheet_length L z) (laid_over L s z) ≡ drop (sheet_length L z) s
    laid_past = rw laid_is (drop_at (sheet_bytes L z) (drop (sheet_length L z) s) (sheet_length L z) (length_sheet_bytes z))

    pub laid_length : sheet_length L z ≤ length s → length (laid_over L s z) ≡ length s
    laid_length h = ap length laid_is ∙ length-append (sheet_bytes L z) (drop (sheet_length L z) s) ∙ omega (arith, length_sheet_bytes z, length-drop (sheet_length L z) s)

    pub laid_parsed : sheet_length L z ≤ sheet_limit → All (Fits (layout_of L)) z.plots → Ascending (HasOctagonIn (map_limit L)) 0 z.plots
        → parsed (laid_over L s z) (sheet_length L z) ≡ accepted z
    laid_parsed k a g = rw laid_is (parsed_again L l z (drop (sheet_length L z) s) k a g)

    pub laid_trailer : sheet_length L z ≤ sheet_limit → TrailerOf L (length z.plots) (part (laid_over L s z) (sheet_length L z - trailer_length) trailer_length)
    laid_trailer k = rw laid_is (trailer_of_again L l z (drop (sheet_length L z) s) k)

-- ---- records that are written

-- where the heading is the buffer's own, the records and their trailer alone are written
pub over_records : (s : List ℕ) (h : ℕ) (rs : List Record) → h ≤ length s
    → splice s h (records_bytes record_length rs) ≡ written_over s (record { heading = take h s; plots = rs })
unfolding laid_over sheet_bytes splice
over_records s h rs k =
    let b = records_bytes record_length rs in
    let e : length (take h s ++ b) ≡ h + length b = length-append (take h s) b ∙ omega (arith, length-take-le h s k) in
    rw (zero-add, e)

module _ (s : List ℕ) (z : Sheet) where
  pub over_heading : take (length z.heading) (written_over s z) ≡ z.heading
  over_heading = laid_heading record_length record_is_length s z

  pub over_past : drop (sheet_length record_length z) (written_over s z) ≡ drop (sheet_length record_length z) s
  over_past = laid_past record_length record_is_length s z

  pub over_length : sheet_length record_length z ≤ length s → length (written_over s z) ≡ length s
  over_length = laid_length record_length record_is_length s z

  module _ (k : sheet_length record_length z ≤ sheet_limit) where
    pub over_parsed : All (Fits (layout_of record_length)) z.plots → Ascending HasOctagon 0 z.plots → parsed (written_over s z) (sheet_length record_length z) ≡ accepted z
    over_parsed a g = laid_parsed record_length record_is_length s z k a (written_octagons g)

    pub over_trailer : TrailerOf record_length (length z.plots) (part (written_over s z) (sheet_length record_length z - trailer_length) trailer_length)
    over_trailer = laid_trailer record_length record_is_length s z k
