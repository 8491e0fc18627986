-- A sheet and its bytes, for each record length: the parts of what is written, what is written is read again (`parsed_again`), with its
-- trailer, and a sheet that is right has just the bytes of what it says (`sheet_kept`). Assumes nothing.
use mathlib.Core.Path.{◌≡◌, refl, sym, ap, subst, ◌∙◌}
use mathlib.Core.List.{List, [], ◌∷◌, ◌++◌, append_assoc}
use Prim.Native.Nat.{ℕ, ◌+◌, ◌-◌, ◌*◌, ◌≤◌}
use native.Mathlib.Omega.{arith}
use lib.ListN.{length, take, drop, length-append, length-drop}
use lib.Seq.{take_at, drop_at, take-add}
use Rattle.octagon.specs.Outcome.{accepted}
use Rattle.records.specs.Numbers.{AreBytes, packed}
use Rattle.records.specs.Parts.{part}
use Rattle.records.proofs.Numbers.{drop_bytes}
use Rattle.records.proofs.Fields.{packed_unpacked}
use Rattle.sheet.specs.declared.trailer.Trailer.{Trailer}
use Rattle.sheet.specs.Layout.{IsRecordLength, layout_of, map_limit, Fits}
use Rattle.sheet.specs.Trailer.{trailer_length, trailer_layout, letters, trailer_values, trailer, trailer_from, trailer_at}
use Rattle.sheet.specs.Bytes.{TrailerOf}
use Rattle.sheet.specs.Order.{All, Ascending}
use Rattle.sheet.specs.Sheets.{sheet_limit, Sheet, plots_from, first, sheet_of, rows_bytes, records_bytes, sheet_bytes, sheet_length}
use Rattle.sheet.specs.Checking.{parsed}
use Rattle.sheet.specs.Cases.{GoodFrame, stated_limit, HasOctagonIn}
use Rattle.sheet.proofs.Plots.{length_plots}
use Rattle.sheet.proofs.TrailerBytes.{length_trailer, TrailerFits, trailer_fits, trailer_again}
use Rattle.sheet.proofs.TrailerFields.{trailer_written}
use Rattle.sheet.proofs.WrittenRows.{length_rows, plots_again, rows_kept}
use Rattle.sheet.proofs.Checks.{Good, inspected_when, inspected_good, parsed_sheet, parsed_inspected}

-- ---- the parts of a written sheet z, with d after it

module _ (L : ℕ) (l : IsRecordLength L) (z : Sheet) (d : List ℕ) where
  -- the heading; the records; the trailer; and what follows
  apart : sheet_bytes L z ++ d ≡ z.heading ++ (rows_bytes L z.plots ++ (trailer L (length z.plots) ++ d))
  unfolding sheet_bytes records_bytes
  apart = simp append_assoc

  front : length (z.heading ++ rows_bytes L z.plots) ≡ sheet_length L z - trailer_length
  front = length-append z.heading (rows_bytes L z.plots) ∙ omega (arith, length_rows L l z.plots)

  before_trailer : sheet_bytes L z ++ d ≡ (z.heading ++ rows_bytes L z.plots) ++ (trailer L (length z.plots) ++ d)
  before_trailer = apart ∙ sym (append_assoc z.heading (rows_bytes L z.plots) (trailer L (length z.plots) ++ d))

  heading_length : first (sheet_length L z) (L * length z.plots) ≡ length z.heading
  heading_length = omega arith

  pub whole : length (sheet_bytes L z ++ d) ≡ sheet_length L z + length d
  whole =
      ap length before_trailer
      ∙ length-append (z.heading ++ rows_bytes L z.plots) (trailer L (length z.plots) ++ d)
      ∙ omega (arith, front, length-append (trailer L (length z.plots)) d, length_trailer L (length z.plots))

  pub heading_again : take (length z.heading) (sheet_bytes L z ++ d) ≡ z.heading
  heading_again = rw apart (take_at z.heading (rows_bytes L z.plots ++ (trailer L (length z.plots) ++ d)) (length z.heading) refl)

  trailer_part : part (sheet_bytes L z ++ d) (sheet_length L z - trailer_length) trailer_length ≡ trailer L (length z.plots)
  trailer_part =
      rw (before_trailer, drop_at (z.heading ++ rows_bytes L z.plots) (trailer L (length z.plots) ++ d) (sheet_length L z - trailer_length) front)
      (take_at (trailer L (length z.plots)) d trailer_length (length_trailer L (length z.plots)))

  trailer_read_again : TrailerFits L (length z.plots) → trailer_at (sheet_bytes L z ++ d) (sheet_length L z - trailer_length) ≡ trailer_from (trailer_values L (length z.plots))
  trailer_read_again f = rw before_trailer (trailer_again (z.heading ++ rows_bytes L z.plots) d (sheet_length L z - trailer_length) L (length z.plots) front f)

  sheet_again : All (Fits (layout_of L)) z.plots → sheet_of (sheet_bytes L z ++ d) (sheet_length L z) (trailer_from (trailer_values L (length z.plots))) ≡ z
  sheet_again a =
      let p : plots_from L (sheet_bytes L z ++ d) (length z.heading) (length z.plots) ≡ z.plots =
      rw apart (plots_again L l z.heading (trailer L (length z.plots) ++ d) z.plots a) in
      rw (heading_length, heading_again, p)

-- ---- a written sheet is read again

module _ (L : ℕ) (l : IsRecordLength L) (z : Sheet) (d : List ℕ) (k : sheet_length L z ≤ sheet_limit) where
  fits : TrailerFits L (length z.plots)
  fits = trailer_fits L (length z.plots) l (omega arith)

  frame_again : GoodFrame (sheet_bytes L z ++ d) (sheet_length L z) (length z.plots)
  frame_again =
      let t = trailer_read_again L l z d fits in
      let w = whole L l z d in
      record {
        size = record { long = omega arith; short = k; within = omega arith };
        marks = rw t (record { length_is = l; zeros_are = refl; letters_are = refl });
        distance = rw t (record { distance_is = refl; near = omega arith });
        count = rw t;
      }

  pub parsed_again : All (Fits (layout_of L)) z.plots → Ascending (HasOctagonIn (map_limit L)) 0 z.plots → parsed (sheet_bytes L z ++ d) (sheet_length L z) ≡ accepted z
  parsed_again a g =
      let s = sheet_bytes L z ++ d in
      let len = sheet_length L z in
      let t = trailer_read_again L l z d fits in
      let q : sheet_of s len (trailer_at s (len - trailer_length)) ≡ z = rw t (sheet_again L l z d a) in
      parsed_sheet s len (inspected_when s len (length z.plots) frame_again (subst (λ (y : Sheet). Ascending (HasOctagonIn (stated_limit s len)) 0 y.plots) (sym q) (rw t g))) ∙ ap accepted q

  pub trailer_of_again : TrailerOf L (length z.plots) (part (sheet_bytes L z ++ d) (sheet_length L z - trailer_length) trailer_length)
  trailer_of_again = rw (trailer_part L l z d) (trailer_written L (length z.plots) l (omega arith))

-- ---- and a sheet that is right has just the bytes of what it says

-- a trailer's bytes, from its numbers
trailer_kept : (s : List ℕ) (t : ℕ) → AreBytes s → t + trailer_length ≤ length s
    → let z = trailer_at s t in packed trailer_layout (z.distance ∷ z.count ∷ z.length ∷ z.zeros ∷ z.letters ∷ []) ≡ part s t trailer_length
unfolding trailer_at
trailer_kept s t b h = packed_unpacked trailer_layout (drop t s) (drop_bytes t s b) (rw length-drop (omega arith))

-- three parts of a list that follow one another
three_parts : (s : List ℕ) (at d t n len : ℕ) → at + d ≡ t → t + n ≡ len → take at s ++ (part s at d ++ part s t n) ≡ take len s
three_parts s at d t n len p q = rw (← q, ← p, take-add (at + d) n s, take-add at d s) (sym (append_assoc (take at s) (part s at d) (part s (at + d) n)))

values_kept : (z : Trailer) (L n : ℕ) → z.distance ≡ L * n → z.count ≡ n → z.length ≡ L → z.zeros ≡ 0 → z.letters ≡ letters
    → trailer_values L n ≡ z.distance ∷ z.count ∷ z.length ∷ z.zeros ∷ z.letters ∷ []
values_kept z L n d c l o m = rw (d, c, l, o, m)

module _ (s : List ℕ) (len : ℕ) (z : Trailer) (b : AreBytes s) (g : Good s len z) where
  trailer_bytes : trailer z.length z.count ≡ part s (len - trailer_length) trailer_length
  unfolding trailer
  trailer_bytes =
      let y = trailer_at s (len - trailer_length) in
      let m = g.good_frame.marks in
      let h = g.framing.holds in
      let d = sym (ap (λ (x : Trailer). x.distance) g.is_trailer) ∙ g.framing.distance_is in
      let n = sym (ap (λ (x : Trailer). x.length) g.is_trailer) in
      ap (packed trailer_layout) (values_kept y z.length z.count d g.good_frame.count n m.zeros_are m.letters_are)
      ∙ trailer_kept s (len - trailer_length) b (omega arith)

  bytes_kept : sheet_bytes z.length (sheet_of s len z) ≡ take len s
  unfolding sheet_bytes records_bytes
  bytes_kept =
      let f = g.framing in
      let h = f.holds in
      let at = first len z.distance in
      let n = length_plots z.length s at z.count in
      let p : at + z.length * z.count ≡ len - trailer_length = omega (arith, f.distance_is) in
      let k = rows_kept z.length f.known s at z.count b (omega arith) in
      rw (n, k, trailer_bytes) (three_parts s at (z.length * z.count) (len - trailer_length) trailer_length len p (omega arith))

-- in records of the length that its trailer names
pub sheet_kept : (s : List ℕ) (len : ℕ) (z : Sheet) → AreBytes s → parsed s len ≡ accepted z → sheet_bytes (trailer_at s (len - trailer_length)).length z ≡ take len s
sheet_kept s len z b e =
    let p = parsed_inspected s len z e in
    let g = inspected_good s len p.0 p.1 in
    ap (λ (t : Trailer). sheet_bytes t.length z) (sym g.is_trailer) ∙ ap (sheet_bytes p.0.length) (sym p.2) ∙ bytes_kept s len p.0 b g
