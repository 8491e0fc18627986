-- Records and their trailer as they are written, over the record length: how many bytes they are, that they are read again, that records
-- which keep their length keep their bytes, and records that are moved up, one more put among them. Assumes nothing.
use mathlib.Core.Path.{◌≡◌, refl, sym, ap, ◌∙◌}
use mathlib.Core.List.{List, [], ◌∷◌, ◌++◌, map, append_assoc, map-append}
use Prim.Native.Nat.{ℕ, zero, suc, ◌+◌, ◌-◌, ◌*◌, ◌≤◌}
use native.Mathlib.Omega.{arith}
use native.Mathlib.Nat.{mul-zero, mul-suc, mul-add}
use lib.ListN.{length, drop, length-map, length-append, length-drop}
use lib.Seq.{take-add, drop-drop, length-take-le}
use Rattle.records.specs.Numbers.{AreBytes}
use Rattle.records.specs.Parts.{part, splice}
use Rattle.records.specs.Rows.{records}
use Rattle.records.proofs.Numbers.{drop_bytes, take_bytes}
use Rattle.records.proofs.Splices.{length_splice, part_before, splice_append, splice_before, splice_same}
use Rattle.records.proofs.Rows.{Each, none, more, length_end_to_end, end_to_end_append, records_end_to_end, mul_more}
use Rattle.sheet.specs.declared.Record.{Record}
use Rattle.sheet.specs.Layout.{IsRecordLength, layout_of, encoded, decoded, Fits}
use Rattle.sheet.specs.Trailer.{trailer_length, trailer}
use Rattle.sheet.specs.Order.{All, none as All_none, more as All_more}
use Rattle.sheet.specs.Sheets.{plots_from, rows_bytes, records_bytes}
use Rattle.sheet.proofs.Layouts.{length_encoded, decoded_encoded, encoded_decoded, every_field, takes_all}
use Rattle.sheet.proofs.Plots.{length_plots, plots_more}
use Rattle.sheet.proofs.TrailerBytes.{length_trailer}

module _ (L : ℕ) (l : IsRecordLength L) where
  length_row : (r : Record) → length (encoded (layout_of L) r) ≡ L
  length_row r = length_encoded (layout_of L) (every_field L) r ∙ takes_all L l

  each_row : (rs : List Record) → Each L (map (encoded (layout_of L)) rs)
  each_row [] = none
  each_row (r ∷ rs) = more (length_row r) (each_row rs)

  pub length_rows : (rs : List Record) → length (rows_bytes L rs) ≡ L * length rs
  length_rows rs = length_end_to_end (each_row rs) ∙ ap (λ (n : ℕ). L * n) (length-map rs (encoded (layout_of L)))

  pub length_records_bytes : (rs : List Record) → length (records_bytes L rs) ≡ L * length rs + trailer_length
  unfolding records_bytes
  length_records_bytes rs = length-append (rows_bytes L rs) (trailer L (length rs)) ∙ omega (arith, length_rows rs, length_trailer L (length rs))

  -- records that fit their layout are read again
  all_again : {rs : List Record} → All (Fits (layout_of L)) rs → map (decoded (layout_of L)) (map (encoded (layout_of L)) rs) ≡ rs
  all_again All_none = refl
  all_again (All_more {r = r} {rs = rs} f a) = rw (decoded_encoded (layout_of L) (every_field L) r f, all_again a)

  pub plots_again : (h d : List ℕ) (rs : List Record) → All (Fits (layout_of L)) rs → plots_from L (h ++ (rows_bytes L rs ++ d)) (length h) (length rs) ≡ rs
  unfolding plots_from
  plots_again h d rs a =
      ap (λ (n : ℕ). map (decoded (layout_of L)) (records L (h ++ (rows_bytes L rs ++ d)) (length h) n)) (sym (length-map rs (encoded (layout_of L))))
      ∙ ap (map (decoded (layout_of L))) (records_end_to_end h d (length h) refl (each_row rs))
      ∙ all_again a

  -- records that keep their length keep their bytes
  pub row_kept : (s : List ℕ) (at : ℕ) → AreBytes s → at + L ≤ length s → encoded (layout_of L) (decoded (layout_of L) (part s at L)) ≡ part s at L
  row_kept s at b h =
      let q : length (part s at L) ≡ L = length-take-le L (drop at s) (rw length-drop (omega arith)) in
      encoded_decoded (layout_of L) (every_field L) (part s at L) (take_bytes L (drop at s) (drop_bytes at s b)) (q ∙ sym (takes_all L l))

  pub rows_kept : (s : List ℕ) (at n : ℕ) → AreBytes s → at + L * n ≤ length s → rows_bytes L (plots_from L s at n) ≡ part s at (L * n)
  unfolding plots_from
  rows_kept s at zero b h = rw mul-zero
  rows_kept s at (suc n) b h =
      let m : L * suc n ≡ L + L * n = omega (arith, mul-suc L n) in
      rw (row_kept s at b (omega arith), rows_kept s (at + L) n b (omega arith), m, take-add, drop-drop)

  -- so room for one more after k of them is made by moving the n others up
  pub rows_moved : (M : ℕ) → M ≡ L → (s : List ℕ) (at k n : ℕ) → AreBytes s → at + L * k + L + L * n ≤ length s
      → splice s (at + L * k + L) (part s (at + L * k) (L * n))
      ≡ splice (splice s (at + L * k + L) (rows_bytes L (plots_from M s (at + M * k) n))) at (rows_bytes L (plots_from M s at k))
  rows_moved M q s at k n b h =
      let to = at + L * k + L in
      let v = part s (at + L * k) (L * n) in
      let u : length v ≡ L * n = length-take-le (L * n) (drop (at + L * k) s) (rw length-drop (omega arith)) in
      let e = part_before s to v at (L * k) (omega arith) (omega arith) in
      rw (q, rows_kept s (at + L * k) n b (omega arith), rows_kept s at k b (omega arith))
      (sym (ap (splice (splice s to v) at) (sym e) ∙ splice_same (splice s to v) at (L * k) (omega (arith, length_splice s to v (omega arith)))))

  -- one record, and others after it
  written_more : (u : List ℕ) (o : ℕ) (r : Record) (rs : List Record) → o + L + L * length rs ≤ length u
      → splice (splice u o (encoded (layout_of L) r)) (o + L) (rows_bytes L rs) ≡ splice u o (rows_bytes L (r ∷ rs))
  written_more u o r rs h =
      let x = encoded (layout_of L) r in
      ap (λ (n : ℕ). splice (splice u o x) (o + n) (rows_bytes L rs)) (sym (length_row r)) ∙ splice_append u o x (rows_bytes L rs) (omega (arith, length_row r, length_rows rs))

  -- one turn of writing records: of those that are to be written from index o of u on, r is written, in u', and the others come after it; z is
  -- what comes of it all
  pub written_turn : (u u' z : List ℕ) (o n : ℕ) (r : Record) (all rest : List Record) → all ≡ r ∷ rest → u' ≡ splice u o (encoded (layout_of L) r) → length u ≡ n
      → o + L * length all ≤ n → splice u o (rows_bytes L all) ≡ z → (length u' ≡ n) × (o + L + L * length rest ≤ n) × (splice u' (o + L) (rows_bytes L rest) ≡ z)
  written_turn u u' z o n r all rest e f l h g =
      let m : L * length all ≡ L + L * length rest = ap (λ (rs : List Record). L * length rs) e ∙ omega (arith, mul-suc L (length rest)) in (
        ap length f ∙ length_splice u o (encoded (layout_of L) r) (omega (arith, length_row r)) ∙ l,
        omega arith,
        rw f (written_more u o r rest (omega arith)) ∙ ap (λ (rs : List Record). splice u o (rows_bytes L rs)) (sym e) ∙ g,
      )

  -- records that are read with M bytes each and moved up, the last first: in t those from index P on stand from index Q on, and the one
  -- before them, at p, comes to q
  module _ (s t : List ℕ) (M P Q n p q : ℕ) (a : p + M ≡ P) (b : q + L ≡ Q) (h : P ≤ Q) (room : Q + L * n ≤ length s) (f : t ≡ splice s Q (rows_bytes L (plots_from M s P n))) where
    pub moved_part : part t p M ≡ part s p M
    moved_part = rw f (part_before s Q (rows_bytes L (plots_from M s P n)) p M (omega arith) (omega arith))

    pub moved_more : (r : Record) → r ≡ decoded (layout_of M) (part t p M) → splice t q (encoded (layout_of L) r) ≡ splice s q (rows_bytes L (plots_from M s p (n + 1)))
    moved_more r g =
        let v = rows_bytes L (plots_from M s P n) in
        let x = encoded (layout_of L) r in
        let y : length v ≡ L * n = length_rows (plots_from M s P n) ∙ ap (λ (k : ℕ). L * k) (length_plots M s P n) in
        let k : n + 1 - 1 ≡ n = omega arith in
        let d : decoded (layout_of M) (part s p M) ≡ r = sym (g ∙ ap (decoded (layout_of M)) moved_part) in
        let m : plots_from M s p (n + 1) ≡ r ∷ plots_from M s P n = plots_more M s p (n + 1) (omega arith) ∙ rw (k, a, d) in
        let w : Q ≡ q + length x = omega (arith, length_row r) in
        rw (f, m) (ap (λ (i : ℕ). splice (splice s i v) q x) w ∙ splice_before s q x v (omega (arith, length_row r)))

  -- records, one more, others and the trailer: the others first, then those before the new one, this one and the trailer
  pub written_parts : (s : List ℕ) (at : ℕ) (rs : List Record) (r : Record) (ts : List Record) (k n : ℕ) → length rs ≡ k → k + length ts + 1 ≡ n → at + L * n + trailer_length ≤ length s
      → splice (splice (splice (splice s (at + L * k + L) (rows_bytes L ts)) at (rows_bytes L rs)) (at + L * k) (encoded (layout_of L) r)) (at + L * n) (trailer L n)
      ≡ splice s at (records_bytes L (rs ++ (r ∷ ts)))
  unfolding records_bytes
  written_parts s at rs r ts k n o q h =
      let u = rows_bytes L rs in
      let v = rows_bytes L ts in
      let x = encoded (layout_of L) r in
      let b = u ++ x in
      let x₁ : length u ≡ L * k = length_rows rs ∙ ap (λ (m : ℕ). L * m) o in
      let x₂ : length b ≡ L * k + L = length-append u x ∙ omega (arith, length_row r) in
      let m : L * n ≡ L * k + L * length ts + L = rw (← q) (mul_more L (k + length ts) ∙ ap (λ (i : ℕ). i + L) (mul-add L k (length ts))) in
      let x₃ : length (b ++ v) ≡ L * n = length-append b v ∙ omega (arith, length_rows ts) in
      let w = length_trailer L n in
      let p₁ : at + L * k + L ≡ at + length b = omega arith in
      let p₂ : at + L * k ≡ at + length u = omega arith in
      let p₃ : at + L * n ≡ at + length (b ++ v) = omega arith in
      let l : length (splice s (at + length b) v) ≡ length s = length_splice s (at + length b) v (omega (arith, length_rows ts)) in
      let c : rows_bytes L (rs ++ (r ∷ ts)) ≡ b ++ v =
      rw (map-append (encoded (layout_of L)) rs (r ∷ ts)) (end_to_end_append (map (encoded (layout_of L)) rs) (map (encoded (layout_of L)) (r ∷ ts)) ∙ sym (append_assoc u x v)) in
      let d : length (rs ++ (r ∷ ts)) ≡ n = length-append rs (r ∷ ts) ∙ omega arith in
      rw (
        p₁,
        p₂,
        splice_append (splice s (at + length b) v) at u x (omega (arith, length_row r)),
        splice_before s at b v (omega (arith, length_rows ts)),
        p₃,
        splice_append s at (b ++ v) (trailer L n) (omega arith),
        c,
        d,
      )
