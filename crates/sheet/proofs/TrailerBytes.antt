-- The bytes of a trailer: what is written is read again, and the marks are right exactly where eight bytes are (`marked_bytes`).
-- Assumes nothing.
use mathlib.Core.Path.{◌≡◌, refl, sym, ap, ◌∙◌}
use mathlib.Core.Logic.{◌↔◌}
use mathlib.Core.List.{List, [], ◌∷◌, ◌++◌}
use Prim.Native.Nat.{ℕ, ◌+◌, ◌*◌, ◌^◌, ◌≤◌, ◌<◌}
use native.Mathlib.Omega.{arith}
use lib.ListN.{length, take, drop, get_or, length-drop}
use lib.Seq.{drop_at, drop-drop}
use Rattle.records.specs.Numbers.{AreBytes, number, packed, unpacked}
use Rattle.records.specs.Parts.{part}
use Rattle.records.proofs.Numbers.{drop_bytes}
use Rattle.records.proofs.Fields.{Fit, none, more, length_packed, unpacked_packed, packed_unpacked, unpacked_take}
use Rattle.sheet.specs.Layout.{IsRecordLength, base, fee, county}
use Rattle.sheet.specs.Trailer.{trailer_length, trailer_layout, letters, trailer_values, trailer, marks, trailer_from, trailer_at}
use Rattle.sheet.specs.Cases.{GoodMarks}

pub length_trailer : (L n : ℕ) → length (trailer L n) ≡ trailer_length
unfolding trailer
length_trailer L n = length_packed trailer_layout (trailer_values L n) refl

-- its numbers fit their fields
pub record TrailerFits (L n : ℕ) : Type 0 where
  pub distance : L * n < 256 ^ 4
  pub count : n < 256 ^ 4
  pub each : L < 256 ^ 2

pub trailer_fits : (L n : ℕ) → IsRecordLength L → L * n < 256 ^ 4 → TrailerFits L n
trailer_fits _ n base h = record { distance = h; count = omega arith; each = omega arith }
trailer_fits _ n fee h = record { distance = h; count = omega arith; each = omega arith }
trailer_fits _ n county h = record { distance = h; count = omega arith; each = omega arith }

trailer_values_fit : (L n : ℕ) → TrailerFits L n → Fit trailer_layout (trailer_values L n)
trailer_values_fit L n f =
    let d : 0 < 256 ^ 2 = omega arith in
    let e : letters < 256 ^ 4 = omega arith in
    more f.distance (more f.count (more f.each (more d (more e none))))

-- a trailer that was written after a is read again
pub trailer_again : (a d : List ℕ) (t L n : ℕ) → length a ≡ t → TrailerFits L n → trailer_at (a ++ (trailer L n ++ d)) t ≡ trailer_from (trailer_values L n)
unfolding trailer trailer_at
trailer_again a d t L n e f =
    ap (λ (x : List ℕ). trailer_from (unpacked trailer_layout x)) (drop_at a (packed trailer_layout (trailer_values L n) ++ d) t e)
    ∙ ap trailer_from (unpacked_packed d (trailer_values_fit L n f))

-- ---- the marks, in bytes

-- the fields of the record length, the zero bytes and the letters
marks_layout : List ℕ
marks_layout = 2 ∷ 2 ∷ 4 ∷ []

to : (y : List ℕ) → AreBytes y → 8 ≤ length y → let v = unpacked marks_layout y in
    get_or v 1 0 ≡ 0 → get_or v 2 0 ≡ letters → take 8 y ≡ marks (get_or v 0 0)
unfolding marks_layout
to y b h q r = sym (packed_unpacked marks_layout y b h) ∙ three (number (take 2 y)) (number (take 2 (drop 2 y))) (number (take 4 (drop 2 (drop 2 y)))) q r
  where
    three : (a z l : ℕ) → z ≡ 0 → l ≡ letters → packed marks_layout (a ∷ z ∷ l ∷ []) ≡ marks a
    three a z l q r = rw (q, r)

from : (L : ℕ) → IsRecordLength L → (y : List ℕ) → take 8 y ≡ marks L → unpacked marks_layout y ≡ L ∷ 0 ∷ letters ∷ []
unfolding marks_layout
from L l y q = sym (unpacked_take marks_layout y 8 (omega arith)) ∙ ap (unpacked marks_layout) q ∙ again L l
  where
    again : (L : ℕ) → IsRecordLength L → unpacked marks_layout (marks L) ≡ L ∷ 0 ∷ letters ∷ []
    again _ base = refl
    again _ fee = refl
    again _ county = refl

-- the trailer's last three numbers, from the bytes that hold them
last_three : (s : List ℕ) (t : ℕ) → let v = unpacked marks_layout (drop (t + 8) s) in
    let z = trailer_at s t in
    (z.length ≡ get_or v 0 0) × (z.zeros ≡ get_or v 1 0) × (z.letters ≡ get_or v 2 0)
unfolding trailer_at marks_layout
last_three s t =
    let e : drop 4 (drop 4 (drop t s)) ≡ drop (t + 8) s = drop-drop 4 4 (drop t s) ∙ drop-drop 8 t s in
    let f : unpacked (2 ∷ 2 ∷ 4 ∷ []) (drop 4 (drop 4 (drop t s))) ≡ unpacked (2 ∷ 2 ∷ 4 ∷ []) (drop (t + 8) s) = ap (unpacked (2 ∷ 2 ∷ 4 ∷ [])) e in
    (ap (λ (v : List ℕ). get_or v 0 0) f, ap (λ (v : List ℕ). get_or v 1 0) f, ap (λ (v : List ℕ). get_or v 2 0) f)

-- the marks are right exactly where the last eight bytes of the trailer are those of a record length
pub marked_bytes : (s : List ℕ) (t : ℕ) → AreBytes s → t + trailer_length ≤ length s
    → GoodMarks (trailer_at s t) ↔ (L : ℕ) × IsRecordLength L × (part s (t + 8) 8 ≡ marks L)
marked_bytes s t b h =
    let y = drop (t + 8) s in
    let e = last_three s t in (
      λ m. ((trailer_at s t).length, m.length_is, to y (drop_bytes (t + 8) s b) (rw length-drop (omega arith)) (sym e.1 ∙ m.zeros_are) (sym e.2 ∙ m.letters_are) ∙ ap marks (sym e.0)),
      λ q. let f = from q.0 q.1 y q.2 in
          record {
            length_is = rw (e.0 ∙ ap (λ (v : List ℕ). get_or v 0 0) f) q.1;
            zeros_are = e.1 ∙ ap (λ (v : List ℕ). get_or v 1 0) f;
            letters_are = e.2 ∙ ap (λ (v : List ℕ). get_or v 2 0) f;
          },
    )
