-- Numbers in fields of given widths: the way there and back, and each field by its place. Assumes nothing.
use mathlib.Core.Path.{◌≡◌, refl, ap, ◌∙◌}
use mathlib.Core.Bool.{true}
use mathlib.Core.List.{List, [], ◌∷◌, ◌++◌, append_assoc, append-nil}
use Prim.Native.Nat.{ℕ, zero, suc, ◌-◌, ◌^◌, ◌≤◌, ◌<◌}
use native.Mathlib.Omega.{arith}
use lib.ListN.{length, take, drop, get_or, length-append, length-drop}
use lib.Seq.{take_at, drop_at, take-add, take-take, drop-drop}
use lib.Dec.{leb}
use borrow.Author.Tests.{leb-true}
use Rattle.integers.proofs.Tests.{both_true}
use Rattle.records.specs.Numbers.{AreBytes, number, bytes, total_width, narrow, packed, unpacked}
use Rattle.records.specs.Fields.{field_at, field, HasFields}
use Rattle.records.proofs.Parts.{part_by_ends}
use Rattle.records.proofs.Numbers.{drop_bytes, append_bytes, bytes_are, number_take, length_bytes, number_bytes, bytes_number}

-- as many numbers as fields, each within its width
pub data Fit : List ℕ → List ℕ → Type 0 where
  none : Fit [] []
  more : {w v : ℕ} {ws vs : List ℕ} → v < 256 ^ w → Fit ws vs → Fit (w ∷ ws) (v ∷ vs)

pub length_packed : (ws vs : List ℕ) → length ws ≡ length vs → length (packed ws vs) ≡ total_width ws
length_packed [] vs e = refl
length_packed (w ∷ ws) [] e = absurd (omega arith)
length_packed (w ∷ ws) (v ∷ vs) e = length-append (bytes w v) (packed ws vs) ∙ omega (arith, length_bytes w v, length_packed ws vs (omega arith))

-- numbers that were written are read again
pub unpacked_packed : {ws vs : List ℕ} (z : List ℕ) → Fit ws vs → unpacked ws (packed ws vs ++ z) ≡ vs
unpacked_packed z none = refl
unpacked_packed z (more {w = w} {v = v} {ws = ws} {vs = vs} h f) =
    let e = append_assoc (bytes w v) (packed ws vs) z in
    rw (e, take_at (bytes w v) (packed ws vs ++ z) w (length_bytes w v), drop_at (bytes w v) (packed ws vs ++ z) w (length_bytes w v), number_bytes w v h, unpacked_packed z f)

pub unpacked_all : {ws vs : List ℕ} → Fit ws vs → unpacked ws (packed ws vs) ≡ vs
unpacked_all {ws} {vs} f = rw (append-nil (packed ws vs)) at (unpacked_packed [] f)

-- and bytes that were read are written again
pub packed_unpacked : (ws s : List ℕ) → AreBytes s → total_width ws ≤ length s → packed ws (unpacked ws s) ≡ take (total_width ws) s
packed_unpacked [] s h l = refl
packed_unpacked (w ∷ ws) s h l =
    rw (bytes_number w s h (omega arith), packed_unpacked ws (drop w s) (drop_bytes w s h) (rw length-drop (omega arith)), take-add)

-- what is read lies within the fields
pub unpacked_take : (ws s : List ℕ) (L : ℕ) → total_width ws ≤ L → unpacked ws (take L s) ≡ unpacked ws s
unpacked_take [] s L h = refl
unpacked_take (w ∷ ws) s L h =
    rw (take-take w L s (omega arith), part_by_ends w L s) (ap (λ (x : List ℕ). number (take w s) ∷ x) (unpacked_take ws (drop w s) (L - w) (omega arith)))

-- numbers that were read from bytes fit their fields
pub unpacked_fit : (ws s : List ℕ) → AreBytes s → Fit ws (unpacked ws s)
unpacked_fit [] s h = none
unpacked_fit (w ∷ ws) s h = more (number_take w s h) (unpacked_fit ws (drop w s) (drop_bytes w s h))

pub length_unpacked : (ws s : List ℕ) → length (unpacked ws s) ≡ length ws
length_unpacked [] s = refl
length_unpacked (w ∷ ws) s = ap suc (length_unpacked ws (drop w s))

-- no field of a narrow layout is wider than 4 bytes
pub narrow_at : (ws : List ℕ) → narrow ws ≡ true → (k : ℕ) → get_or ws k 0 ≤ 4
narrow_at [] e k = omega arith
narrow_at (w ∷ ws) e zero = leb-true w 4 (both_true (leb w 4) (narrow ws) e).0
narrow_at (w ∷ ws) e (suc k) = narrow_at ws (both_true (leb w 4) (narrow ws) e).1 k

-- as many numbers as fields fit them, where each is within the width of its field, and only there
pub fit_when : (ws vs : List ℕ) → length vs ≡ length ws → ((k : ℕ) → k < length ws → get_or vs k 0 < 256 ^ get_or ws k 0) → Fit ws vs
fit_when [] [] e f = none
fit_when [] (v ∷ vs) e f = absurd (omega arith)
fit_when (w ∷ ws) [] e f = absurd (omega arith)
fit_when (w ∷ ws) (v ∷ vs) e f = more (f 0 (omega arith)) (fit_when ws vs (omega arith) (λ k h. f (suc k) (omega arith)))

pub fit_at : {ws vs : List ℕ} (k : ℕ) → k < length ws → Fit ws vs → get_or vs k 0 < 256 ^ get_or ws k 0
fit_at k h none = absurd (omega arith)
fit_at zero h (more l f) = l
fit_at (suc k) h (more l f) = fit_at k (omega arith) f

-- ---- each field by its place

-- a field that a layout lacks, with a width of 0 or none, reads as 0
pub lacks_field : (ws s : List ℕ) (k : ℕ) → get_or ws k 0 ≡ 0 → get_or (unpacked ws s) k 0 ≡ 0
lacks_field [] s k e = refl
lacks_field (w ∷ ws) s zero e = rw e
lacks_field (w ∷ ws) s (suc k) e = lacks_field ws (drop w s) k e

-- the number that is read of field k is the one in its bytes
pub fields_read : (ws s : List ℕ) → HasFields ws s (unpacked ws s)
fields_read [] s k h = absurd (omega arith)
fields_read (w ∷ ws) s zero h = refl
fields_read (w ∷ ws) s (suc k) h = rw (← drop-drop (field_at ws k) w s) (fields_read ws (drop w s) k (omega arith))

-- and the bytes of field k that are written are those of number k
pub fields_written : (ws vs : List ℕ) (k : ℕ) → length ws ≡ length vs → k < length ws → field ws (packed ws vs) k ≡ bytes (get_or ws k 0) (get_or vs k 0)
fields_written [] vs k e h = absurd (omega arith)
fields_written (w ∷ ws) [] k e h = absurd (omega arith)
fields_written (w ∷ ws) (v ∷ vs) zero e h = take_at (bytes w v) (packed ws vs) w (length_bytes w v)
fields_written (w ∷ ws) (v ∷ vs) (suc k) e h =
    rw (← drop-drop (field_at ws k) w (bytes w v ++ packed ws vs), drop_at (bytes w v) (packed ws vs) w (length_bytes w v))
    (fields_written ws vs k (omega arith) (omega arith))

-- what is written is bytes
pub packed_bytes : (ws vs : List ℕ) → AreBytes (packed ws vs)
packed_bytes [] vs i = omega arith
packed_bytes (w ∷ ws) [] i = omega arith
packed_bytes (w ∷ ws) (v ∷ vs) i = append_bytes (bytes w v) (packed ws vs) (bytes_are w v) (packed_bytes ws vs) i
