-- Numbers in bytes: a part read byte by byte, the way there and back, each byte by its place, and two's complement. Assumes nothing.
use mathlib.Core.Path.{◌≡◌, refl, sym, ap, ◌∙◌}
use mathlib.Core.Logic.{◌⊎◌, inl, inr}
use mathlib.Core.List.{List, [], ◌∷◌, ◌++◌}
use Prim.Native.Nat.{ℕ, zero, suc, ◌+◌, ◌-◌, ◌*◌, ◌/◌, ◌%◌, ◌^◌, ◌≤◌, ◌<◌}
use native.Mathlib.Omega.{arith}
use native.Mathlib.Nat.{pow-suc, pow-zero, pow-succ', one-le-pow, div-one, zero-div, div-div-eq-div-mul}
use native.Mathlib.Numerals.{add-one}
use lib.ListN.{length, take, drop, get_or}
use lib.Seq.{drop-cons}
use lib.Dec.{ltb}
use lib.IntN.{ℤ, pos, negsuc, ◌-ℤ◌}
use lib.Signed.{mag}
use borrow.Author.Tests.{lt-ltb, le-ltb, ltb-true, ltb-false}
use Rattle.integers.proofs.Tests.{cases}
use Rattle.integers.proofs.Parts.{up, dn, diff_parts, parts_eq}
use Rattle.records.specs.Numbers.{AreBytes, number, bytes, signed, twos}
use Rattle.records.specs.Parts.{part}

-- ---- reading

-- the first byte of a part, and the others
pub part_suc : (s : List ℕ) (at n : ℕ) → at < length s → part s at (suc n) ≡ get_or s at 0 ∷ part s (at + 1) n
part_suc s at n h = rw (add-one at, drop-cons s at 0 h)

pub number_suc : (s : List ℕ) (at n : ℕ) → at < length s → number (part s at (suc n)) ≡ get_or s at 0 + 256 * number (part s (at + 1) n)
number_suc s at n h = ap number (part_suc s at n h)

tail_bytes : (b : ℕ) (s : List ℕ) → AreBytes (b ∷ s) → AreBytes s
tail_bytes b s h i = h (suc i)

pub drop_bytes : (n : ℕ) (s : List ℕ) → AreBytes s → AreBytes (drop n s)
drop_bytes zero s h = h
drop_bytes (suc n) [] h = h
drop_bytes (suc n) (b ∷ s) h = drop_bytes n s (tail_bytes b s h)

pub take_bytes : (n : ℕ) (s : List ℕ) → AreBytes s → AreBytes (take n s)
take_bytes zero s h i = omega arith
take_bytes (suc n) [] h i = h i
take_bytes (suc n) (b ∷ s) h zero = h 0
take_bytes (suc n) (b ∷ s) h (suc i) = take_bytes n s (tail_bytes b s h) i

-- lists of bytes one after the other are bytes, and so is what is written of a number
pub append_bytes : (a b : List ℕ) → AreBytes a → AreBytes b → AreBytes (a ++ b)
append_bytes [] b p q i = q i
append_bytes (x ∷ a) b p q zero = p 0
append_bytes (x ∷ a) b p q (suc i) = append_bytes a b (λ j. p (suc j)) q i

pub bytes_are : (w v : ℕ) → AreBytes (bytes w v)
bytes_are zero v i = omega arith
bytes_are (suc w) v zero = omega arith
bytes_are (suc w) v (suc i) = bytes_are w (v / 256) i

-- w bytes hold a number below 256 ^ w
pub number_take : (w : ℕ) (s : List ℕ) → AreBytes s → number (take w s) < 256 ^ w
number_take zero s h = omega arith
number_take (suc w) [] h = one-le-pow (suc w) 256 (omega arith)
number_take (suc w) (b ∷ s) h = rw pow-suc (omega (arith, h 0, number_take w s (tail_bytes b s h)))

-- ---- there and back

pub length_bytes : (w v : ℕ) → length (bytes w v) ≡ w
length_bytes zero v = refl
length_bytes (suc w) v = ap suc (length_bytes w (v / 256))

pub number_bytes : (w v : ℕ) → v < 256 ^ w → number (bytes w v) ≡ v
number_bytes zero v h = omega arith
number_bytes (suc w) v h = omega (arith, number_bytes w (v / 256) (omega (arith, pow-suc 256 w)))

pub bytes_number : (w : ℕ) (s : List ℕ) → AreBytes s → w ≤ length s → bytes w (number (take w s)) ≡ take w s
bytes_number zero s h l = refl
bytes_number (suc w) [] h l = absurd (omega arith)
bytes_number (suc w) (b ∷ s) h l =
    let n = number (take w s) in
    let k = h 0 in
    let e : (b + 256 * n) % 256 ≡ b = omega arith in
    let f : (b + 256 * n) / 256 ≡ n = omega arith in
    rw (e, f, bytes_number w s (tail_bytes b s h) (omega arith))

-- ---- the lowest byte first: byte i of a number is its digit i to the base 256

digit_on : (v i : ℕ) → v / 256 / 256 ^ i ≡ v / 256 ^ suc i
digit_on v i = div-div-eq-div-mul v 256 (256 ^ i) ∙ ap (λ (n : ℕ). v / n) (sym (pow-succ' 256 i))

pub byte_written : (w v i : ℕ) → i < w → get_or (bytes w v) i 0 ≡ v / 256 ^ i % 256
byte_written zero v i h = absurd (omega arith)
byte_written (suc w) v zero h = rw (pow-zero, div-one)
byte_written (suc w) v (suc i) h = byte_written w (v / 256) i (omega arith) ∙ ap (λ (n : ℕ). n % 256) (digit_on v i)

pub byte_read : (s : List ℕ) (i : ℕ) → AreBytes s → number s / 256 ^ i % 256 ≡ get_or s i 0
byte_read [] i h = rw zero-div
byte_read (b ∷ s) zero h = rw (pow-zero, div-one) (omega (arith, h 0))
byte_read (b ∷ s) (suc i) h =
    let k = h 0 in
    let e : (b + 256 * number s) / 256 ≡ number s = omega arith in
    rw (← digit_on (b + 256 * number s) i, e) (byte_read s i (tail_bytes b s h))

-- ---- two's complement

-- a number less f, as a negative one
less : (f v : ℕ) → v < f → pos v -ℤ pos f ≡ negsuc (f - suc v)
unfolding up dn
less f v h =
    let e : up (pos v -ℤ pos f) + (0 + f) ≡ (v + 0) + dn (pos v -ℤ pos f) = diff_parts (pos v) (pos f) in
    parts_eq (pos v -ℤ pos f) (negsuc (f - suc v)) (omega arith)

-- what w bytes stand for: the number in them or that less 256 ^ w, whichever lies from minus half of 256 ^ w up to below half of it
-- (`mag z < h` says that z is from -h up to h - 1)
pub signed_is : (w v : ℕ) → v < 256 ^ suc w
    → ((signed (suc w) v ≡ pos v) ⊎ (signed (suc w) v ≡ pos v -ℤ pos (256 ^ suc w))) × (mag (signed (suc w) v) < 256 ^ suc w / 2)
unfolding signed
signed_is w v h =
    let e : 256 ^ suc w ≡ 256 ^ w * 256 = pow-suc 256 w in
    cases (ltb (2 * v) (256 ^ suc w))
    (λ b. let l = ltb-true (2 * v) (256 ^ suc w) b in rw b (inl refl, omega arith))
    (λ b. let l = ltb-false (2 * v) (256 ^ suc w) b in rw b (inr refl, rw (less (256 ^ suc w) v h) (omega arith)))

-- and there and back: a signed number whose magnitude is below half of what the bytes hold
pub signed_twos : (w : ℕ) (z : ℤ) → mag z < 256 ^ w / 2 → signed w (twos w z) ≡ z
unfolding signed twos
signed_twos w (pos n) h = rw (lt-ltb (2 * n) (256 ^ w) (omega arith))
signed_twos w (negsuc n) h =
    let v = 256 ^ w - suc n in
    rw (le-ltb (2 * v) (256 ^ w) (omega arith)) (less (256 ^ w) v (omega arith) ∙ ap negsuc (omega arith))

pub twos_below : (w : ℕ) (z : ℤ) → mag z < 256 ^ w / 2 → twos w z < 256 ^ w
unfolding twos
twos_below w (pos n) h = omega arith
twos_below w (negsuc n) h = omega arith

-- and a number of w bytes, read as signed
pub twos_signed : (w v : ℕ) → v < 256 ^ w → twos w (signed w v) ≡ v
unfolding signed twos
twos_signed w v h =
    cases (ltb (2 * v) (256 ^ w))
    (λ b. rw b)
    (λ b. rw (b, less (256 ^ w) v h) (omega arith))
