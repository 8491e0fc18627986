-- A whole number over a power of two as an `f64`: rounding to it is exact, and so is the product that makes it. Assumes nothing.
use mathlib.Core.Path.{◌≡◌, sym, ap, ◌∙◌}
use mathlib.Core.Bool.{Bool, true, false}
use Prim.Native.Nat.{ℕ, suc, ◌+◌, ◌-◌, ◌*◌, ◌^◌, ◌≤◌, ◌<◌}
use native.Mathlib.Nat.{mul_assoc, mul-pos, lt_of_lt_of_le, lt_of_le_of_lt, le_of_lt, le_trans}
use native.Mathlib.Omega.{arith}
use lib.IntN.{ℤ, pos, negsuc}
use lib.Signed.{mag}
use lib.Dec.{lit<, lit≤}
use lib.Pow.{pow-add, pow_pos, pow_mono, shl_lt}
use lib.Ieee.{Float, nan, inf, fin, binary64, up, down, round, mul, of_int}
use lib.Ieee.Fits.{down_pos}
use lib.Ieee.Exact.{HasValue, round_exact}
use lib.Ieee.Back.{round_whole}
use lib.Ieee.Scale.{round_same}
use Rattle.outline.specs.Places.{Exactly, over}

-- ---- n / 2 ^ j is a value of the format

exact : (s : Bool) (n j : ℕ) → j ≤ 1074 → n < 2 ^ 53 → HasValue (round binary64 s n (2 ^ j)) s n (2 ^ j)
exact s n j l h =
    let i = 1074 - j in
    let whole : i + j ≡ 1074 = omega arith in
    round_exact binary64 s n (2 ^ j) n i (pow_pos j) h
    (lt_of_lt_of_le (shl_lt 53 i h) (pow_mono (room i (omega arith))))
    (ap (λ (x : ℕ). n * x) (ap (λ (k : ℕ). 2 ^ k) (sym whole) ∙ pow-add 2 i j) ∙ sym (mul_assoc n (2 ^ i) (2 ^ j)))
  where
    room : (i : ℕ) → i ≤ 1074 → 53 + i ≤ 1074 + 1024
    room i q = omega arith

pub over_exact : (z : ℤ) (j : ℕ) → j ≤ 1074 → mag z < 2 ^ 31 → Exactly z (2 ^ j) (over z (2 ^ j))
unfolding over
over_exact (pos n) j l h = exact false n j l (lt_of_lt_of_le h (lit≤ tt))
over_exact (negsuc n) j l h = exact true (suc n) j l (lt_of_le_of_lt h (lit< tt))

-- ---- a product with 2 ^ -(j + 1)

times : (a n d k : ℕ) → a * 1 ≡ n * d → a * 1 * k ≡ n * (d * k)
times a n d k h = ap (λ (x : ℕ). x * k) h ∙ mul_assoc n d k

scaled : (t s : Bool) (m : ℕ) (e : ℤ) (n j : ℕ) → HasValue (fin t m e) s n 1 →
    round binary64 t (m * up e * 1) (down e * 2 ^ suc j) ≡ round binary64 s n (2 ^ suc j)
scaled t s m e n j v =
    round_same binary64 t (m * up e * 1) (down e * 2 ^ suc j) n (2 ^ suc j) (mul-pos (down_pos e) (pow_pos (suc j))) (pow_pos (suc j))
    (times (m * up e) n (down e) (2 ^ suc j) v.1)
    ∙ ap (λ (u : Bool). round binary64 u n (2 ^ suc j)) v.0

product : (x : Float) (s : Bool) (n j : ℕ) → HasValue x s n 1 → mul binary64 x (fin false 1 (negsuc j)) ≡ round binary64 s n (2 ^ suc j)
unfolding mul
product nan s n j v = absurd v
product (inf t) s n j v = absurd v
product (fin true m e) s n j v = scaled true s m e n j v
product (fin false m e) s n j v = scaled false s m e n j v

pub over_mul : (z : ℤ) (j : ℕ) → mag z < 2 ^ 31 → mul binary64 (of_int binary64 z) (fin false 1 (negsuc j)) ≡ over z (2 ^ suc j)
unfolding over of_int
over_mul (pos n) j h = product (round binary64 false n 1) false n j (round_whole binary64 false n (le_trans (le_of_lt h) (lit≤ tt)))
over_mul (negsuc n) j h = product (round binary64 true (suc n) 1) true (suc n) j (round_whole binary64 true (suc n) (le_trans h (lit≤ tt)))
