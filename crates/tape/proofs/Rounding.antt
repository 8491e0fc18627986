-- Rounding from 2^50 to 2^51, where the numbers of an `f64` are quarters: a fraction is rounded to whole quarters, an eighth from it at
-- most, and their number stands in the bits. Assumes nothing.
use mathlib.Core.Path.{◌≡◌, refl, sym, ap, ◌∙◌, subst}
use mathlib.Core.Bool.{Bool, true, false, not, true≢false}
use Prim.Native.Nat.{ℕ, zero, suc, ◌+◌, ◌-◌, ◌*◌, ◌/◌, ◌%◌, ◌^◌, ◌≤◌, ◌<◌, compare, Ordering}
use native.Mathlib.Nat.{le_trans, le_of_eq, lt_of_lt_of_le, lt_of_le_of_lt, lt_of_not-le, not-le_of_lt, add-mul, suc-mul, mul_comm}
use native.Mathlib.Nat.{mul_assoc, mul_left_comm, mul_right_comm, mul-pos, mul-le-mul_right, mul-lt-mul_of_pos_right}
use native.Mathlib.Nat.{eq_of_mul-eq-mul_right, le-div_iff_mul-le, div-lt_iff_lt-mul, mul-div_cancel, div-add-mod', mod-lt}
use native.Mathlib.Omega.{arith}
use lib.IntN.{ℤ}
use lib.Dec.{T, is_le, compare_is_eq, leb→le, nleb→lt, eqb→eq, lit≤, lit<}
use lib.Pow.{pow-add, pow_pos, pow_mono, shl_lt}
use lib.Ieee.{Float, nan, inf, fin, binary64, up as raised, down, size, nearest, units, round, to_bits, is_nan}
use lib.Ieee.Digits.{size-lt, size-le}
use lib.Ieee.Fits.{core, nearest-le, round_is, down_pos}
use lib.Ieee.Exact.{HasValue, units_val}
use lib.Ieee.Nearest.{closest, closest_same, nearest-ge}

-- ---- how many digits a number has

size_is : (w j k : ℕ) → k ≡ suc j → 2 ^ j ≤ w → w < 2 ^ k → size w ≡ k
size_is w j k e h l =
    let g : j < size w = lt_of_not-le (λ (s : size w ≤ j). not-le_of_lt (lt_of_lt_of_le (size-lt w) (pow_mono s)) h) in
    let s : size w ≤ k = size-le w k l in
    omega arith

-- a / d is 2 ^ j at least, and below 2 ^ (j + 1): 2 ^ l times it has j + 1 + l digits before the point
size_over : (a d j l : ℕ) → 0 < d → 2 ^ j * d ≤ a → a < 2 ^ suc j * d → size (a * 2 ^ l / d) ≡ suc j + l
size_over a d j l D h k =
    size_is (a * 2 ^ l / d) (j + l) (suc j + l) (omega arith)
    ((le-div_iff_mul-le D).1 (le_trans (le_of_eq (ap (λ (x : ℕ). x * d) (pow-add 2 j l) ∙ mul_right_comm (2 ^ j) (2 ^ l) d)) (mul-le-mul_right (2 ^ l) h)))
    ((div-lt_iff_lt-mul D).1
    (lt_of_lt_of_le (mul-lt-mul_of_pos_right k (pow_pos l))
    (le_of_eq (mul_right_comm (2 ^ suc j) d (2 ^ l) ∙ ap (λ (x : ℕ). x * d) (sym (pow-add 2 (suc j) l))))))

-- ---- how far off `closest` is: half of one at most

-- with the whole part w and the remainder r of a division by b
near_by : (w r b : ℕ) (o : Ordering) → r < b → (T (is_le o) → r * 2 ≤ b) → (T (not (is_le o)) → b < r * 2) → (T (compare_is_eq o) → r * 2 ≡ b)
    → ((nearest w o + nearest w o) * b ≤ (w * b + r) + (w * b + r) + b) × ((w * b + r) + (w * b + r) ≤ (nearest w o + nearest w o) * b + b)
near_by w r b Ordering.lt l h k e = (omega (arith, add-mul w w b), omega (arith, add-mul w w b, h tt))
near_by w r b Ordering.gt l h k e =
    (omega (arith, add-mul (suc w) (suc w) b, suc-mul w b, k tt), omega (arith, add-mul (suc w) (suc w) b, suc-mul w b, k tt))
near_by w r b Ordering.eq l h k e = go (w % 2) (mod-lt w (lit< tt))
  where
    go : (t : ℕ) → t < 2 → (((w + t) + (w + t)) * b ≤ (w * b + r) + (w * b + r) + b) × ((w * b + r) + (w * b + r) ≤ ((w + t) + (w + t)) * b + b)
    go zero f =
        (omega (arith, add-mul (w + 0) (w + 0) b, add-mul w 0 b, e tt), omega (arith, add-mul (w + 0) (w + 0) b, add-mul w 0 b, e tt))
    go (suc zero) f =
        (omega (arith, add-mul (w + 1) (w + 1) b, add-mul w 1 b, e tt), omega (arith, add-mul (w + 1) (w + 1) b, add-mul w 1 b, e tt))
    go (suc (suc t)) f = absurd (omega arith)

closest_near : (a b : ℕ) → 0 < b
    → ((closest a b + closest a b) * b ≤ a + a + b) × (a + a ≤ (closest a b + closest a b) * b + b)
closest_near a b B =
    subst (λ (x : ℕ). ((closest a b + closest a b) * b ≤ x + x + b) × (x + x ≤ (closest a b + closest a b) * b + b)) (div-add-mod' a b)
    (near_by (a / b) (a % b) b (compare (a % b * 2) b) (mod-lt a B) (leb→le (a % b * 2) b) (nleb→lt (a % b * 2) b) (eqb→eq (a % b * 2) b))

-- ---- the rounding: from 2 ^ 50 to 2 ^ 51 the numbers of the format are quarters

quarter_units : (a d p : ℕ) → a * (p * 4) * d ≡ 4 * a * (d * p)
quarter_units a d p = simp (mul_assoc, mul_comm, mul_left_comm)

round_units : (a d : ℕ) → 0 < d → 2 ^ 50 * d ≤ a → a < 2 ^ 51 * d → round binary64 false a d ≡ units binary64 false (closest (4 * a) d) 1072
round_units a d D h k =
    round_is binary64 false a d
    ∙ ap (λ (z : ℕ). core binary64 false (a * 2 ^ 1074) d (z - 53)) (size_over a d 50 1074 D h k)
    ∙ ap (λ (z : ℕ). units binary64 false z 1072)
    (closest_same (a * 2 ^ 1074) (d * 2 ^ 1072) (4 * a) d (mul-pos D (pow_pos 1072)) D (quarter_units a d (2 ^ 1072)))

-- the same float as a fraction of a smaller denominator
smaller : (x : Float) (s : Bool) (q p : ℕ) → 0 < p → HasValue x s (q * p) (p * 4) → HasValue x s q 4
smaller nan s q p P v = v
smaller (inf t) s q p P v = v
smaller (fin t m e) s q p P v = (
  v.0,
  eq_of_mul-eq-mul_right p P (m * raised e * 4) (q * down e)
      (mul_assoc (m * raised e) 4 p ∙ ap (λ (x : ℕ). m * raised e * x) (mul_comm 4 p) ∙ v.1 ∙ mul_right_comm q p (down e)),
)

fits_units : (q : ℕ) → q ≤ 2 ^ 53 → q * 2 ^ 1072 < 2 ^ 2098
fits_units q h = lt_of_lt_of_le (shl_lt 54 1072 (lt_of_le_of_lt h (lit< tt))) (lit≤ tt)

-- a / d is rounded to q quarters, an eighth from it at most
pub record Rounded (a d q : ℕ) : Type 0 where
  pub value : HasValue (round binary64 false a d) false q 4
  pub least : 2 ^ 52 ≤ q
  pub most : q ≤ 2 ^ 53
  pub over : (q + q) * d ≤ 8 * a + d
  pub under : 8 * a ≤ (q + q) * d + d

pub rounded : (a d : ℕ) → 0 < d → 2 ^ 50 * d ≤ a → a < 2 ^ 51 * d → Rounded a d (closest (4 * a) d)
rounded a d D h k =
    let q = closest (4 * a) d in
    let near = closest_near (4 * a) d D in
    let least : 2 ^ 52 ≤ q = le_trans ((le-div_iff_mul-le D).1 (omega arith)) (nearest-ge (4 * a / d) (compare (4 * a % d * 2) d)) in
    let whole : 4 * a / d < 2 ^ 53 = (div-lt_iff_lt-mul D).1 (omega arith) in
    let most : q ≤ 2 ^ 53 = le_trans (nearest-le (4 * a / d) (compare (4 * a % d * 2) d)) whole in
    record {
      value =
          rw (round_units a d D h k)
          (smaller (units binary64 false q 1072) false q (2 ^ 1072) (pow_pos 1072) (units_val binary64 false q 1072 (fits_units q most)));
      least = least;
      most = most;
      over = omega (arith, near.0);
      under = omega (arith, near.1);
    }

-- ---- the bits of q quarters, where they have 53 digits

in_units : (m u d q p : ℕ) → 0 < d → m * u * 4 ≡ q * d → m * u * (p * 4) / d ≡ q * p
in_units m u d q p D h =
    ap (λ (x : ℕ). x / d) (ap (λ (x : ℕ). m * u * x) (mul_comm p 4) ∙ sym (mul_assoc (m * u) 4 p) ∙ ap (λ (x : ℕ). x * p) h ∙ mul_right_comm q d p)
    ∙ mul-div_cancel (q * p) D

size_units : (q : ℕ) → 2 ^ 52 ≤ q → q < 2 ^ 53 → size (q * 2 ^ 1072) ≡ 1125
size_units q h k =
    size_is (q * 2 ^ 1072) 1124 1125 refl (le_trans (le_of_eq (pow-add 2 52 1072)) (mul-le-mul_right (2 ^ 1072) h)) (shl_lt 53 1072 k)

-- the bits by the number of smallest values, w
bits_by : (m : ℕ) (e : ℤ) (w : ℕ) → m * raised e * 2 ^ 1074 / down e ≡ w → to_bits binary64 (fin false m e) ≡ 0 + (size w - 53) * 2 ^ 52 + w / 2 ^ (size w - 53)
unfolding to_bits
bits_by m e w p = ap (λ (x : ℕ). 0 + (size x - 53) * 2 ^ 52 + x / 2 ^ (size x - 53)) p

pub bits : (z : Float) (q : ℕ) → HasValue z false q 4 → 2 ^ 52 ≤ q → q < 2 ^ 53 → to_bits binary64 z ≡ 1072 * 2 ^ 52 + q
bits nan q v h k = absurd v
bits (inf s) q v h k = absurd v
bits (fin true m e) q v h k = absurd (true≢false v.0)
bits (fin false m e) q v h k =
    bits_by m e (q * 2 ^ 1072) (in_units m (raised e) (down e) q (2 ^ 1072) (down_pos e) v.1)
    ∙ ap (λ (x : ℕ). 0 + (x - 53) * 2 ^ 52 + q * 2 ^ 1072 / 2 ^ (x - 53)) (size_units q h k)
    ∙ ap (λ (x : ℕ). 1072 * 2 ^ 52 + x) (mul-div_cancel q (pow_pos 1072))

pub no_nan : (z : Float) (s : Bool) (a c : ℕ) → HasValue z s a c → T (not (is_nan z))
unfolding is_nan
no_nan nan s a c v = absurd v
no_nan (inf t) s a c v = absurd v
no_nan (fin t m e) s a c v = tt
