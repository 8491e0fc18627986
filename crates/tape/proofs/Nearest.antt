-- The sum of a coordinate and 1.5 × 2^50: its bits tell the nearest whole number of quarters. Assumes nothing.
use mathlib.Core.Path.{◌≡◌, refl, sym, ap, ◌∙◌}
use mathlib.Core.Bool.{Bool, true, false, not, ◌&&◌, cond}
use Prim.Native.Nat.{ℕ, ◌+◌, ◌-◌, ◌*◌, ◌^◌, ◌≤◌, ◌<◌}
use native.Mathlib.Nat.{le_trans, add-mul, mul-add, mul-one, mul_comm, mul-le-mul_right, le_of_mul-le-mul_right, lt_of_mul-lt-mul_right}
use native.Mathlib.Omega.{arith}
use lib.IntN.{ℤ, pos, negsuc, nat_abs, ◌+ℤ◌, ◌-ℤ◌, ◌*ℤ◌}
use lib.Signed.{◌≤ℤ◌}
use lib.Dec.{T, ltb, lt→ltb}
use lib.Ieee.{Float, fin, binary64, up as raised, down, round, sum, add, to_bits, is_nan}
use lib.Ieee.Exact.{HasValue}
use lib.Ieee.Fits.{down_pos}
use lib.Ieee.Nearest.{closest}
use Rattle.integers.proofs.Parts.{up, dn, diff_parts, neg_up, neg_dn, parts_le}
use Rattle.integers.proofs.Linear.{#, ◌≼◌}
use Rattle.tape.specs.Snapping.{Nearest, with_sign}
use Rattle.tape.proofs.Scales.{twice_less, twice_more}
use Rattle.tape.proofs.Shift.{quarters, quarters_bits}
use Rattle.tape.proofs.Rounding.{rounded, bits, no_nan}

-- ---- the sum

-- a / d is the sum of ±b / d and 1.5 × 2^50
abbrev pub Shifted : Bool → ℕ → ℕ → ℕ → Type 0
Shifted false b a d = a ≡ 3 * 2 ^ 49 * d + b
Shifted true b a d = a + b ≡ 3 * 2 ^ 49 * d

-- a number below nought and a greater one above it
sum_apart : (a b c : ℕ) → a < b → sum binary64 true a false b c ≡ round binary64 false (b - a) c
unfolding sum
sum_apart a b c h = go (ltb a b) (lt→ltb a b h)
  where
    go : (t : Bool) → T t → cond t (round binary64 false (b - a) c) (round binary64 (true && ltb b a) (a - b) c) ≡ round binary64 false (b - a) c
    go true u = refl
    go false u = absurd u

pub added : (s : Bool) (m : ℕ) (x : ℤ) → m * raised x < 3 * 2 ^ 49 * down x
    → (a : ℕ) × (add binary64 (fin s m x) quarters ≡ round binary64 false a (down x)) × Shifted s (m * raised x) a (down x)
unfolding add sum
added false m x h = (
  3 * 2 ^ 49 * down x + m * raised x,
  ap (λ (z : ℕ). round binary64 false z (down x * 1)) (omega (arith, mul-one (m * raised x)))
      ∙ ap (λ (z : ℕ). round binary64 false (3 * 2 ^ 49 * down x + m * raised x) z) (mul-one (down x)),
  refl,
)
added true m x h = (
  3 * 2 ^ 49 * down x - m * raised x,
  sum_apart (m * raised x * 1) (3 * 2 ^ 49 * down x) (down x * 1) (omega (arith, mul-one (m * raised x)))
      ∙ ap (λ (z : ℕ). round binary64 false (3 * 2 ^ 49 * down x - z) (down x * 1)) (mul-one (m * raised x))
      ∙ ap (λ (z : ℕ). round binary64 false (3 * 2 ^ 49 * down x - m * raised x) z) (mul-one (down x)),
  omega arith,
)

-- n is q less t, which is half of k at most
distance : (n : ℤ) (q t k : ℕ) → up n + t ≡ q + dn n → q + q ≤ t + t + k → t + t ≤ q + q + k → nat_abs n + nat_abs n ≤ k
unfolding up dn
distance (pos r) q t k e h l = omega arith
distance (negsuc r) q t k e h l = omega arith

-- ---- the nearest whole number of quarters

-- the difference of the bits
abbrev pub told : Float → ℤ
told e = pos (to_bits binary64 (add binary64 e quarters)) -ℤ pos quarters_bits

-- of a coordinate at most an eighth of the bound from nought: the sum is no NaN, its bits are a number below 2^63, and the difference is the
-- nearest whole number of quarters
pub record Told (bound : ℕ) (e : Float) : Type 0 where
  pub number : T (not (is_nan (add binary64 e quarters)))
  pub small : to_bits binary64 (add binary64 e quarters) < 2 ^ 63
  pub within : nat_abs (told e) + nat_abs (told e) ≤ bound + 1
  pub nearby : Nearest (told e) e

range : (s : Bool) (b a d : ℕ) → 0 < d → 8 * b ≤ 2 ^ 48 * d → Shifted s b a d → (2 ^ 50 * d ≤ a) × (a < 2 ^ 51 * d) × (8 * a + d < 2 ^ 54 * d)
range false b a d D h e = (omega arith, omega arith, omega arith)
range true b a d D h e = (omega arith, omega arith, omega arith)

-- eight times the shifted number is within the bound of eight times the shift
band : (s : Bool) (b a d k : ℕ) → 8 * b ≤ k * d → Shifted s b a d → (8 * a ≤ 3 * 2 ^ 52 * d + k * d) × (3 * 2 ^ 52 * d ≤ 8 * a + k * d)
band false b a d k h e = (omega arith, omega arith)
band true b a d k h e = (omega arith, omega arith)

-- so twice q is within the bound and one of twice the shift's number of quarters
module _ (a d q k : ℕ) (D : 0 < d) where
  not_above : (q + q) * d ≤ 8 * a + d → 8 * a ≤ 3 * 2 ^ 52 * d + k * d → q + q ≤ 3 * 2 ^ 51 + 3 * 2 ^ 51 + (k + 1)
  not_above h l = le_of_mul-le-mul_right (omega (arith, add-mul (3 * 2 ^ 52) (k + 1) d, add-mul k 1 d)) D

  not_below : 8 * a ≤ (q + q) * d + d → 3 * 2 ^ 52 * d ≤ 8 * a + k * d → 3 * 2 ^ 51 + 3 * 2 ^ 51 ≤ q + q + (k + 1)
  not_below h l = le_of_mul-le-mul_right (omega (arith, add-mul (q + q) (k + 1) d, add-mul k 1 d)) D

fewer : (a d q : ℕ) → (q + q) * d ≤ 8 * a + d → 8 * a + d < 2 ^ 54 * d → q < 2 ^ 53
fewer a d q h k = let g : q + q < 2 ^ 54 = lt_of_mul-lt-mul_right d (omega arith) in omega arith

-- the difference of the bits is q less the shift's number of quarters
told_parts : (w q : ℕ) → w ≡ 1072 * 2 ^ 52 + q → up (pos w -ℤ pos quarters_bits) + 3 * 2 ^ 51 ≡ q + dn (pos w -ℤ pos quarters_bits)
unfolding up dn
told_parts w q e = let p = diff_parts (pos w) (pos quarters_bits) in omega arith

module _ (s : Bool) (b a d q : ℕ) (n : ℤ) (e : Shifted s b a d) (is : up n + 3 * 2 ^ 51 ≡ q + dn n) where
  -- the same, d times
  times : d * up n + d * (3 * 2 ^ 51) ≡ d * q + d * dn n
  times = sym (mul-add d (up n) (3 * 2 ^ 51)) ∙ ap (λ (k : ℕ). d * k) is ∙ mul-add d q (dn n)

  twice : (q + q) * d ≡ d * q + d * q
  twice = mul_comm (q + q) d ∙ mul-add d q q

  reached : (q + q) * d ≤ 8 * a + d → (((n +ℤ n) -ℤ pos 1) *ℤ pos d) ≤ℤ with_sign s (8 * b)
  unfolding up dn
  reached h = parts_le (((n +ℤ n) -ℤ pos 1) *ℤ pos d) (with_sign s (8 * b)) (go s e)
    where
      go : (s : Bool) → Shifted s b a d → # (((n +ℤ n) -ℤ pos 1) *ℤ pos d) ≼ # (with_sign s (8 * b))
      go false e = omega (arith, twice_less n d, times, twice)
      go true e = omega (arith, twice_less n d, times, twice, neg_up (pos (8 * b)), neg_dn (pos (8 * b)))

  not_passed : 8 * a ≤ (q + q) * d + d → with_sign s (8 * b) ≤ℤ (((n +ℤ n) +ℤ pos 1) *ℤ pos d)
  unfolding up dn
  not_passed h = parts_le (with_sign s (8 * b)) (((n +ℤ n) +ℤ pos 1) *ℤ pos d) (go s e)
    where
      go : (s : Bool) → Shifted s b a d → # (with_sign s (8 * b)) ≼ # (((n +ℤ n) +ℤ pos 1) *ℤ pos d)
      go false e = omega (arith, twice_more n d, times, twice)
      go true e = omega (arith, twice_more n d, times, twice, neg_up (pos (8 * b)), neg_dn (pos (8 * b)))

pub tells : (k : ℕ) (s : Bool) (m : ℕ) (x : ℤ) → k ≤ 2 ^ 48 → 8 * (m * raised x) ≤ k * down x → Told k (fin s m x)
tells k s m x l h =
    let b = m * raised x in
    let d = down x in
    let D : 0 < d = down_pos x in
    let wide : 8 * b ≤ 2 ^ 48 * d = le_trans h (mul-le-mul_right d l) in
    let t = added s m x (omega arith) in
    let a = t.0 in
    let g = range s b a d D wide t.2 in
    let r = rounded a d D g.0 g.1 in
    let q = closest (4 * a) d in
    let z = add binary64 (fin s m x) quarters in
    let value : HasValue z false q 4 = rw t.1 r.value in
    let below_top : q < 2 ^ 53 = fewer a d q r.over g.2 in
    let its_bits : to_bits binary64 z ≡ 1072 * 2 ^ 52 + q = bits z q value r.least below_top in
    let is = told_parts (to_bits binary64 z) q its_bits in
    let c = band s b a d k h t.2 in
    record {
      number = no_nan z false q 4 value;
      small = omega arith;
      within = distance (told (fin s m x)) q (3 * 2 ^ 51) (k + 1) is (not_above a d q k D r.over c.0) (not_below a d q k D r.under c.1);
      nearby = (reached s b a d q (told (fin s m x)) t.2 is r.over, not_passed s b a d q (told (fin s m x)) t.2 is r.under);
    }
