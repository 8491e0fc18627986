-- Squares of natural numbers: their order, the legs of a right-angled triangle, and the two halves of a slant reach. Assumes nothing.
use mathlib.Core.Path.{◌≡◌, subst}
use Prim.Native.Nat.{ℕ, zero, suc, ◌+◌, ◌-◌, ◌*◌, ◌/◌, ◌%◌, ◌≤◌, ◌<◌}
use native.Mathlib.Nat.{lt_of_not-le, not-le_of_lt, mul-le-mul, mul-add, add-mul, suc-mul, mul-suc, mul_comm, mul_assoc}
use native.Mathlib.Omega.{arith}
use Rattle.integers.proofs.Linear.{lit}
use Rattle.integers.proofs.Between.{decide}
use Rattle.clearance.specs.Disc.{SlantReach}

-- ---- order

-- a number whose square is below that of b is below b
pub below_root : (a b : ℕ) → a * a < b * b → a < b
below_root a b h = lt_of_not-le (λ (g : b ≤ a). not-le_of_lt h (mul-le-mul {n₁ = b} {m₁ = b} {n₂ = a} {m₂ = a} g g))

-- ---- the legs a and b of a right-angled triangle whose longest side is at most r

-- no leg is longer than r
pub leg : (a b r : ℕ) → a * a + b * b ≤ r * r → a ≤ r
leg a b r h =
    let l : a < suc r = below_root a (suc r) (omega (arith, suc-mul r (suc r), mul-suc r r)) in
    omega arith

-- the square of their sum is at most twice the sum of their squares: the difference is the square of b - a
sum_above : (a d : ℕ) → (a + (a + d)) * (a + (a + d)) ≤ 2 * (a * a + (a + d) * (a + d))
sum_above a d =
    omega (
      arith,
      add-mul a (a + d) (a + (a + d)),
      mul-add a a (a + d),
      mul-add (a + d) a (a + d),
      mul_comm (a + d) a,
      add-mul a d (a + d),
      mul-add a a d,
      mul-add d a d,
      mul_comm d a,
    )

sum_square : (a b : ℕ) → a ≤ b → (a + b) * (a + b) ≤ 2 * (a * a + b * b)
sum_square a b h = subst (λ (c : ℕ). (a + c) * (a + c) ≤ 2 * (a * a + c * c)) (omega arith) (sum_above a (b - a))

-- so the sum is at most the slant reach of r
slant_ordered : (a b r s : ℕ) → a ≤ b → a * a + b * b ≤ r * r → SlantReach r s → a + b ≤ s
slant_ordered a b r s o h k =
    let l : a + b < s + 1 = below_root (a + b) (s + 1) (omega (arith, sum_square a b o, k.passed, mul_assoc 2 r r)) in
    omega arith

pub slant : (a b r s : ℕ) → a * a + b * b ≤ r * r → SlantReach r s → a + b ≤ s
slant a b r s h k =
    decide (lit a) (lit b)
    (λ o. slant_ordered a b r s (omega arith) h k)
    (λ o. omega (arith, slant_ordered b a r s (omega arith) (omega arith) k))

-- ---- the slant reach is reached: it is the sum of two legs of such a triangle

pub record Legs (r s : ℕ) : Type 0 where
  pub a : ℕ
  pub b : ℕ
  pub sum : a + b ≡ s
  pub within : a * a + b * b ≤ r * r

-- an even one by two equal legs
even_legs : (r h : ℕ) → SlantReach r (h + h) → Legs r (h + h)
even_legs r h k =
    record { a = h; b = h; sum = omega arith; within = omega (arith, k.reached, mul_assoc 2 r r, add-mul h h (h + h), mul-add h h h) }

-- an odd one by two legs that differ by one: its square is odd, and so below 2 × r × r
odd_legs : (r h : ℕ) → SlantReach r (h + suc h) → Legs r (h + suc h)
odd_legs r h k = record {
  a = h;
  b = suc h;
  sum = omega arith;
  within =
      omega (
        arith,
        k.reached,
        mul_assoc 2 r r,
        add-mul h (suc h) (h + suc h),
        mul-add h h (suc h),
        mul-add (suc h) h (suc h),
        mul_comm (suc h) h,
        suc-mul h (suc h),
        mul-suc h h,
      );
}

pub legs : (r s : ℕ) → SlantReach r s → Legs r s
legs r s = go (s % 2) (omega arith) (omega arith)
  where
    go : (t : ℕ) → t < 2 → s ≡ s / 2 + (s / 2 + t) → SlantReach r s → Legs r s
    go zero l e = subst (λ (z : ℕ). SlantReach r z → Legs r z) (omega arith) (even_legs r (s / 2))
    go (suc zero) l e = subst (λ (z : ℕ). SlantReach r z → Legs r z) (omega arith) (odd_legs r (s / 2))
    go (suc (suc t)) l e = absurd (omega arith)
