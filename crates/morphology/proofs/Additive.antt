-- The left sides of document 01's eight inequalities at the sum of two cells: each is the sum of its values at the two. Assumes nothing.
use mathlib.Core.Path.{◌≡◌, refl}
use native.Mathlib.Omega.{arith}
use lib.IntN.{ℤ, neg_ℤ, ◌+ℤ◌, ◌-ℤ◌}
use Rattle.integers.proofs.Parts.{sum_parts, diff_parts, neg_up, neg_dn}
use Rattle.integers.proofs.Linear.{#, ◌⊕◌, neg, same}

-- the left side d adds up
abbrev pub Additive : (ℤ → ℤ → ℤ) → Type 0
Additive d = (x y u v : ℤ) → d (x +ℤ u) (y +ℤ v) ≡ d x y +ℤ d u v

neg_adds : (a b : ℤ) → neg_ℤ (a +ℤ b) ≡ neg_ℤ a +ℤ neg_ℤ b
neg_adds a b =
    same (neg (# a) ⊕ neg (# b)) (omega (arith, neg_up (a +ℤ b), neg_dn (a +ℤ b), sum_parts a b))
    (omega (arith, sum_parts (neg_ℤ a) (neg_ℤ b), neg_up a, neg_dn a, neg_up b, neg_dn b))

-- sums, and differences, of sums
sum_adds : (a b c d : ℤ) → (a +ℤ b) +ℤ (c +ℤ d) ≡ (a +ℤ c) +ℤ (b +ℤ d)
sum_adds a b c d =
    same (# a ⊕ # b ⊕ # c ⊕ # d) (omega (arith, sum_parts (a +ℤ b) (c +ℤ d), sum_parts a b, sum_parts c d))
    (omega (arith, sum_parts (a +ℤ c) (b +ℤ d), sum_parts a c, sum_parts b d))

difference_adds : (a b c d : ℤ) → (a +ℤ b) -ℤ (c +ℤ d) ≡ (a -ℤ c) +ℤ (b -ℤ d)
difference_adds a b c d =
    same (# a ⊕ # b ⊕ neg (# c) ⊕ neg (# d)) (omega (arith, diff_parts (a +ℤ b) (c +ℤ d), sum_parts a b, sum_parts c d))
    (omega (arith, sum_parts (a -ℤ c) (b -ℤ d), diff_parts a c, diff_parts b d))

-- ---- the eight left sides, in the bounds' order

pub adds0 : Additive (λ x y. neg_ℤ y)
adds0 x y u v = neg_adds y v

pub adds1 : Additive (λ x y. x -ℤ y)
adds1 x y u v = difference_adds x u y v

pub adds2 : Additive (λ x y. x)
adds2 x y u v = refl

pub adds3 : Additive (λ x y. x +ℤ y)
adds3 x y u v = sum_adds x u y v

pub adds4 : Additive (λ x y. y)
adds4 x y u v = refl

pub adds5 : Additive (λ x y. neg_ℤ x +ℤ y)
adds5 x y u v = rw (neg_adds x u) (sum_adds (neg_ℤ x) (neg_ℤ u) y v)

pub adds6 : Additive (λ x y. neg_ℤ x)
adds6 x y u v = neg_adds x u

pub adds7 : Additive (λ x y. neg_ℤ x -ℤ y)
adds7 x y u v = rw (neg_adds x u) (difference_adds (neg_ℤ x) (neg_ℤ u) y v)
