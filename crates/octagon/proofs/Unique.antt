-- Normalised bounds are told by their cells: two octagons with the same cells whose bounds are all reached are equal. Assumes nothing.
use mathlib.Core.Path.{◌≡◌}
use native.Mathlib.Omega.{arith}
use lib.IntN.{ℤ, neg_ℤ, ◌+ℤ◌, ◌-ℤ◌}
use lib.Signed.{◌≤ℤ◌}
use Rattle.integers.proofs.Parts.{le_parts, parts_eq}
use Rattle.integers.proofs.Linear.{#, ◌≼◌}
use Rattle.octagon.specs.Octagon.{Octagon}
use Rattle.octagon.specs.Cells.{Cells, ◌⊆◌, ◌≐◌, Some, In, ReachedBy, Reached}

-- eight bounds that are equal
pub equal : {a b : Octagon} → a.c0 ≡ b.c0 → a.c1 ≡ b.c1 → a.c2 ≡ b.c2 → a.c3 ≡ b.c3 → a.c4 ≡ b.c4 → a.c5 ≡ b.c5 → a.c6 ≡ b.c6 →
    a.c7 ≡ b.c7 → a ≡ b
equal e0 e1 e2 e3 e4 e5 e6 e7 i =
    record { c0 = e0 i; c1 = e1 i; c2 = e2 i; c3 = e3 i; c4 = e4 i; c5 = e5 i; c6 = e6 i; c7 = e7 i }

-- a bound v that a cell of A reaches is at most a bound w of the same form on a set that holds A
at_most : {A B : Cells} (f : ℤ → ℤ → ℤ) (v w : ℤ) → A ⊆ B → ((x y : ℤ) → B x y → f x y ≤ℤ w) → Some (λ x y. A x y × (f x y ≡ v)) → # v ≼ # w
at_most f v w h k r = le_parts (rw r.cell.1 at (k r.x r.y (h r.x r.y r.cell.0)))

-- each bound of a is at most b's
pub record AtMost (a b : Octagon) : Type 0 where
  pub m0 : # a.c0 ≼ # b.c0
  pub m1 : # a.c1 ≼ # b.c1
  pub m2 : # a.c2 ≼ # b.c2
  pub m3 : # a.c3 ≼ # b.c3
  pub m4 : # a.c4 ≼ # b.c4
  pub m5 : # a.c5 ≼ # b.c5
  pub m6 : # a.c6 ≼ # b.c6
  pub m7 : # a.c7 ≼ # b.c7

-- bounds that cells of A reach are at most those of any octagon that holds A
pub at_mosts : {a : Octagon} {A : Cells} (b : Octagon) → ReachedBy A a → A ⊆ In b → AtMost a b
at_mosts {a} b r h = record {
  m0 = at_most (λ x y. neg_ℤ y) a.c0 b.c0 h (λ x y i. i.in0) r.reached0;
  m1 = at_most (λ x y. x -ℤ y) a.c1 b.c1 h (λ x y i. i.in1) r.reached1;
  m2 = at_most (λ x y. x) a.c2 b.c2 h (λ x y i. i.in2) r.reached2;
  m3 = at_most (λ x y. x +ℤ y) a.c3 b.c3 h (λ x y i. i.in3) r.reached3;
  m4 = at_most (λ x y. y) a.c4 b.c4 h (λ x y i. i.in4) r.reached4;
  m5 = at_most (λ x y. neg_ℤ x +ℤ y) a.c5 b.c5 h (λ x y i. i.in5) r.reached5;
  m6 = at_most (λ x y. neg_ℤ x) a.c6 b.c6 h (λ x y i. i.in6) r.reached6;
  m7 = at_most (λ x y. neg_ℤ x -ℤ y) a.c7 b.c7 h (λ x y i. i.in7) r.reached7;
}

-- bounds that are at most each other are equal
pub both_ways : (a b : Octagon) → AtMost a b → AtMost b a → a ≡ b
both_ways a b h k =
    equal
    (parts_eq a.c0 b.c0 (omega (arith, h.m0, k.m0)))
    (parts_eq a.c1 b.c1 (omega (arith, h.m1, k.m1)))
    (parts_eq a.c2 b.c2 (omega (arith, h.m2, k.m2)))
    (parts_eq a.c3 b.c3 (omega (arith, h.m3, k.m3)))
    (parts_eq a.c4 b.c4 (omega (arith, h.m4, k.m4)))
    (parts_eq a.c5 b.c5 (omega (arith, h.m5, k.m5)))
    (parts_eq a.c6 b.c6 (omega (arith, h.m6, k.m6)))
    (parts_eq a.c7 b.c7 (omega (arith, h.m7, k.m7)))

pub unique : {a b : Octagon} → Reached a → Reached b → In a ≐ In b → a ≡ b
unique {a} {b} r s h = both_ways a b (at_mosts b r (λ x y. (h x y).0)) (at_mosts a s (λ x y. (h x y).1))
