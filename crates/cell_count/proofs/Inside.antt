-- The test `inside` is passed by exactly the cells of the octagon. Assumes nothing.
use mathlib.Core.Path.{◌≡◌, sym, ◌∙◌}
use mathlib.Core.Logic.{◌↔◌}
use mathlib.Core.Bool.{Bool, true, false, ◌&&◌}
use lib.IntN.{ℤ, neg_ℤ, ◌+ℤ◌, ◌-ℤ◌}
use lib.Signed.{le_z, ◌≤ℤ◌}
use Rattle.integers.proofs.Tests.{T_true, true_T, true_is_not_false, both_true, and_true, cases}
use Rattle.octagon.specs.Octagon.{Octagon}
use Rattle.octagon.specs.Cells.{◌⊆◌, ◌≐◌, In}
use Rattle.cell_count.specs.Count.{inside}

order_told : (a b : ℤ) → le_z a b ≡ true → a ≤ℤ b
order_told a b h = record { le = true_T h }

order_test : (a b : ℤ) → a ≤ℤ b → le_z a b ≡ true
order_test a b h = T_true (le_z a b) h.le

-- a conjunction whose last test is of an order
and_order : (t : Bool) (a b : ℤ) → (t && le_z a b) ≡ true → (t ≡ true) × (a ≤ℤ b)
and_order t a b h = let p = both_true t (le_z a b) h in (p.0, order_told a b p.1)

inside_in : (c : Octagon) (x y : ℤ) → inside c x y ≡ true → In c x y
unfolding inside
inside_in c x y h =
    let p7 = and_order _ (neg_ℤ x -ℤ y) c.c7 h in
    let p6 = and_order _ (neg_ℤ x) c.c6 p7.0 in
    let p5 = and_order _ (neg_ℤ x +ℤ y) c.c5 p6.0 in
    let p4 = and_order _ y c.c4 p5.0 in
    let p3 = and_order _ (x +ℤ y) c.c3 p4.0 in
    let p2 = and_order _ x c.c2 p3.0 in
    let p1 = and_order _ (x -ℤ y) c.c1 p2.0 in
    record {
      in0 = order_told (neg_ℤ y) c.c0 p1.0;
      in1 = p1.1;
      in2 = p2.1;
      in3 = p3.1;
      in4 = p4.1;
      in5 = p5.1;
      in6 = p6.1;
      in7 = p7.1;
    }

in_inside : (c : Octagon) (x y : ℤ) → In c x y → inside c x y ≡ true
unfolding inside
in_inside c x y i =
    and_true (and_true (and_true (and_true (and_true (and_true (and_true
    (order_test (neg_ℤ y) c.c0 i.in0)
    (order_test (x -ℤ y) c.c1 i.in1))
    (order_test x c.c2 i.in2))
    (order_test (x +ℤ y) c.c3 i.in3))
    (order_test y c.c4 i.in4))
    (order_test (neg_ℤ x +ℤ y) c.c5 i.in5))
    (order_test (neg_ℤ x) c.c6 i.in6))
    (order_test (neg_ℤ x -ℤ y) c.c7 i.in7)

-- a cell passes the test exactly when it is a cell of the octagon
pub inside_is : (c : Octagon) (x y : ℤ) → (inside c x y ≡ true) ↔ In c x y
inside_is c x y = (inside_in c x y, in_inside c x y)

-- and fails it when it is none
pub outside : (c : Octagon) (x y : ℤ) → ¬ (In c x y) → inside c x y ≡ false
outside c x y h = cases (inside c x y) (λ e. absurd (h (inside_in c x y e))) (λ e. e)

-- where one octagon holds another, its test is passed wherever the other's is
pub inside_most : (a b : Octagon) → In a ⊆ In b → (x y : ℤ) → inside a x y ≡ true → inside b x y ≡ true
inside_most a b h x y e = in_inside b x y (h x y (inside_in a x y e))

-- octagons with the same cells are the same test
pub inside_same : (a b : Octagon) → In a ≐ In b → (x y : ℤ) → inside a x y ≡ inside b x y
inside_same a b h x y =
    cases (inside a x y) (λ e. e ∙ sym (inside_most a b (λ u v. (h u v).0) x y e))
    (λ e. e ∙ sym (outside b x y (λ i. true_is_not_false (sym (in_inside a x y ((h x y).1 i)) ∙ e))))
