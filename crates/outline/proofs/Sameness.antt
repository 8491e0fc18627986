-- The tests of specs/Sameness.antt decide whether two outlines have the same sides (`test_same`, `same_test`), and whether they are one
-- (`same_outline_is`, `same_outline_self`); and how the bits of two starts tell it (`same_bits`). Assumes nothing.
use mathlib.Core.Path.{◌≡◌, refl, sym, ap, ◌∙◌}
use mathlib.Core.Bool.{true, false, ◌&&◌}
use lib.Dec.{eqb}
use lib.IntN.{ℤ, pos, negsuc}
use mir.Syntax.{w32}
use mir.Val.{SFits, to_z, of_z}
use mir.Facts.{to_z-of_z}
use borrow.Author.Tests.{eqb-true, eq-eqb, ne_eqb}
use Rattle.integers.proofs.Tests.{cases, both_true, and_true, true_is_not_false}
use Rattle.outline.specs.declared.Outline.{Outline}
use Rattle.outline.specs.Sameness.{SameSides, same_sides, same_integer, same_outline}

-- ---- the sides

pub test_same : (o p : Outline) → same_sides o p ≡ true → SameSides o p
test_same o p h =
    let t7 = both_true _ (eqb o.n7 p.n7) h in
    let t6 = both_true _ (eqb o.n6 p.n6) t7.0 in
    let t5 = both_true _ (eqb o.n5 p.n5) t6.0 in
    let t4 = both_true _ (eqb o.n4 p.n4) t5.0 in
    let t3 = both_true _ (eqb o.n3 p.n3) t4.0 in
    let t2 = both_true _ (eqb o.n2 p.n2) t3.0 in
    let t1 = both_true (eqb o.n0 p.n0) (eqb o.n1 p.n1) t2.0 in
    record {
      e0 = eqb-true _ _ t1.0;
      e1 = eqb-true _ _ t1.1;
      e2 = eqb-true _ _ t2.1;
      e3 = eqb-true _ _ t3.1;
      e4 = eqb-true _ _ t4.1;
      e5 = eqb-true _ _ t5.1;
      e6 = eqb-true _ _ t6.1;
      e7 = eqb-true _ _ t7.1;
    }

pub same_test : (o p : Outline) → SameSides o p → same_sides o p ≡ true
same_test o p s =
    and_true (and_true (and_true (and_true (and_true (and_true (and_true
    (eq-eqb _ _ s.e0) (eq-eqb _ _ s.e1)) (eq-eqb _ _ s.e2)) (eq-eqb _ _ s.e3))
    (eq-eqb _ _ s.e4)) (eq-eqb _ _ s.e5)) (eq-eqb _ _ s.e6)) (eq-eqb _ _ s.e7)

pub same_self : (o : Outline) → SameSides o o
same_self o = record { e0 = refl; e1 = refl; e2 = refl; e3 = refl; e4 = refl; e5 = refl; e6 = refl; e7 = refl }

-- ---- integers

pub integer_is : (x y : ℤ) → same_integer x y ≡ true → x ≡ y
integer_is (pos a) (pos b) h = ap pos (eqb-true a b h)
integer_is (pos a) (negsuc b) h = absurd (true_is_not_false (sym h))
integer_is (negsuc a) (pos b) h = absurd (true_is_not_false (sym h))
integer_is (negsuc a) (negsuc b) h = ap negsuc (eqb-true a b h)

pub integer_self : (x : ℤ) → same_integer x x ≡ true
integer_self (pos a) = eq-eqb a a refl
integer_self (negsuc a) = eq-eqb a a refl

-- two of 32 bits are one where their bits are
pub same_bits : (x y : ℤ) → SFits w32 x → SFits w32 y → eqb (of_z w32 x) (of_z w32 y) ≡ same_integer x y
same_bits x y f g = cases (same_integer x y) (λ t. eq-eqb _ _ (ap (of_z w32) (integer_is x y t)) ∙ sym t) (λ t. ne_eqb _ _ (unlike t) ∙ sym t)
  where
    unlike : same_integer x y ≡ false → of_z w32 x ≡ of_z w32 y → ⊥
    unlike t e =
        let q : x ≡ y = sym (to_z-of_z f) ∙ ap (to_z w32) e ∙ to_z-of_z g in
        true_is_not_false (sym (integer_self x) ∙ ap (same_integer x) q ∙ t)

-- ---- outlines

pub equal_outlines : {o p : Outline} → o.i ≡ p.i → o.j ≡ p.j → SameSides o p → o ≡ p
equal_outlines ei ej s k = record {
  i = ei k;
  j = ej k;
  n0 = s.e0 k;
  n1 = s.e1 k;
  n2 = s.e2 k;
  n3 = s.e3 k;
  n4 = s.e4 k;
  n5 = s.e5 k;
  n6 = s.e6 k;
  n7 = s.e7 k;
}

pub same_outline_is : (o p : Outline) → same_outline o p ≡ true → o ≡ p
unfolding same_outline
same_outline_is o p h =
    let a = both_true (same_integer o.i p.i && same_integer o.j p.j) (same_sides o p) h in
    let b = both_true (same_integer o.i p.i) (same_integer o.j p.j) a.0 in
    equal_outlines (integer_is o.i p.i b.0) (integer_is o.j p.j b.1) (test_same o p a.1)

pub same_outline_self : (o : Outline) → same_outline o o ≡ true
unfolding same_outline
same_outline_self o = and_true (and_true (integer_self o.i) (integer_self o.j)) (same_test o o (same_self o))
