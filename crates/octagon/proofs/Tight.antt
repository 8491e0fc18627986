-- Each bound of the normal form is the greatest under its limits, and the normal form has the same cells as its bounds. Assumes nothing.
use native.Mathlib.Omega.{arith}
use lib.IntN.{ℤ, ◌+ℤ◌}
use Rattle.integers.specs.Minimum.{min_ℤ, half_ℤ}
use Rattle.integers.proofs.Parts.{sum_parts}
use Rattle.integers.proofs.Linear.{Diff, #, ◌⊕◌, neg, ◌≼◌}
use Rattle.integers.proofs.Minimum.{min_ind, min_left, min_right, halved}
use Rattle.octagon.specs.Octagon.{Octagon}
use Rattle.octagon.specs.NormalForm.{even_bound, odd_bound, tight_even, tight_odd, normal_form}
use Rattle.octagon.proofs.Within.{Within}

-- ---- an even bound is the greatest integer under four limits

pub record Under (d : Diff) (fb b o a fa : ℤ) : Type 0 where
  pub own : d ≼ # o
  pub left : d ≼ # fb ⊕ # a
  pub right : d ≼ # b ⊕ # fa
  pub twice : d ⊕ d ≼ # b ⊕ # a

pub even_under : (fb b o a fa : ℤ) → Under (# (even_bound fb b o a fa)) fb b o a fa
unfolding even_bound
even_under fb b o a fa =
    omega (
      arith,
      min_left (min_ℤ o (fb +ℤ a)) (min_ℤ (b +ℤ fa) (half_ℤ (b +ℤ a))),
      min_right (min_ℤ o (fb +ℤ a)) (min_ℤ (b +ℤ fa) (half_ℤ (b +ℤ a))),
      min_left o (fb +ℤ a),
      min_right o (fb +ℤ a),
      min_left (b +ℤ fa) (half_ℤ (b +ℤ a)),
      min_right (b +ℤ fa) (half_ℤ (b +ℤ a)),
      halved (b +ℤ a),
      sum_parts fb a,
      sum_parts b fa,
      sum_parts b a,
    )

pub even_over : (d : Diff) (fb b o a fa : ℤ) → Under d fb b o a fa → d ≼ # (even_bound fb b o a fa)
unfolding even_bound
even_over d fb b o a fa u =
    min_ind (λ z. d ≼ # z) (min_ℤ o (fb +ℤ a)) (min_ℤ (b +ℤ fa) (half_ℤ (b +ℤ a)))
    (λ _. min_ind (λ z. d ≼ # z) o (fb +ℤ a) (λ _. u.own) (λ _. omega (arith, sum_parts fb a)))
    (λ _. min_ind (λ z. d ≼ # z) (b +ℤ fa) (half_ℤ (b +ℤ a)) (λ _. omega (arith, sum_parts b fa)) (λ _. omega (arith, sum_parts b a, halved (b +ℤ a))))

-- ---- an odd bound is the lesser of two

pub record Below (d : Diff) (b o a : ℤ) : Type 0 where
  pub own : d ≼ # o
  pub sum : d ≼ # b ⊕ # a

pub odd_under : (b o a : ℤ) → Below (# (odd_bound b o a)) b o a
unfolding odd_bound
odd_under b o a = omega (arith, min_left o (b +ℤ a), min_right o (b +ℤ a), sum_parts b a)

pub odd_over : (d : Diff) (b o a : ℤ) → Below d b o a → d ≼ # (odd_bound b o a)
unfolding odd_bound
odd_over d b o a u = min_ind (λ z. d ≼ # z) o (b +ℤ a) (λ _. u.own) (λ _. omega (arith, sum_parts b a))

-- ---- the two steps keep the cells

pub even_in : (c : Octagon) (x y : ℤ) → Within c x y → Within (tight_even c) x y
unfolding tight_even
even_in c x y i = record {
  i0 = even_over (neg (# y)) c.c6 c.c7 c.c0 c.c1 c.c2 (omega arith);
  i1 = i.i1;
  i2 = even_over (# x) c.c0 c.c1 c.c2 c.c3 c.c4 (omega arith);
  i3 = i.i3;
  i4 = even_over (# y) c.c2 c.c3 c.c4 c.c5 c.c6 (omega arith);
  i5 = i.i5;
  i6 = even_over (neg (# x)) c.c4 c.c5 c.c6 c.c7 c.c0 (omega arith);
  i7 = i.i7;
}

even_out : (c : Octagon) (x y : ℤ) → Within (tight_even c) x y → Within c x y
unfolding tight_even
even_out c x y i =
    omega (
      arith,
      even_under c.c6 c.c7 c.c0 c.c1 c.c2,
      even_under c.c0 c.c1 c.c2 c.c3 c.c4,
      even_under c.c2 c.c3 c.c4 c.c5 c.c6,
      even_under c.c4 c.c5 c.c6 c.c7 c.c0,
    )

odd_in : (c : Octagon) (x y : ℤ) → Within c x y → Within (tight_odd c) x y
unfolding tight_odd
odd_in c x y i =
    omega (
      arith,
      odd_over (# x ⊕ neg (# y)) c.c0 c.c1 c.c2 (omega arith),
      odd_over (# x ⊕ # y) c.c2 c.c3 c.c4 (omega arith),
      odd_over (neg (# x) ⊕ # y) c.c4 c.c5 c.c6 (omega arith),
      odd_over (neg (# x) ⊕ neg (# y)) c.c6 c.c7 c.c0 (omega arith),
    )

odd_out : (c : Octagon) (x y : ℤ) → Within (tight_odd c) x y → Within c x y
unfolding tight_odd
odd_out c x y i =
    omega (
      arith,
      odd_under c.c0 c.c1 c.c2,
      odd_under c.c2 c.c3 c.c4,
      odd_under c.c4 c.c5 c.c6,
      odd_under c.c6 c.c7 c.c0,
    )

pub form_in : (c : Octagon) (x y : ℤ) → Within c x y → Within (normal_form c) x y
unfolding normal_form
form_in c x y i = odd_in (tight_even c) x y (even_in c x y i)

pub form_out : (c : Octagon) (x y : ℤ) → Within (normal_form c) x y → Within c x y
unfolding normal_form
form_out c x y i = even_out c x y (odd_out (tight_even c) x y i)
