-- Where the opposite bounds of a normal form meet, its sides are nought or more: `form_normal`. Assumes nothing.
use mathlib.Core.Path.{refl}
use native.Mathlib.Omega.{arith}
use lib.IntN.{ℤ}
use Rattle.integers.proofs.Linear.{Diff, #, ◌⊕◌, neg, lit, ◌≼◌, ◌≈◌}
use Rattle.octagon.specs.Octagon.{Octagon}
use Rattle.octagon.specs.NormalForm.{odd_bound, tight_even, tight_odd, normal_form}
use Rattle.octagon.proofs.Within.{Normal}
use Rattle.octagon.proofs.Tight.{Under, Below, even_under, even_over, odd_under, odd_over}

-- the even bounds e of bounds c, each the greatest under its limits
record Evens (c e : Octagon) : Type 0 where
  u0 : Under (# e.c0) c.c6 c.c7 c.c0 c.c1 c.c2
  u2 : Under (# e.c2) c.c0 c.c1 c.c2 c.c3 c.c4
  u4 : Under (# e.c4) c.c2 c.c3 c.c4 c.c5 c.c6
  u6 : Under (# e.c6) c.c4 c.c5 c.c6 c.c7 c.c0
  o1 : # e.c1 ≈ # c.c1
  o3 : # e.c3 ≈ # c.c3
  o5 : # e.c5 ≈ # c.c5
  o7 : # e.c7 ≈ # c.c7

evens : (c : Octagon) → Evens c (tight_even c)
unfolding tight_even
evens c = record {
  u0 = even_under c.c6 c.c7 c.c0 c.c1 c.c2;
  u2 = even_under c.c0 c.c1 c.c2 c.c3 c.c4;
  u4 = even_under c.c2 c.c3 c.c4 c.c5 c.c6;
  u6 = even_under c.c4 c.c5 c.c6 c.c7 c.c0;
  o1 = refl;
  o3 = refl;
  o5 = refl;
  o7 = refl;
}

-- each pair of opposite bounds leaves a line between them
pub record Meeting (n : Octagon) : Type 0 where
  pub m0 : lit 0 ≼ # n.c0 ⊕ # n.c4
  pub m1 : lit 0 ≼ # n.c1 ⊕ # n.c5
  pub m2 : lit 0 ≼ # n.c2 ⊕ # n.c6
  pub m3 : lit 0 ≼ # n.c3 ⊕ # n.c7

-- each even bound is at most a neighbour with the even bound beyond it
record Slants (c e : Octagon) : Type 0 where
  a0 : # e.c0 ≼ # c.c7 ⊕ # e.c2
  b0 : # e.c0 ≼ # c.c1 ⊕ # e.c6
  a2 : # e.c2 ≼ # c.c1 ⊕ # e.c4
  b2 : # e.c2 ≼ # c.c3 ⊕ # e.c0
  a4 : # e.c4 ≼ # c.c3 ⊕ # e.c6
  b4 : # e.c4 ≼ # c.c5 ⊕ # e.c2
  a6 : # e.c6 ≼ # c.c5 ⊕ # e.c0
  b6 : # e.c6 ≼ # c.c7 ⊕ # e.c4

module _ (c : Octagon) (k : Meeting (tight_even c)) where
  abbrev e : Octagon
  e = tight_even c

  over0 : (d : Diff) → Under d c.c6 c.c7 c.c0 c.c1 c.c2 → d ≼ # e.c0
  unfolding tight_even
  over0 d = even_over d c.c6 c.c7 c.c0 c.c1 c.c2

  over2 : (d : Diff) → Under d c.c0 c.c1 c.c2 c.c3 c.c4 → d ≼ # e.c2
  unfolding tight_even
  over2 d = even_over d c.c0 c.c1 c.c2 c.c3 c.c4

  over4 : (d : Diff) → Under d c.c2 c.c3 c.c4 c.c5 c.c6 → d ≼ # e.c4
  unfolding tight_even
  over4 d = even_over d c.c2 c.c3 c.c4 c.c5 c.c6

  over6 : (d : Diff) → Under d c.c4 c.c5 c.c6 c.c7 c.c0 → d ≼ # e.c6
  unfolding tight_even
  over6 d = even_over d c.c4 c.c5 c.c6 c.c7 c.c0

  slants : Slants c e
  slants =
      let u : Evens c e = evens c in
      let a0 : # e.c0 ⊕ neg (# c.c7) ≼ # e.c2 = over2 (# e.c0 ⊕ neg (# c.c7)) (omega arith) in
      let b0 : # e.c0 ⊕ neg (# c.c1) ≼ # e.c6 = over6 (# e.c0 ⊕ neg (# c.c1)) (omega arith) in
      let a2 : # e.c2 ⊕ neg (# c.c1) ≼ # e.c4 = over4 (# e.c2 ⊕ neg (# c.c1)) (omega arith) in
      let b2 : # e.c2 ⊕ neg (# c.c3) ≼ # e.c0 = over0 (# e.c2 ⊕ neg (# c.c3)) (omega arith) in
      let a4 : # e.c4 ⊕ neg (# c.c3) ≼ # e.c6 = over6 (# e.c4 ⊕ neg (# c.c3)) (omega arith) in
      let b4 : # e.c4 ⊕ neg (# c.c5) ≼ # e.c2 = over2 (# e.c4 ⊕ neg (# c.c5)) (omega arith) in
      let a6 : # e.c6 ⊕ neg (# c.c5) ≼ # e.c0 = over0 (# e.c6 ⊕ neg (# c.c5)) (omega arith) in
      let b6 : # e.c6 ⊕ neg (# c.c7) ≼ # e.c4 = over4 (# e.c6 ⊕ neg (# c.c7)) (omega arith) in
      omega arith

-- an even side between two odd bounds, each the lesser of two
even_side : (f b e a s : ℤ) →
    # e ⊕ # e ≼ # b ⊕ # a → # e ≼ # b ⊕ # s → # e ≼ # a ⊕ # f → lit 0 ≼ # f ⊕ # s →
    # e ⊕ # e ≼ # (odd_bound f b e) ⊕ # (odd_bound e a s)
even_side f b e a s p q r t =
    let l : # e ⊕ # e ⊕ neg (# a) ≼ # (odd_bound f b e) = odd_over (# e ⊕ # e ⊕ neg (# a)) f b e (omega arith) in
    let m : # e ⊕ neg (# s) ≼ # (odd_bound f b e) = odd_over (# e ⊕ neg (# s)) f b e (omega arith) in
    let h : # e ⊕ # e ⊕ neg (# (odd_bound f b e)) ≼ # (odd_bound e a s) = odd_over (# e ⊕ # e ⊕ neg (# (odd_bound f b e))) e a s (omega arith) in
    omega arith

-- the step over the odd bounds makes each at most what it was, and at most the sum of its neighbours
record Lowered (e n : Octagon) : Type 0 where
  l1 : Below (# n.c1) e.c0 e.c1 e.c2
  l3 : Below (# n.c3) e.c2 e.c3 e.c4
  l5 : Below (# n.c5) e.c4 e.c5 e.c6
  l7 : Below (# n.c7) e.c6 e.c7 e.c0

lowered : (e : Octagon) → Lowered e (tight_odd e)
unfolding tight_odd
lowered e =
    omega (
      arith,
      odd_under e.c0 e.c1 e.c2,
      odd_under e.c2 e.c3 e.c4,
      odd_under e.c4 e.c5 e.c6,
      odd_under e.c6 e.c7 e.c0,
    )

-- so it only brings opposite bounds nearer
slackened : (e : Octagon) → Meeting (tight_odd e) → Meeting e
unfolding tight_odd
slackened e m = let l : Lowered e (tight_odd e) = lowered e in omega arith

-- the odd sides after the step over the odd bounds are nought or more
pub record Odds (n : Octagon) : Type 0 where
  pub o1 : # n.c1 ≼ # n.c0 ⊕ # n.c2
  pub o3 : # n.c3 ≼ # n.c2 ⊕ # n.c4
  pub o5 : # n.c5 ≼ # n.c4 ⊕ # n.c6
  pub o7 : # n.c7 ≼ # n.c6 ⊕ # n.c0

pub odds : (e : Octagon) → Odds (tight_odd e)
unfolding tight_odd
odds e = let l : Lowered e (tight_odd e) = lowered e in omega arith

pub form_normal : (c : Octagon) → Meeting (normal_form c) → Normal (normal_form c)
unfolding normal_form tight_odd
form_normal c m = go (slackened (tight_even c) m)
  where
    e : Octagon
    e = tight_even c

    go : Meeting e → Normal (normal_form c)
    go k =
        let u : Evens c e = evens c in
        let s : Slants c e = slants c k in
        let o = odds e in
        record {
          s0 = even_side e.c6 e.c7 e.c0 e.c1 e.c2 (omega arith) (omega arith) (omega arith) (omega arith);
          s1 = o.o1;
          s2 = even_side e.c0 e.c1 e.c2 e.c3 e.c4 (omega arith) (omega arith) (omega arith) (omega arith);
          s3 = o.o3;
          s4 = even_side e.c2 e.c3 e.c4 e.c5 e.c6 (omega arith) (omega arith) (omega arith) (omega arith);
          s5 = o.o5;
          s6 = even_side e.c4 e.c5 e.c6 e.c7 e.c0 (omega arith) (omega arith) (omega arith) (omega arith);
          s7 = o.o7;
        }
