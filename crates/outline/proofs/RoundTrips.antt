-- "Normalised bounds and a boundary code turn into each other without loss." Assumes nothing.
use mathlib.Core.Path.{◌≡◌, sym, ◌∙◌, ap}
use mathlib.Core.Logic.{◌↔◌}
use Prim.Native.Nat.{ℕ}
use native.Mathlib.Omega.{arith}
use lib.IntN.{ℤ, nat_abs}
use Rattle.integers.proofs.Parts.{diff_parts, neg_up, neg_dn, parts_eq}
use Rattle.integers.proofs.Linear.{#, ◌⊕◌, neg, lit, ◌≼◌, ◌≈◌, natural}
use Rattle.octagon.specs.Octagon.{Octagon}
use Rattle.octagon.specs.Outcome.{Outcome, accepted, refused}
use Rattle.octagon.specs.NormalForm.{sides, even_side, odd_side, placed, normalised}
use Rattle.octagon.proofs.Outcomes.{accepted_same, accepted_not_refused, map_accepted, map_refused}
use Rattle.octagon.proofs.Within.{Normal, Near}
use Rattle.octagon.proofs.Map.{near_test}
use Rattle.octagon.proofs.Sides.{even_is, odd_is}
use Rattle.octagon.proofs.Unique.{equal}
use Rattle.octagon.proofs.NormalForms.{accepted_normal, accepted_near, normal_answer}
use Rattle.outline.specs.declared.Outline.{Outline}
use Rattle.outline.specs.Closing.{Closes}
use Rattle.outline.specs.Tracing.{drawn, traced}
use Rattle.outline.specs.Outlining.{outline_of, outlined}
use Rattle.outline.proofs.Closed.{closes_test}
use Rattle.outline.proofs.Drawn.{Drawn, closed_drawn, closed_normal}
use Rattle.outline.proofs.Sameness.{equal_outlines}
use Rattle.outline.proofs.TracingCases.{Tracing, is_octagon, is_open, is_off, tracing}

-- ---- the outline of normalised bounds, as linear facts

record SidesOf (a : Octagon) (o : Outline) : Type 0 where
  e_i : # o.i ≈ # a.c0 ⊕ neg (# a.c7)
  e_j : # o.j ≈ neg (# a.c0)
  e0 : lit o.n0 ≈ # a.c7 ⊕ # a.c1 ⊕ neg (# a.c0 ⊕ # a.c0)
  e1 : lit o.n1 ≈ # a.c0 ⊕ # a.c2 ⊕ neg (# a.c1)
  e2 : lit o.n2 ≈ # a.c1 ⊕ # a.c3 ⊕ neg (# a.c2 ⊕ # a.c2)
  e3 : lit o.n3 ≈ # a.c2 ⊕ # a.c4 ⊕ neg (# a.c3)
  e4 : lit o.n4 ≈ # a.c3 ⊕ # a.c5 ⊕ neg (# a.c4 ⊕ # a.c4)
  e5 : lit o.n5 ≈ # a.c4 ⊕ # a.c6 ⊕ neg (# a.c5)
  e6 : lit o.n6 ≈ # a.c5 ⊕ # a.c7 ⊕ neg (# a.c6 ⊕ # a.c6)
  e7 : lit o.n7 ≈ # a.c6 ⊕ # a.c0 ⊕ neg (# a.c7)

even : (b o a : ℤ) → # o ⊕ # o ≼ # b ⊕ # a → lit (nat_abs (even_side b o a)) ≈ # b ⊕ # a ⊕ neg (# o ⊕ # o)
even b o a h = omega (arith, even_is b o a, natural (even_side b o a) (omega (arith, even_is b o a)))

odd : (b o a : ℤ) → # o ≼ # b ⊕ # a → lit (nat_abs (odd_side b o a)) ≈ # b ⊕ # a ⊕ neg (# o)
odd b o a h = omega (arith, odd_is b o a, natural (odd_side b o a) (omega (arith, odd_is b o a)))

outline_facts : (a : Octagon) → Normal a → SidesOf a (outline_of a)
unfolding outline_of sides
outline_facts a n = record {
  e_i = omega (arith, diff_parts a.c0 a.c7);
  e_j = omega (arith, neg_up a.c0, neg_dn a.c0);
  e0 = even a.c7 a.c0 a.c1 n.s0;
  e1 = odd a.c0 a.c1 a.c2 n.s1;
  e2 = even a.c1 a.c2 a.c3 n.s2;
  e3 = odd a.c2 a.c3 a.c4 n.s3;
  e4 = even a.c3 a.c4 a.c5 n.s4;
  e5 = odd a.c4 a.c5 a.c6 n.s5;
  e6 = even a.c5 a.c6 a.c7 n.s6;
  e7 = odd a.c6 a.c7 a.c0 n.s7;
}

-- ---- from an outline to its octagon and back

its_outline : (a : Octagon) (o p : Outline) → Closes o → Drawn o a → SidesOf a p → p ≡ o
its_outline a o p k d f = equal_outlines (parts_eq p.i o.i (omega arith)) (parts_eq p.j o.j (omega arith)) (omega arith)

there : (o : Outline) → Closes o → outline_of (drawn o) ≡ o
there o k = its_outline (drawn o) o (outline_of (drawn o)) k (closed_drawn o k) (outline_facts (drawn o) (closed_normal o k))

outlined_when : (a : Octagon) → Normal a → Near a → outlined a ≡ accepted (outline_of a)
unfolding outlined
outlined_when a n m = rw (normal_answer a n m)

-- every outline with an octagon is that octagon's outline
pub octagon_outline : (o : Outline) (a : Octagon) → traced o ≡ accepted a → outlined a ≡ accepted o
octagon_outline o a = go (tracing o)
  where
    go : {t : Outcome Octagon} → Tracing o t → t ≡ accepted a → outlined a ≡ accepted o
    go (is_octagon b e k n m) q =
        rw (← accepted_same q) (outlined_when b n m ∙ ap accepted (rw e (there o k)))
    go (is_open h) q = absurd (accepted_not_refused (sym q))
    go (is_off k h) q = absurd (accepted_not_refused (sym q))

-- ---- from an octagon to its outline and back

closed : (a : Octagon) (o : Outline) → SidesOf a o → Closes o
closed a o f = omega arith

same_octagon : (a d : Octagon) (o : Outline) → SidesOf a o → Drawn o d → d ≡ a
same_octagon a d o f w =
    equal
    (parts_eq d.c0 a.c0 (omega arith))
    (parts_eq d.c1 a.c1 (omega arith))
    (parts_eq d.c2 a.c2 (omega arith))
    (parts_eq d.c3 a.c3 (omega arith))
    (parts_eq d.c4 a.c4 (omega arith))
    (parts_eq d.c5 a.c5 (omega arith))
    (parts_eq d.c6 a.c6 (omega arith))
    (parts_eq d.c7 a.c7 (omega arith))

back : (a : Octagon) (o : Outline) → SidesOf a o → drawn o ≡ a
back a o f = same_octagon a (drawn o) o f (closed_drawn o (closed a o f))

traced_when : (o : Outline) (a : Octagon) → Closes o → drawn o ≡ a → Near a → traced o ≡ accepted a
unfolding traced placed
traced_when o a k e m = rw (closes_test o k, e, near_test a m)

traced_back : (a : Octagon) → Normal a → Near a → traced (outline_of a) ≡ accepted a
traced_back a n m = let f = outline_facts a n in traced_when (outline_of a) a (closed a (outline_of a) f) (back a (outline_of a) f) m

-- the outline of any bounds has their normal form as its octagon
pub outline_octagon : (c : Octagon) (o : Outline) → outlined c ≡ accepted o → (a : Octagon) × (normalised c ≡ accepted a) × (traced o ≡ accepted a)
unfolding outlined
outline_octagon c o q =
    let m = map_accepted (normalised c) outline_of o q in
    let a = m.0 in
    (a, m.1, ap traced (sym m.2) ∙ traced_back a (accepted_normal c a m.1) (accepted_near c a m.1))

-- "The way back takes eight bounds and has Normalise's refusals."
pub outlined_refusals : (c : Octagon) (k : ℕ) → (outlined c ≡ refused k) ↔ (normalised c ≡ refused k)
unfolding outlined
outlined_refusals c k = map_refused (normalised c) outline_of k
