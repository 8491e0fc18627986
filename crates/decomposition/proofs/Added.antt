-- The sum of an outline and one from (0, 0): its sides are the sums of theirs, and so are its bounds (equation (2) of source document 000).
-- Assumes nothing.
use mathlib.Core.Path.{◌≡◌}
use mathlib.Core.List.{List, [], ◌∷◌}
use Prim.Native.Nat.{ℕ, suc, ◌+◌, ◌*◌}
use native.Mathlib.Nat.{suc-mul}
use native.Mathlib.Omega.{arith}
use Rattle.integers.proofs.Parts.{parts_eq}
use Rattle.integers.proofs.Linear.{#, lit, ◌≈◌}
use Rattle.octagon.specs.Octagon.{Octagon}
use Rattle.octagon.proofs.Unique.{equal}
use Rattle.outline.specs.declared.Outline.{Outline}
use Rattle.outline.specs.Closing.{Closes}
use Rattle.outline.specs.Tracing.{drawn}
use Rattle.outline.specs.Sameness.{SameSides}
use Rattle.outline.proofs.Drawn.{Drawn, closed_drawn}
use Rattle.morphology.specs.Operations.{sums}
use Rattle.morphology.proofs.Sums.{Summed, summed}

-- an outline from (0, 0) that closes
pub record AtOrigin (p : Outline) : Type 0 where
  pub closed : Closes p
  pub at_i : # p.i ≈ lit 0
  pub at_j : # p.j ≈ lit 0

-- t has the start of o, and the sides of o and p together
pub record Added (o p t : Outline) : Type 0 where
  pub at_i : # t.i ≈ # o.i
  pub at_j : # t.j ≈ # o.j
  pub a0 : t.n0 ≡ o.n0 + p.n0
  pub a1 : t.n1 ≡ o.n1 + p.n1
  pub a2 : t.n2 ≡ o.n2 + p.n2
  pub a3 : t.n3 ≡ o.n3 + p.n3
  pub a4 : t.n4 ≡ o.n4 + p.n4
  pub a5 : t.n5 ≡ o.n5 + p.n5
  pub a6 : t.n6 ≡ o.n6 + p.n6
  pub a7 : t.n7 ≡ o.n7 + p.n7

pub added_closes : (o p t : Outline) → Closes o → Closes p → Added o p t → Closes t
added_closes o p t c d q = omega arith

-- ---- the bounds

added_drawn : (o p t : Outline) (a b s : Octagon) → AtOrigin p → Added o p t → Drawn o a → Drawn p b → Summed a b s → Drawn t s
added_drawn o p t a b s z q d e h = record {
  b0 = omega (arith, h.s0, d.b0, e.b0, q.at_j, z.at_j);
  b1 = omega (arith, h.s1, d.b1, e.b1, q.at_i, q.at_j, z.at_i, z.at_j, q.a0);
  b2 = omega (arith, h.s2, d.b2, e.b2, q.at_i, z.at_i, q.a0, q.a1);
  b3 = omega (arith, h.s3, d.b3, e.b3, q.at_i, q.at_j, z.at_i, z.at_j, q.a0, q.a1, q.a2);
  b4 = omega (arith, h.s4, d.b4, e.b4, q.at_j, z.at_j, q.a1, q.a2, q.a3);
  b5 = omega (arith, h.s5, d.b5, e.b5, q.at_i, q.at_j, z.at_i, z.at_j, q.a6, q.a7);
  b6 = omega (arith, h.s6, d.b6, e.b6, q.at_i, z.at_i, q.a7);
  b7 = omega (arith, h.s7, d.b7, e.b7, q.at_i, q.at_j, z.at_i, z.at_j);
}

-- an outline has one octagon
same_drawn : (t : Outline) (s c : Octagon) → Drawn t s → Drawn t c → s ≡ c
same_drawn t s c d e =
    equal
    (parts_eq s.c0 c.c0 (omega arith))
    (parts_eq s.c1 c.c1 (omega arith))
    (parts_eq s.c2 c.c2 (omega arith))
    (parts_eq s.c3 c.c3 (omega arith))
    (parts_eq s.c4 c.c4 (omega arith))
    (parts_eq s.c5 c.c5 (omega arith))
    (parts_eq s.c6 c.c6 (omega arith))
    (parts_eq s.c7 c.c7 (omega arith))

pub added_sums : (o p t : Outline) → Closes o → AtOrigin p → Added o p t → sums (drawn o) (drawn p) ≡ drawn t
added_sums o p t c z q =
    let a = drawn o in
    let b = drawn p in
    same_drawn t (sums a b) (drawn t) (added_drawn o p t a b (sums a b) z q (closed_drawn o c) (closed_drawn p z.closed) (summed a b))
    (closed_drawn t (added_closes o p t c z.closed q))

-- ---- k times

-- o with k times the sides of p
abbrev pub plus : ℕ → Outline → Outline → Outline
plus k p o = record {
  i = o.i;
  j = o.j;
  n0 = o.n0 + k * p.n0;
  n1 = o.n1 + k * p.n1;
  n2 = o.n2 + k * p.n2;
  n3 = o.n3 + k * p.n3;
  n4 = o.n4 + k * p.n4;
  n5 = o.n5 + k * p.n5;
  n6 = o.n6 + k * p.n6;
  n7 = o.n7 + k * p.n7;
}

pub plus_none : (o p : Outline) → SameSides (plus 0 p o) o
plus_none o p = omega arith

pub plus_one : (o p : Outline) → Added o p (plus 1 p o)
plus_one o p = omega arith

pub plus_more : (k : ℕ) (o p : Outline) → Added (plus k p o) p (plus (suc k) p o)
plus_more k o p =
    omega (
      arith,
      suc-mul k p.n0,
      suc-mul k p.n1,
      suc-mul k p.n2,
      suc-mul k p.n3,
      suc-mul k p.n4,
      suc-mul k p.n5,
      suc-mul k p.n6,
      suc-mul k p.n7,
    )

-- o with the sides of each of some outlines as often as it is counted
abbrev pub plus_each : List ℕ → List Outline → Outline → Outline
plus_each [] ps o = o
plus_each (k ∷ ks) [] o = o
plus_each (k ∷ ks) (p ∷ ps) o = plus_each ks ps (plus k p o)
