-- The vertices and bounds of an outline as linear facts. Where it closes its bounds are normalised, and on the map they fit 32 bits.
-- Assumes nothing.
use mathlib.Core.Path.{◌≡◌}
use mathlib.Core.Bool.{true}
use Prim.Native.Nat.{◌+◌}
use native.Mathlib.Omega.{arith}
use lib.IntN.{neg_ℤ}
use mir.Syntax.{w32}
use Rattle.integers.proofs.Parts.{sum_parts, diff_parts, neg_up, neg_dn}
use Rattle.integers.proofs.Linear.{#, ◌⊕◌, neg, lit, ◌≈◌}
use Rattle.octagon.specs.Octagon.{Octagon}
use Rattle.octagon.specs.NormalForm.{is_on_map}
use Rattle.octagon.specs.Widths.{Held}
use Rattle.octagon.proofs.Within.{Normal}
use Rattle.octagon.proofs.Map.{test_near, near_held}
use Rattle.outline.specs.declared.Outline.{Outline}
use Rattle.outline.specs.declared.walk.Cell.{Cell}
use Rattle.outline.specs.Closing.{Closes, closes}
use Rattle.outline.specs.Walk.{vertex}
use Rattle.outline.specs.Tracing.{bounds_at, drawn}
use Rattle.outline.proofs.Steps.{forth, still, back}
use Rattle.outline.proofs.Closed.{test_closes}

-- each vertex from the one before it
pub record Walked (o : Outline) : Type 0 where
  pub x0 : # (vertex o 0).x ≈ # o.i
  pub y0 : # (vertex o 0).y ≈ # o.j
  pub x1 : # (vertex o 1).x ≈ # (vertex o 0).x ⊕ lit o.n0
  pub y1 : # (vertex o 1).y ≈ # (vertex o 0).y
  pub x2 : # (vertex o 2).x ≈ # (vertex o 1).x ⊕ lit o.n1
  pub y2 : # (vertex o 2).y ≈ # (vertex o 1).y ⊕ lit o.n1
  pub x3 : # (vertex o 3).x ≈ # (vertex o 2).x
  pub y3 : # (vertex o 3).y ≈ # (vertex o 2).y ⊕ lit o.n2
  pub x4 : # (vertex o 4).x ≈ # (vertex o 3).x ⊕ neg (lit o.n3)
  pub y4 : # (vertex o 4).y ≈ # (vertex o 3).y ⊕ lit o.n3
  pub x5 : # (vertex o 5).x ≈ # (vertex o 4).x ⊕ neg (lit o.n4)
  pub y5 : # (vertex o 5).y ≈ # (vertex o 4).y
  pub x6 : # (vertex o 6).x ≈ # (vertex o 5).x ⊕ neg (lit o.n5)
  pub y6 : # (vertex o 6).y ≈ # (vertex o 5).y ⊕ neg (lit o.n5)
  pub x7 : # (vertex o 7).x ≈ # (vertex o 6).x
  pub y7 : # (vertex o 7).y ≈ # (vertex o 6).y ⊕ neg (lit o.n6)
  pub x8 : # (vertex o 8).x ≈ # (vertex o 7).x ⊕ lit o.n7
  pub y8 : # (vertex o 8).y ≈ # (vertex o 7).y ⊕ neg (lit o.n7)

pub walked : (o : Outline) → Walked o
unfolding vertex
walked o = record {
  x0 = omega arith;
  y0 = omega arith;
  x1 = forth (vertex o 0).x o.n0;
  y1 = still (vertex o 0).y o.n0;
  x2 = forth (vertex o 1).x o.n1;
  y2 = forth (vertex o 1).y o.n1;
  x3 = still (vertex o 2).x o.n2;
  y3 = forth (vertex o 2).y o.n2;
  x4 = back (vertex o 3).x o.n3;
  y4 = forth (vertex o 3).y o.n3;
  x5 = back (vertex o 4).x o.n4;
  y5 = still (vertex o 4).y o.n4;
  x6 = back (vertex o 5).x o.n5;
  y6 = back (vertex o 5).y o.n5;
  x7 = still (vertex o 6).x o.n6;
  y7 = back (vertex o 6).y o.n6;
  x8 = forth (vertex o 7).x o.n7;
  y8 = back (vertex o 7).y o.n7;
}

-- the bounds that four vertices reach
pub record Reached (c : Octagon) (v1 v3 v5 v7 : Cell) : Type 0 where
  pub d0 : # c.c0 ≈ neg (# v1.y)
  pub d1 : # c.c1 ≈ # v1.x ⊕ neg (# v1.y)
  pub d2 : # c.c2 ≈ # v3.x
  pub d3 : # c.c3 ≈ # v3.x ⊕ # v3.y
  pub d4 : # c.c4 ≈ # v5.y
  pub d5 : # c.c5 ≈ # v5.y ⊕ neg (# v5.x)
  pub d6 : # c.c6 ≈ neg (# v7.x)
  pub d7 : # c.c7 ≈ neg (# v7.x) ⊕ neg (# v7.y)

bounds_reached : (v1 v3 v5 v7 : Cell) → Reached (bounds_at v1 v3 v5 v7) v1 v3 v5 v7
unfolding bounds_at
bounds_reached v1 v3 v5 v7 = record {
  d0 = omega (arith, neg_up v1.y, neg_dn v1.y);
  d1 = omega (arith, diff_parts v1.x v1.y);
  d2 = omega arith;
  d3 = sum_parts v3.x v3.y;
  d4 = omega arith;
  d5 = omega (arith, diff_parts v5.y v5.x);
  d6 = omega (arith, neg_up v7.x, neg_dn v7.x);
  d7 = omega (arith, diff_parts (neg_ℤ v7.x) v7.y, neg_up v7.x, neg_dn v7.x);
}

pub reached : (o : Outline) → Reached (drawn o) (vertex o 1) (vertex o 3) (vertex o 5) (vertex o 7)
unfolding drawn
reached o = bounds_reached (vertex o 1) (vertex o 3) (vertex o 5) (vertex o 7)

-- the bounds of an outline that closes, from its start and its lengths
pub record Drawn (o : Outline) (c : Octagon) : Type 0 where
  pub b0 : # c.c0 ≈ neg (# o.j)
  pub b1 : # c.c1 ≈ # o.i ⊕ neg (# o.j) ⊕ lit o.n0
  pub b2 : # c.c2 ≈ # o.i ⊕ lit (o.n0 + o.n1)
  pub b3 : # c.c3 ≈ # o.i ⊕ # o.j ⊕ lit (o.n0 + o.n1 + o.n1 + o.n2)
  pub b4 : # c.c4 ≈ # o.j ⊕ lit (o.n1 + o.n2 + o.n3)
  pub b5 : # c.c5 ≈ # o.j ⊕ neg (# o.i) ⊕ lit (o.n6 + o.n7 + o.n7)
  pub b6 : # c.c6 ≈ neg (# o.i) ⊕ lit o.n7
  pub b7 : # c.c7 ≈ neg (# o.i) ⊕ neg (# o.j)

pub closed_drawn : (o : Outline) → Closes o → Drawn o (drawn o)
closed_drawn o k = let w = walked o in let r = reached o in omega arith

-- so they are normalised
pub closed_normal : (o : Outline) → Closes o → Normal (drawn o)
closed_normal o k = let d = closed_drawn o k in omega arith

-- and on the map they fit 32 bits
pub closed_held : (o : Outline) → closes o ≡ true → is_on_map (drawn o) ≡ true → Held w32 (drawn o)
closed_held o k m = near_held (drawn o) (closed_normal o (test_closes o k)) (test_near (drawn o) m)
