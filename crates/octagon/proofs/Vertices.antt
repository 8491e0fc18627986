-- Four vertices of an octagon whose sides are nought or more, which reach all eight bounds:
-- so bounds are normalised exactly where their sides are nought or more. Assumes nothing.
use mathlib.Core.Path.{◌≡◌}
use native.Mathlib.Omega.{arith}
use lib.IntN.{ℤ, neg_ℤ, ◌+ℤ◌, ◌-ℤ◌}
use Rattle.integers.proofs.Parts.{sum_parts, diff_parts, neg_up, neg_dn, eq_parts}
use Rattle.integers.proofs.Linear.{Diff, #, ◌⊕◌, neg, ◌≼◌, ◌≈◌, same}
use Rattle.octagon.specs.Octagon.{Octagon}
use Rattle.octagon.specs.Cells.{Some, In, Reached, Normalised}
use Rattle.octagon.proofs.Within.{Within, Normal, within, cell_in}

-- the vertex where the bounds 1 and 2 meet, and so on round the octagon
pub record Vertex (c : Octagon) (a b : Diff) : Type 0 where
  pub x : ℤ
  pub y : ℤ
  pub inside : Within c x y
  pub at_x : # x ≈ a
  pub at_y : # y ≈ b

pub vertex_12 : (c : Octagon) → Normal c → Vertex c (# c.c2) (# c.c2 ⊕ neg (# c.c1))
vertex_12 c n = let y = c.c2 -ℤ c.c1 in record { x = c.c2; y = y; inside = omega (arith, diff_parts c.c2 c.c1); at_x = omega arith; at_y = omega (arith, diff_parts c.c2 c.c1) }

pub vertex_34 : (c : Octagon) → Normal c → Vertex c (# c.c3 ⊕ neg (# c.c4)) (# c.c4)
vertex_34 c n = let x = c.c3 -ℤ c.c4 in record { x = x; y = c.c4; inside = omega (arith, diff_parts c.c3 c.c4); at_x = omega (arith, diff_parts c.c3 c.c4); at_y = omega arith }

pub vertex_56 : (c : Octagon) → Normal c → Vertex c (neg (# c.c6)) (# c.c5 ⊕ neg (# c.c6))
vertex_56 c n =
    record {
      x = neg_ℤ c.c6;
      y = c.c5 -ℤ c.c6;
      inside = omega (arith, diff_parts c.c5 c.c6, neg_up c.c6, neg_dn c.c6);
      at_x = omega (arith, neg_up c.c6, neg_dn c.c6);
      at_y = omega (arith, diff_parts c.c5 c.c6);
    }

pub vertex_70 : (c : Octagon) → Normal c → Vertex c (# c.c0 ⊕ neg (# c.c7)) (neg (# c.c0))
vertex_70 c n =
    record {
      x = c.c0 -ℤ c.c7;
      y = neg_ℤ c.c0;
      inside = omega (arith, diff_parts c.c0 c.c7, neg_up c.c0, neg_dn c.c0);
      at_x = omega (arith, diff_parts c.c0 c.c7);
      at_y = omega (arith, neg_up c.c0, neg_dn c.c0);
    }

-- ---- from sides to cells

pub normal_some : (c : Octagon) → Normal c → Some (In c)
normal_some c n = let v = vertex_70 c n in record { x = v.x; y = v.y; cell = cell_in v.inside }

-- a vertex as some cell of which more is said
at : {c : Octagon} {a b : Diff} {P : ℤ → ℤ → Type 0} (v : Vertex c a b) → P v.x v.y → Some (λ x y. In c x y × P x y)
at v p = record { x = v.x; y = v.y; cell = (cell_in v.inside, p) }

pub normal_reached : (c : Octagon) → Normal c → Reached c
normal_reached c n =
    let v1 = vertex_12 c n in
    let v3 = vertex_34 c n in
    let v5 = vertex_56 c n in
    let v7 = vertex_70 c n in
    record {
      reached0 = at v7 (same (# c.c0) (omega (arith, neg_up v7.y, neg_dn v7.y, v7.at_y)) (omega arith));
      reached1 = at v1 (same (# c.c1) (omega (arith, diff_parts v1.x v1.y, v1.at_x, v1.at_y)) (omega arith));
      reached2 = at v1 (same (# c.c2) v1.at_x (omega arith));
      reached3 = at v3 (same (# c.c3) (omega (arith, sum_parts v3.x v3.y, v3.at_x, v3.at_y)) (omega arith));
      reached4 = at v3 (same (# c.c4) v3.at_y (omega arith));
      reached5 = at v5 (same (# c.c5) (omega (arith, sum_parts (neg_ℤ v5.x) v5.y, neg_up v5.x, neg_dn v5.x, v5.at_x, v5.at_y)) (omega arith));
      reached6 = at v5 (same (# c.c6) (omega (arith, neg_up v5.x, neg_dn v5.x, v5.at_x)) (omega arith));
      reached7 = at v7 (same (# c.c7) (omega (arith, diff_parts (neg_ℤ v7.x) v7.y, neg_up v7.x, neg_dn v7.x, v7.at_x, v7.at_y)) (omega arith));
    }

pub normal_normalised : (c : Octagon) → Normal c → Normalised c
normal_normalised c n = record { some = normal_some c n; reached = normal_reached c n }

-- ---- from cells to sides

-- a cell that meets a bound, which is the sum of two others at that cell
meets0 : (c : Octagon) → Some (λ x y. In c x y × (neg_ℤ y ≡ c.c0)) → # c.c0 ⊕ # c.c0 ≼ # c.c7 ⊕ # c.c1
meets0 c r = let i = within r.cell.0 in omega (arith, eq_parts r.cell.1, neg_up r.y, neg_dn r.y)

meets1 : (c : Octagon) → Some (λ x y. In c x y × (x -ℤ y ≡ c.c1)) → # c.c1 ≼ # c.c0 ⊕ # c.c2
meets1 c r = let i = within r.cell.0 in omega (arith, eq_parts r.cell.1, diff_parts r.x r.y)

meets2 : (c : Octagon) → Some (λ x y. In c x y × (x ≡ c.c2)) → # c.c2 ⊕ # c.c2 ≼ # c.c1 ⊕ # c.c3
meets2 c r = let i = within r.cell.0 in omega (arith, eq_parts r.cell.1)

meets3 : (c : Octagon) → Some (λ x y. In c x y × (x +ℤ y ≡ c.c3)) → # c.c3 ≼ # c.c2 ⊕ # c.c4
meets3 c r = let i = within r.cell.0 in omega (arith, eq_parts r.cell.1, sum_parts r.x r.y)

meets4 : (c : Octagon) → Some (λ x y. In c x y × (y ≡ c.c4)) → # c.c4 ⊕ # c.c4 ≼ # c.c3 ⊕ # c.c5
meets4 c r = let i = within r.cell.0 in omega (arith, eq_parts r.cell.1)

meets5 : (c : Octagon) → Some (λ x y. In c x y × (neg_ℤ x +ℤ y ≡ c.c5)) → # c.c5 ≼ # c.c4 ⊕ # c.c6
meets5 c r = let i = within r.cell.0 in omega (arith, eq_parts r.cell.1, sum_parts (neg_ℤ r.x) r.y, neg_up r.x, neg_dn r.x)

meets6 : (c : Octagon) → Some (λ x y. In c x y × (neg_ℤ x ≡ c.c6)) → # c.c6 ⊕ # c.c6 ≼ # c.c5 ⊕ # c.c7
meets6 c r = let i = within r.cell.0 in omega (arith, eq_parts r.cell.1, neg_up r.x, neg_dn r.x)

meets7 : (c : Octagon) → Some (λ x y. In c x y × (neg_ℤ x -ℤ y ≡ c.c7)) → # c.c7 ≼ # c.c6 ⊕ # c.c0
meets7 c r = let i = within r.cell.0 in omega (arith, eq_parts r.cell.1, diff_parts (neg_ℤ r.x) r.y, neg_up r.x, neg_dn r.x)

pub reached_normal : (c : Octagon) → Reached c → Normal c
reached_normal c r = record {
  s0 = meets0 c r.reached0;
  s1 = meets1 c r.reached1;
  s2 = meets2 c r.reached2;
  s3 = meets3 c r.reached3;
  s4 = meets4 c r.reached4;
  s5 = meets5 c r.reached5;
  s6 = meets6 c r.reached6;
  s7 = meets7 c r.reached7;
}
