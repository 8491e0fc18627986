-- The sums of opposed diagonal rows have holes: no octagon has them as its cells. Assumes nothing.
use mathlib.Core.Path.{refl}
use mathlib.Core.Logic.{inl, inr}
use native.Mathlib.Omega.{arith}
use lib.IntN.{ℤ, pos, negsuc, ◌+ℤ◌}
use Rattle.integers.proofs.Parts.{up, dn, sum_parts, eq_parts}
use Rattle.integers.proofs.Linear.{Diff, #, ◌⊕◌, neg, lit, ◌≈◌}
use Rattle.octagon.specs.Octagon.{Octagon}
use Rattle.octagon.specs.Cells.{◌≐◌, In}
use Rattle.octagon.proofs.Within.{Within, Normal, within, cell_in}
use Rattle.octagon.proofs.Vertices.{Vertex, vertex_12, vertex_34, vertex_56, vertex_70}
use Rattle.morphology.specs.Sets.{Dilated, OpposedRows}
use Rattle.morphology.proofs.RowTests.{Line}
use Rattle.morphology.proofs.DiagonalRows.{cells_rising, cells_falling}
use Rattle.morphology.proofs.SetLaws.{same_trans, dilated_comm}

-- four cells round one, as the corners of a square stood on its point
around : (s : Octagon) (x y : ℤ) (x₁ y₁ x₂ y₂ x₃ y₃ x₄ y₄ : ℤ) →
    # x₁ ≈ # x ⊕ neg (lit 1) → # y₁ ≈ # y → # x₂ ≈ # x → # y₂ ≈ # y ⊕ lit 1 →
    # x₃ ≈ # x → # y₃ ≈ # y ⊕ neg (lit 1) → # x₄ ≈ # x ⊕ lit 1 → # y₄ ≈ # y →
    Within s x₁ y₁ → Within s x₂ y₂ → Within s x₃ y₃ → Within s x₄ y₄ → Within s x y
around s x y x₁ y₁ x₂ y₂ x₃ y₃ x₄ y₄ e1 f1 e2 f2 e3 f3 e4 f4 i1 i2 i3 i4 = omega arith

-- two neighbours of a row, in columns side by side and d rows apart
record Neighbours (a : Octagon) (d : ℤ) : Type 0 where
  x : ℤ
  y : ℤ
  first : Within a x y
  next : Within a (x +ℤ pos 1) (y +ℤ d)

beside : {a : Octagon} {p q : Diff} {d : ℤ} (v : Vertex a p q) → Within a (v.x +ℤ pos 1) (v.y +ℤ d) → Neighbours a d
beside v i = record { x = v.x; y = v.y; first = v.inside; next = i }

rising_two : (a : Octagon) → Normal a → Line a.c1 a.c5 a.c3 a.c7 → Neighbours a (pos 1)
unfolding up dn
rising_two a n l =
    let v = vertex_70 a n in
    let w = vertex_34 a n in
    beside v (omega (arith, l, v.inside, w.inside, v.at_x, v.at_y, w.at_x, w.at_y, sum_parts v.x (pos 1), sum_parts v.y (pos 1)))

falling_two : (b : Octagon) → Normal b → Line b.c3 b.c7 b.c1 b.c5 → Neighbours b (negsuc 0)
unfolding up dn
falling_two b n l =
    let v = vertex_56 b n in
    let w = vertex_12 b n in
    beside v (omega (arith, l, v.inside, w.inside, v.at_x, v.at_y, w.at_x, w.at_y, sum_parts v.x (pos 1), sum_parts v.y (negsuc 0)))

-- a cell of one row and a cell of the other never sum to the cell between the four
between_cells : (a b : Octagon) (p q v w : ℤ) → Line a.c1 a.c5 a.c3 a.c7 → Line b.c3 b.c7 b.c1 b.c5 →
    Within a p q → Within b v w → (x y : ℤ) → # x ≈ # p ⊕ # v ⊕ lit 1 → # y ≈ # q ⊕ # w → ¬ (Dilated (In a) (In b) x y)
between_cells a b p q v w l m i j x y ex ey t =
    never (within t.of_a) (within t.of_b) (omega (arith, eq_parts t.sum_x, sum_parts t.ax t.bx)) (omega (arith, eq_parts t.sum_y, sum_parts t.ay t.by))
  where
    never : {ax ay bx by : ℤ} → Within a ax ay → Within b bx by → # x ≈ # ax ⊕ # bx → # y ≈ # ay ⊕ # by → ⊥
    never {ax} {ay} {bx} {by} k h sx sy = omega arith

-- the sum of two cells, in a set that has the sums
sum_in : {a b s : Octagon} → In s ≐ Dilated (In a) (In b) → (p q v w : ℤ) → Within a p q → Within b v w → Within s (p +ℤ v) (q +ℤ w)
sum_in e p q v w i j =
    within ((e (p +ℤ v) (q +ℤ w)).1 (record { ax = p; ay = q; bx = v; by = w; of_a = cell_in i; of_b = cell_in j; sum_x = refl; sum_y = refl }))

holes : (a b s : Octagon) → Normal a → Normal b → Line a.c1 a.c5 a.c3 a.c7 → Line b.c3 b.c7 b.c1 b.c5 → In s ≐ Dilated (In a) (In b) → ⊥
unfolding up dn
holes a b s n k l m e = go (rising_two a n l) (falling_two b k m)
  where
    go : Neighbours a (pos 1) → Neighbours b (negsuc 0) → ⊥
    go u d =
        let x = (u.x +ℤ d.x) +ℤ pos 1 in
        let y = u.y +ℤ d.y in
        let x' = u.x +ℤ pos 1 in
        let y' = u.y +ℤ pos 1 in
        let v' = d.x +ℤ pos 1 in
        let w' = d.y +ℤ negsuc 0 in
        let i1 = sum_in e u.x u.y d.x d.y u.first d.first in
        let i2 = sum_in e x' y' d.x d.y u.next d.first in
        let i3 = sum_in e u.x u.y v' w' u.first d.next in
        let i4 = sum_in e x' y' v' w' u.next d.next in
        let sx = sum_parts u.x d.x in
        let sy = sum_parts u.y d.y in
        let tx = sum_parts (u.x +ℤ d.x) (pos 1) in
        let px = sum_parts u.x (pos 1) in
        let py = sum_parts u.y (pos 1) in
        let qx = sum_parts d.x (pos 1) in
        let qy = sum_parts d.y (negsuc 0) in
        let i : Within s x y =
        around s x y (u.x +ℤ d.x) (u.y +ℤ d.y) (x' +ℤ d.x) (y' +ℤ d.y) (u.x +ℤ v') (u.y +ℤ w') (x' +ℤ v') (y' +ℤ w')
        (omega (arith, tx)) refl
        (omega (arith, sum_parts x' d.x, px, sx, tx)) (omega (arith, sum_parts y' d.y, py, sy))
        (omega (arith, sum_parts u.x v', qx, sx, tx)) (omega (arith, sum_parts u.y w', qy, sy))
        (omega (arith, sum_parts x' v', px, qx, sx, tx)) (omega (arith, sum_parts y' w', py, qy, sy))
        i1 i2 i3 i4 in
        between_cells a b u.x u.y d.x d.y l m u.first d.first x y (omega (arith, tx, sx)) sy ((e x y).0 (cell_in i))

-- no octagon has the sums of opposed rows as its cells
pub no_octagon : (a b s : Octagon) → Normal a → Normal b → OpposedRows (In a) (In b) → ¬ (In s ≐ Dilated (In a) (In b))
no_octagon a b s n k (inl r) e = holes a b s n k (cells_rising a n r.0) (cells_falling b k r.1) e
no_octagon a b s n k (inr r) e = holes b a s k n (cells_rising b k r.1) (cells_falling a n r.0) (same_trans e (dilated_comm (In a) (In b)))
