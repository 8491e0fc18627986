-- Diagonal rows: the tests on normal bounds say what document 01 says of cells. Assumes nothing.
use mathlib.Core.Path.{◌≡◌, sym, ◌∙◌}
use mathlib.Core.Logic.{◌↔◌, ◌⊎◌, inl, inr}
use mathlib.Core.Bool.{Bool, true, false, ◌&&◌}
use native.Mathlib.Omega.{arith}
use lib.IntN.{ℤ}
use Rattle.integers.proofs.Parts.{sum_parts, diff_parts, eq_parts}
use Rattle.integers.proofs.Linear.{Diff, #, ◌⊕◌, lit, ◌≼◌, same}
use Rattle.integers.proofs.Between.{decide}
use Rattle.integers.proofs.Tests.{both_true, and_true, or_either, either_or, true_is_not_false}
use Rattle.octagon.specs.Octagon.{Octagon}
use Rattle.octagon.specs.Cells.{In, Normalised}
use Rattle.octagon.proofs.Within.{Within, Normal, within, cell_in}
use Rattle.octagon.proofs.Vertices.{Vertex, vertex_12, vertex_34, vertex_56, vertex_70, reached_normal}
use Rattle.morphology.specs.Sets.{DiagonalRow, Rising, Falling, OpposedRows}
use Rattle.morphology.specs.Operations.{is_rising, is_falling, are_opposed}
use Rattle.morphology.proofs.Meet.{Opposed}
use Rattle.morphology.proofs.RowTests.{Line, row_line, line_row}

-- ---- rows as cells

module _ {d : ℤ → ℤ → ℤ} {c : Octagon} {p q s t : Diff} (v : Vertex c p q) (w : Vertex c s t) where
  -- a row of two vertices in different columns
  row_of : (k : ℤ) → ¬ (v.x ≡ w.x) → ((x y : ℤ) → Within c x y → d x y ≡ k) → DiagonalRow d (In c)
  row_of k n on = record {
    line = k;
    on_line = λ x y i. on x y (within i);
    two = record {
      one = record { x = v.x; y = v.y; cell = cell_in v.inside };
      other = record { x = w.x; y = w.y; cell = cell_in w.inside };
      apart = n;
    };
  }

  -- two vertices of a row are on one line
  on_one : DiagonalRow d (In c) → d v.x v.y ≡ d w.x w.y
  on_one r = r.on_line v.x v.y (cell_in v.inside) ∙ sym (r.on_line w.x w.y (cell_in w.inside))

rising_cells : (c : Octagon) → Normal c → Line c.c1 c.c5 c.c3 c.c7 → Rising (In c)
rising_cells c n l =
    let v = vertex_34 c n in
    let w = vertex_70 c n in
    row_of v w c.c1 (λ e. omega (arith, eq_parts e, l.many, l.one_line, v.at_x, v.at_y, w.at_x, w.at_y, v.inside, w.inside, n))
    (λ x y i. same (# c.c1) (omega (arith, diff_parts x y)) (omega arith))

falling_cells : (c : Octagon) → Normal c → Line c.c3 c.c7 c.c1 c.c5 → Falling (In c)
falling_cells c n l =
    let v = vertex_12 c n in
    let w = vertex_56 c n in
    row_of v w c.c3 (λ e. omega (arith, eq_parts e, l.many, l.one_line, v.at_x, v.at_y, w.at_x, w.at_y, v.inside, w.inside, n))
    (λ x y i. same (# c.c3) (omega (arith, sum_parts x y)) (omega arith))

-- one line each way leaves one column
narrow : (c : Octagon) {x y v w : ℤ} → # c.c1 ⊕ # c.c5 ≼ lit 0 → # c.c3 ⊕ # c.c7 ≼ lit 0 → Within c x y → Within c v w → x ≡ v
narrow c {x} {y} {v} {w} l m i j = same (# v) (omega arith) (omega arith)

-- so a row on one line one way has more than one the other way
line_of : {d : ℤ → ℤ → ℤ} (c : Octagon) (p q s t : ℤ) → DiagonalRow d (In c) → # p ⊕ # q ≼ lit 0 →
    (# s ⊕ # t ≼ lit 0 → (x y v w : ℤ) → Within c x y → Within c v w → x ≡ v) → Line p q s t
line_of c p q s t r l f =
    decide (lit 1) (# s ⊕ # t) (λ m. record { one_line = l; many = m })
    (λ m. absurd (r.two.apart (f (omega arith) _ _ _ _ (within r.two.one.cell) (within r.two.other.cell))))

pub cells_rising : (c : Octagon) → Normal c → Rising (In c) → Line c.c1 c.c5 c.c3 c.c7
cells_rising c n r =
    let v = vertex_12 c n in
    let w = vertex_56 c n in
    let l : # c.c1 ⊕ # c.c5 ≼ lit 0 = omega (arith, eq_parts (on_one v w r), diff_parts v.x v.y, diff_parts w.x w.y, v.at_x, v.at_y, w.at_x, w.at_y) in
    line_of c c.c1 c.c5 c.c3 c.c7 r l (λ m _ _ _ _. narrow c l m)

pub cells_falling : (c : Octagon) → Normal c → Falling (In c) → Line c.c3 c.c7 c.c1 c.c5
cells_falling c n r =
    let v = vertex_34 c n in
    let w = vertex_70 c n in
    let l : # c.c3 ⊕ # c.c7 ≼ lit 0 = omega (arith, eq_parts (on_one v w r), sum_parts v.x v.y, sum_parts w.x w.y, v.at_x, v.at_y, w.at_x, w.at_y) in
    line_of c c.c3 c.c7 c.c1 c.c5 r l (λ m _ _ _ _. narrow c m l)

-- ---- one of each kind

-- the test is true exactly for rows of which one is of each kind
pub opposed_rows_test : (a b : Octagon) → Normalised a → Normalised b → (are_opposed a b ≡ true) ↔ OpposedRows (In a) (In b)
unfolding are_opposed is_rising is_falling
opposed_rows_test a b i j = (λ h. to (or_either _ _ h), λ r. either_or _ _ (from r))
  where
    n : Normal a
    n = reached_normal a i.reached

    k : Normal b
    k = reached_normal b j.reached

    to : ((is_rising a && is_falling b) ≡ true) ⊎ ((is_falling a && is_rising b) ≡ true) → OpposedRows (In a) (In b)
    to (inl h) =
        let p = both_true (is_rising a) (is_falling b) h in
        inl (rising_cells a n (row_line a.c1 a.c5 a.c3 a.c7 p.0), falling_cells b k (row_line b.c3 b.c7 b.c1 b.c5 p.1))
    to (inr h) =
        let p = both_true (is_falling a) (is_rising b) h in
        inr (falling_cells a n (row_line a.c3 a.c7 a.c1 a.c5 p.0), rising_cells b k (row_line b.c1 b.c5 b.c3 b.c7 p.1))

    from : OpposedRows (In a) (In b) → ((is_rising a && is_falling b) ≡ true) ⊎ ((is_falling a && is_rising b) ≡ true)
    from (inl r) =
        inl (and_true (line_row a.c1 a.c5 a.c3 a.c7 (cells_rising a n r.0)) (line_row b.c3 b.c7 b.c1 b.c5 (cells_falling b k r.1)))
    from (inr r) =
        inr (and_true (line_row a.c3 a.c7 a.c1 a.c5 (cells_falling a n r.0)) (line_row b.c1 b.c5 b.c3 b.c7 (cells_rising b k r.1)))

-- bounds that the test does not call opposed are not
opposed_true : (a b : Octagon) → Opposed a b → (is_rising a && is_falling b) ≡ true
unfolding is_rising is_falling
opposed_true a b o =
    and_true (line_row a.c1 a.c5 a.c3 a.c7 (record { one_line = o.a15; many = o.a37 }))
    (line_row b.c3 b.c7 b.c1 b.c5 (record { one_line = o.e37; many = o.e15 }))

and_comm : (a b : Bool) → (a && b) ≡ true → (b && a) ≡ true
and_comm a b h = let p = both_true a b h in and_true p.1 p.0

pub not_opposed : (a b : Octagon) → are_opposed a b ≡ false → ¬ (Opposed a b)
unfolding are_opposed
not_opposed a b h o = true_is_not_false (sym (either_or (is_rising a && is_falling b) (is_falling a && is_rising b) (inl (opposed_true a b o))) ∙ h)

pub not_opposed' : (a b : Octagon) → are_opposed a b ≡ false → ¬ (Opposed b a)
unfolding are_opposed
not_opposed' a b h o = true_is_not_false (sym (either_or (is_rising a && is_falling b) (is_falling a && is_rising b) (inr (and_comm (is_rising b) (is_falling a) (opposed_true b a o)))) ∙ h)

-- and cells of bounds that are not opposed are no opposed rows
pub not_opposed_rows : (a b : Octagon) → Normal a → Normal b → ¬ (Opposed a b) → ¬ (Opposed b a) → ¬ (OpposedRows (In a) (In b))
not_opposed_rows a b n k o o' (inl r) =
    let l = cells_rising a n r.0 in
    let m = cells_falling b k r.1 in
    o (record { a15 = l.one_line; a37 = l.many; e37 = m.one_line; e15 = m.many })
not_opposed_rows a b n k o o' (inr r) =
    let l = cells_falling a n r.0 in
    let m = cells_rising b k r.1 in
    o' (record { a15 = m.one_line; a37 = m.many; e37 = l.one_line; e15 = l.many })
