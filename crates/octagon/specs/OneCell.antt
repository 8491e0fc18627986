-- One cell: the set of it alone, and its octagon. proofs/OneCell.antt says that the octagon is the smallest that holds the set.
-- Assumes nothing.
use Rattle.std.specs.Prelude.{◌≡◌, ℤ, neg_ℤ, ◌+ℤ◌, ◌-ℤ◌}
use Rattle.octagon.specs.Octagon.{Octagon}
use Rattle.octagon.specs.Cells.{Cells}

-- document 01's "one cell": the cell (i, j) alone
abbrev pub OneCell : ℤ → ℤ → Cells
OneCell i j x y = (x ≡ i) × (y ≡ j)

-- the octagon of the one cell (x, y)
abbrev pub one_cell : ℤ → ℤ → Octagon
one_cell x y = record {
  c0 = neg_ℤ y;
  c1 = x -ℤ y;
  c2 = x;
  c3 = x +ℤ y;
  c4 = y;
  c5 = neg_ℤ x +ℤ y;
  c6 = neg_ℤ x;
  c7 = neg_ℤ x -ℤ y;
}
