-- The walk round an outline and the cells inside it, in the words of document 01. This file, with the steps in Tables.antt, is what a
-- reader must believe of outlines. Assumes nothing.
use Rattle.std.specs.Prelude.{List, [], ◌∷◌, ℕ, zero, suc, ◌<◌, ℤ, pos, ◌+ℤ◌, ◌-ℤ◌, ◌*ℤ◌, get_or, ◌≤ℤ◌}
use Rattle.octagon.specs.Cells.{Cells}
use Rattle.outline.specs.declared.Outline.{Outline}
use Rattle.outline.specs.declared.walk.Cell.{Cell}
use Rattle.outline.specs.Tables.{steps}

-- how far a step along d(k) goes east, and how far north
abbrev pub east : ℕ → ℤ
east k = get_or (get_or steps k []) 0 (pos 0)

abbrev pub north : ℕ → ℤ
north k = get_or (get_or steps k []) 1 (pos 0)

-- the lengths of the sides of an outline, n0 to n7, and of side k
abbrev pub sides_of : Outline → List ℕ
sides_of o = o.n0 ∷ o.n1 ∷ o.n2 ∷ o.n3 ∷ o.n4 ∷ o.n5 ∷ o.n6 ∷ o.n7 ∷ []

abbrev pub side : Outline → ℕ → ℕ
side o k = get_or (sides_of o) k 0

-- the outline of a start and the lengths of its sides; a side that is not listed is 0
abbrev pub with_sides : ℤ → ℤ → List ℕ → Outline
with_sides i j n = record {
  i = i;
  j = j;
  n0 = get_or n 0 0;
  n1 = get_or n 1 0;
  n2 = get_or n 2 0;
  n3 = get_or n 3 0;
  n4 = get_or n 4 0;
  n5 = get_or n 5 0;
  n6 = get_or n 6 0;
  n7 = get_or n 7 0;
}

-- the vertices of the walk, document 01's corners: corner 0 is the start, corner k+1 is corner k moved n(k) steps along d(k)
unfoldable pub vertex : Outline → ℕ → Cell
vertex o zero = record { x = o.i; y = o.j }
vertex o (suc k) = record {
  x = (vertex o k).x +ℤ east k *ℤ pos (side o k);
  y = (vertex o k).y +ℤ north k *ℤ pos (side o k);
}

-- the cell (x, y) lies on the line from the cell v along d(k), or to its left
abbrev pub LeftOf : ℕ → Cell → Cells
LeftOf k v x y = pos 0 ≤ℤ (east k *ℤ (y -ℤ v.y) -ℤ north k *ℤ (x -ℤ v.x))

-- the cells inside a counter-clockwise walk: those that lie on or to the left of each of its sides
abbrev pub InsideWalk : Outline → Cells
InsideWalk o x y = (k : ℕ) → k < 8 → LeftOf k (vertex o k) x y
