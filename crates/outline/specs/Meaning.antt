-- What the answers on outlines mean, in the words of document 01: records and sets that theorems speak of. Assumes nothing.
use Rattle.std.specs.Prelude.{◌≡◌, [], ◌∷◌, ℕ, ◌+◌, ◌%◌, ◌≤◌, ℤ, pos, neg_ℤ, ◌+ℤ◌, ◌-ℤ◌, get_or, ◌≤ℤ◌}
use Rattle.octagon.specs.Octagon.{Octagon}
use Rattle.octagon.specs.Cells.{Cells, ◌⊆◌, ◌≐◌, In, OnMap, Normalised}
use Rattle.octagon.specs.Outcome.{accepted}
use Rattle.outline.specs.declared.Outline.{Outline}
use Rattle.outline.specs.declared.walk.Cell.{Cell}
use Rattle.outline.specs.declared.place.Place.{Place}
use Rattle.outline.specs.Closing.{Closes}
use Rattle.outline.specs.Walk.{with_sides, vertex, InsideWalk}
use Rattle.outline.specs.Outlining.{outlined}
use Rattle.outline.specs.Places.{Exactly}

-- ---- from an outline to its octagon

-- a is the octagon of the outline o: the cells inside the walk, each bound reached, every cell on the map; and the outline closes
pub record OctagonOf (o : Outline) (a : Octagon) : Type 0 where
  pub same_cells : In a ≐ InsideWalk o
  pub is_normalised : Normalised a
  pub on_the_map : In a ⊆ OnMap
  pub closed : Closes o

-- "the start is the lowest corner, and of the lowest the leftmost": the cell (x, y) is no lower, and where it is as low no further left
pub record PastStart (o : Outline) (x y : ℤ) : Type 0 where
  pub lowest : o.j ≤ℤ y
  pub leftmost : y ≡ o.j → o.i ≤ℤ x

-- "all lengths 0": the outline at (i, j) that has no side
abbrev pub no_sides : ℤ → ℤ → Outline
no_sides i j = with_sides i j []

-- ---- the vertices

-- the cell (x, y) reaches bound k
abbrev pub Reaches : Octagon → ℕ → Cells
Reaches a k x y =
    get_or (neg_ℤ y ∷ (x -ℤ y) ∷ x ∷ (x +ℤ y) ∷ y ∷ (neg_ℤ x +ℤ y) ∷ neg_ℤ x ∷ (neg_ℤ x -ℤ y) ∷ []) k (pos 0)
    ≡ get_or (a.c0 ∷ a.c1 ∷ a.c2 ∷ a.c3 ∷ a.c4 ∷ a.c5 ∷ a.c6 ∷ a.c7 ∷ []) k (pos 0)

-- vertex k is a cell of the octagon where the bounds k-1 and k meet, with indices counted round the eight
pub record IsVertex (a : Octagon) (k : ℕ) (v : Cell) : Type 0 where
  pub inside : In a v.x v.y
  pub before : Reaches a ((k + 7) % 8) v.x v.y
  pub own : Reaches a k v.x v.y

-- p is the place of vertex k of the bounds c: each number is exactly a quarter of the cell number
pub record InMetres (c : Octagon) (k : ℕ) (p : Place) : Type 0 where
  pub outline : Outline
  pub its_outline : outlined c ≡ accepted outline
  pub a_vertex : k ≤ 7
  pub east_exact : Exactly (vertex outline k).x 4 p.east
  pub north_exact : Exactly (vertex outline k).y 4 p.north
