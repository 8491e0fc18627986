-- Octagons as sets of cells, in the words of documents 01 and 02. This file is what a reader must believe of sets. Assumes nothing.
use Rattle.std.specs.Prelude.{◌≡◌, ◌↔◌, ◌⊎◌, ℕ, ℤ, pos, neg_ℤ, ◌+ℤ◌, ◌-ℤ◌, ◌≤ℤ◌}
use Rattle.octagon.specs.Octagon.{Octagon}

-- a set of cells: what is said of the cell (x, y)
abbrev pub Cells : Type 1
Cells = ℤ → ℤ → Type 0

-- each cell of one set is a cell of the other
infix 50 ◌⊆◌
abbrev pub ◌⊆◌ : Cells → Cells → Type 0
A ⊆ B = (x y : ℤ) → A x y → B x y

-- two sets with the same cells
infix 50 ◌≐◌
abbrev pub ◌≐◌ : Cells → Cells → Type 0
A ≐ B = (x y : ℤ) → A x y ↔ B x y

-- a set with no cell
abbrev pub Empty : Cells → Type 0
Empty A = (x y : ℤ) → ¬ (A x y)

-- the cells of either set
abbrev pub Either : Cells → Cells → Cells
Either A B x y = A x y ⊎ B x y

-- some cell of a set
pub record Some (A : Cells) : Type 0 where
  pub x : ℤ
  pub y : ℤ
  pub cell : A x y

-- the cell (x, y) is within the bounds: the cells of the octagon
pub record In (c : Octagon) (x y : ℤ) : Type 0 where
  pub in0 : neg_ℤ y ≤ℤ c.c0
  pub in1 : (x -ℤ y) ≤ℤ c.c1
  pub in2 : x ≤ℤ c.c2
  pub in3 : (x +ℤ y) ≤ℤ c.c3
  pub in4 : y ≤ℤ c.c4
  pub in5 : (neg_ℤ x +ℤ y) ≤ℤ c.c5
  pub in6 : neg_ℤ x ≤ℤ c.c6
  pub in7 : (neg_ℤ x -ℤ y) ≤ℤ c.c7

-- the cell (x, y) has both coordinates from -r to r
pub record Square (r : ℕ) (x y : ℤ) : Type 0 where
  pub west : neg_ℤ (pos r) ≤ℤ x
  pub east : x ≤ℤ pos r
  pub south : neg_ℤ (pos r) ≤ℤ y
  pub north : y ≤ℤ pos r

-- some cell of a set is outside that square
abbrev pub Leaves : ℕ → Cells → Type 0
Leaves r A = Some (λ x y. A x y × ¬ (Square r x y))

-- the map's limit, in cells from its middle
abbrev pub limit : ℕ
limit = 2000000

-- the cell (x, y) is on the map
abbrev pub OnMap : Cells
OnMap = Square limit

-- some cell of a set is off the map
abbrev pub LeavesMap : Cells → Type 0
LeavesMap = Leaves limit

-- each bound is reached by a cell of the set: some cell of it meets the bound with equality
pub record ReachedBy (A : Cells) (c : Octagon) : Type 0 where
  pub reached0 : Some (λ x y. A x y × (neg_ℤ y ≡ c.c0))
  pub reached1 : Some (λ x y. A x y × (x -ℤ y ≡ c.c1))
  pub reached2 : Some (λ x y. A x y × (x ≡ c.c2))
  pub reached3 : Some (λ x y. A x y × (x +ℤ y ≡ c.c3))
  pub reached4 : Some (λ x y. A x y × (y ≡ c.c4))
  pub reached5 : Some (λ x y. A x y × (neg_ℤ x +ℤ y ≡ c.c5))
  pub reached6 : Some (λ x y. A x y × (neg_ℤ x ≡ c.c6))
  pub reached7 : Some (λ x y. A x y × (neg_ℤ x -ℤ y ≡ c.c7))

-- every bound is reached by a cell within the bounds
abbrev pub Reached : Octagon → Type 0
Reached c = ReachedBy (In c) c

-- normalised bounds: the set has a cell, and each bound is reached
pub record Normalised (c : Octagon) : Type 0 where
  pub some : Some (In c)
  pub reached : Reached c

-- P holds of one octagon and of no other
pub record OnlyOne (P : Octagon → Type 0) : Type 0 where
  pub one : Octagon
  pub holds : P one
  pub no_other : (b : Octagon) → P b → b ≡ one

-- the octagon a stands for the set A: it has the cells of A, its bounds are normalised, and it is on the map
pub record Represents (a : Octagon) (A : Cells) : Type 0 where
  pub cells : In a ≐ A
  pub is_normalised : Normalised a
  pub on_the_map : In a ⊆ OnMap

-- the octagon a is the smallest that holds the set A: it holds each cell of A, any eight bounds that hold A hold a, and each bound of a is
-- reached by a cell of A
pub record Smallest (a : Octagon) (A : Cells) : Type 0 where
  pub holds : A ⊆ In a
  pub least : (b : Octagon) → A ⊆ In b → In a ⊆ In b
  pub reached : ReachedBy A a
