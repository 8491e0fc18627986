-- The number of cells that pass a test, and the cells of an octagon as a test.
-- This file is what a reader must believe of counts. Assumes nothing.
use Rattle.std.specs.Prelude.{◌≡◌, Bool, true, false, not, ◌&&◌, ◌||◌, ℕ, zero, suc, ◌+◌, ◌*◌, ◌^◌, ◌<◌, ◌≤◌, ℤ, pos, neg_ℤ, ◌+ℤ◌, ◌-ℤ◌}
use Rattle.std.specs.Int.Signed.{le_z}
use Rattle.octagon.specs.Octagon.{Octagon}
use Rattle.octagon.specs.Cells.{limit}

-- ---- tests

-- a test of the cell (x, y)
abbrev pub Test : Type 0
Test = ℤ → ℤ → Bool

-- the cell (x, y) is within the bounds: document 01's eight inequalities
unfoldable pub inside : Octagon → Test
inside c x y =
    le_z (neg_ℤ y) c.c0 && le_z (x -ℤ y) c.c1 && le_z x c.c2 && le_z (x +ℤ y) c.c3 &&
    le_z y c.c4 && le_z (neg_ℤ x +ℤ y) c.c5 && le_z (neg_ℤ x) c.c6 && le_z (neg_ℤ x -ℤ y) c.c7

-- the cells that pass one test or the other, both, and the first but not the second
abbrev pub either : Test → Test → Test
either p q x y = p x y || q x y

abbrev pub both : Test → Test → Test
both p q x y = p x y && q x y

abbrev pub without : Test → Test → Test
without p q x y = p x y && not (q x y)

-- ---- counts

-- f 0 + f 1 + .. + f (n - 1)
unfoldable pub sum : ℕ → (ℕ → ℕ) → ℕ
sum zero f = 0
sum (suc n) f = sum n f + f n

-- a test as a number
unfoldable pub one : Bool → ℕ
one true = 1
one false = 0

-- the integer at place i, from 0 on, of the 2r + 1 integers from -r to r
unfoldable pub at : ℕ → ℕ → ℤ
at r i = pos i -ℤ pos r

-- how many of the integers from -r to r pass a test
unfoldable pub row : ℕ → (ℤ → Bool) → ℕ
row r p = sum (2 * r + 1) (λ i. one (p (at r i)))

-- how many of the cells (x, y), with x and y from -r to r, pass a test
unfoldable pub count : ℕ → Test → ℕ
count r p = sum (2 * r + 1) (λ j. row r (λ x. p x (at r j)))

-- n is the number of cells within the bounds c, in the map's square and in every larger one; it is 1 or more, and fits 64 bits
pub record Counted (c : Octagon) (n : ℕ) : Type 0 where
  pub cells : (r : ℕ) → limit ≤ r → n ≡ count r (inside c)
  pub some : 1 ≤ n
  pub fits : n < 2 ^ 64
