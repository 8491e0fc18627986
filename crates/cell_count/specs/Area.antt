-- The cell count by a formula, and the answer of `count_cells`: definitions that compute.
-- proofs/Counted.antt says what they mean in cells. Assumes nothing.
use Rattle.std.specs.Prelude.{ℕ, ◌+◌, ◌-◌, ◌*◌, ◌/◌, ℤ, pos, ◌+ℤ◌, nat_abs, ◌≤ℤ◌}
use Rattle.octagon.specs.Octagon.{Octagon}
use Rattle.octagon.specs.Outcome.{Outcome, accepted, then}
use Rattle.octagon.specs.Cells.{limit}
use Rattle.octagon.specs.NormalForm.{odd_side, normalised}

-- 1 + 2 + .. + n
unfoldable pub triangle : ℕ → ℕ
triangle n = n * (n + 1) / 2

-- the number of columns, or of rows, from one bound to the opposite one
abbrev pub extent : ℤ → ℤ → ℕ
extent low high = nat_abs (low +ℤ high +ℤ pos 1)

-- the cells of the least rectangle round normalised bounds
unfoldable pub rectangle : Octagon → ℕ
rectangle a = extent a.c0 a.c4 * extent a.c6 a.c2

-- the cells that a diagonal side cuts off it: a triangle whose legs are as long as the side
abbrev pub cut : ℤ → ℤ → ℤ → ℕ
cut before own after = triangle (nat_abs (odd_side before own after))

unfoldable pub cuts : Octagon → ℕ
cuts a =
    cut a.c0 a.c1 a.c2 + cut a.c2 a.c3 a.c4 + (cut a.c4 a.c5 a.c6 + cut a.c6 a.c7 a.c0)

-- the number of cells within normalised bounds
unfoldable pub area : Octagon → ℕ
area a = rectangle a - cuts a

-- what `count_cells` answers for any eight bounds
unfoldable pub cell_count : Octagon → Outcome ℕ
cell_count c = then (normalised c) (λ a. accepted (area a))

-- z is a length on the map: nought or more, and at most the map's width
pub record MapLength (z : ℤ) : Type 0 where
  pub least : pos 0 ≤ℤ z
  pub most : z ≤ℤ pos (2 * limit + 1)
