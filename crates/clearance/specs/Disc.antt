-- The cells about a tree, and the rule of the slant reach, by squares: what a reader must believe of document 02's distance.
-- proofs/Discs.antt and Reaches.antt join them to the definitions that compute. Assumes nothing.
use Rattle.std.specs.Prelude.{Bool, true, ◌&&◌, List, [], ◌∷◌, ℕ, suc, ◌+◌, ◌*◌, ◌≤◌, ◌<◌, leb, ltb, ℤ, pos, ◌+ℤ◌, ◌-ℤ◌, ◌*ℤ◌, ◌≤ℤ◌}
use Rattle.octagon.specs.Cells.{Cells}

-- the square of an integer
abbrev pub square : ℤ → ℤ
square z = z *ℤ z

-- "every cell at that distance or less": the cells (x, y) whose distance from (i, j) is at most r
abbrev pub Disc : ℤ → ℤ → ℕ → Cells
Disc i j r x y = (square (x -ℤ i) +ℤ square (y -ℤ j)) ≤ℤ square (pos r)

-- "the s with s × s at most 2 × r × r and (s+1) × (s+1) above it"
pub record SlantReach (r s : ℕ) : Type 0 where
  pub reached : s * s ≤ 2 * r * r
  pub passed : 2 * r * r < (s + 1) * (s + 1)

-- the rule as a test
abbrev pub is_slant_reach : ℕ → ℕ → Bool
is_slant_reach r s = leb (s * s) (2 * r * r) && ltb (2 * r * r) ((s + 1) * (s + 1))

-- the same of a table whose first entry is that of the radius r
abbrev pub are_slant_reaches : ℕ → List ℕ → Bool
are_slant_reaches r [] = true
are_slant_reaches r (s ∷ l) = is_slant_reach r s && are_slant_reaches (suc r) l
