-- Cells on each of the four edges of the map and one step past them, by one computed test: "the map runs from -2,000,000 to 2,000,000". The same
-- of the map of each record length: "Sheets of 24 and 26 still read under their old limits". Assumes nothing.
use Rattle.std.specs.Prelude.{◌≡◌, ℕ, ◌+◌, true, false, List, [], ◌∷◌, ◌++◌, map, ℤ, pos, ◌+ℤ◌, ◌-ℤ◌, neg_ℤ, refl}
use Rattle.octagon.specs.Octagon.{Octagon}
use Rattle.octagon.specs.Outcome.{Outcome, accepted, refused}
use Rattle.integers.specs.Minimum.{min_ℤ, half_ℤ}
use Rattle.octagon.specs.NormalForm.{are_within_limit, even_bound, odd_bound, tight_even, tight_odd, normal_form, has_cell, is_on_map, placed, normalised}
use Rattle.outline.specs.declared.walk.Cell.{Cell}
use Rattle.outline.specs.Closing.{closes}
use Rattle.outline.specs.Walk.{vertex}
use Rattle.outline.specs.Tracing.{bounds_at, drawn, traced, traced_in}
use Rattle.sheet.specs.Layout.{map_limit}
use Rattle.cases.specs.Shorthand.{bounds, cell}

-- the cell (x, y)
abbrev cell_at : ℤ → ℤ → Cell
cell_at x y = record { x = x; y = y }

-- four cells with a coordinate that is r from 0, and nothing else alike: on the edges of a map, or one step farther out
abbrev pub edge_cells : ℕ → List Cell
edge_cells r = cell_at (pos r) (pos 1) ∷ cell_at (neg_ℤ (pos r)) (pos 2) ∷ cell_at (pos 3) (pos r) ∷ cell_at (pos 4) (neg_ℤ (pos r)) ∷ []

-- the bounds of one cell: the left sides of document 01's eight inequalities there
abbrev pub alone : Cell → Octagon
alone p = let x = p.x in let y = p.y in bounds (neg_ℤ y) (x -ℤ y) x (x +ℤ y) y (neg_ℤ x +ℤ y) (neg_ℤ x) (neg_ℤ x -ℤ y)

-- what is given for those on the edges of the map from -r to r and for those past them, and what is expected
abbrev given : ℕ → (Cell → Outcome Octagon) → List (Outcome Octagon)
given r f = map f (edge_cells r) ++ map f (edge_cells (r + 1))

abbrev expected : ℕ → List (Outcome Octagon)
expected r = map (λ p. accepted (alone p)) (edge_cells r) ++ map (λ p. refused 2) (edge_cells (r + 1))

-- Normalise and "Outline to octagon"
pub map_edges :
    (given 2000000 (λ p. normalised (alone p)) ≡ expected 2000000) × (given 2000000 (λ p. traced (cell p.x p.y)) ≡ expected 2000000)
unfolding normalised normal_form tight_odd tight_even even_bound odd_bound min_ℤ half_ℤ has_cell placed is_on_map traced closes drawn bounds_at vertex
map_edges = (refl, refl)

-- an outline in a record of 24, of 26 and of 46 bytes
abbrev in_record : ℕ → Cell → Outcome Octagon
in_record L p = traced_in (map_limit L) (cell p.x p.y)

pub record_edges :
    (given 16000 (in_record 24) ≡ expected 16000) × (given 16000 (in_record 26) ≡ expected 16000) × (given 2000000 (in_record 46) ≡ expected 2000000)
unfolding map_limit traced_in placed is_on_map traced closes drawn bounds_at vertex
record_edges = (refl, refl, refl)

-- the test of four numbers: each at the limit or far below it, and each in turn one past the limit
pub tested_limits :
    are_within_limit (pos 2000000) (pos 2000000) (pos 2000000) (pos 2000000) ∷
    are_within_limit (neg_ℤ (pos 2000001)) (neg_ℤ (pos 2000002)) (neg_ℤ (pos 2000003)) (neg_ℤ (pos 2000004)) ∷
    are_within_limit (pos 2000001) (pos 2) (pos 3) (pos 4) ∷ are_within_limit (pos 1) (pos 2000001) (pos 3) (pos 4) ∷
    are_within_limit (pos 1) (pos 2) (pos 2000001) (pos 4) ∷ are_within_limit (pos 1) (pos 2) (pos 3) (pos 2000001) ∷ []
    ≡ true ∷ true ∷ false ∷ false ∷ false ∷ false ∷ []
tested_limits = refl
