-- What `enclose` answers: definitions that compute. specs/Cases.antt says the same in words, proofs/Cases.antt joins the two.
-- Assumes nothing.
use Rattle.std.specs.Prelude.{cond, List, [], ◌∷◌, ℕ, ◌+◌, ◌%◌, eqb, length, get_or, map, Float}
use Rattle.std.specs.Float.{nan}
use Rattle.octagon.specs.Octagon.{Octagon}
use Rattle.octagon.specs.Outcome.{Outcome, accepted, refused, then}
use Rattle.octagon.specs.NormalForm.{placed}
use Rattle.octagon.specs.OneCell.{one_cell}
use Rattle.outline.specs.declared.place.Place.{Place}
use Rattle.tape.specs.Snapping.{snapped}
use Rattle.tape.specs.Hull.{hull}

-- the refusal numbers of a tape without a point, and of one that ends in half a point
abbrev pub no_point : ℕ
no_point = 15

abbrev pub half_point : ℕ
half_point = 16

-- the cell of a surveyed point: both coordinates are snapped before the cell is placed on the map
unfoldable pub point_cell : Place → Outcome Octagon
point_cell p = then (snapped p.east) (λ x. then (snapped p.north) (λ y. placed (one_cell x y)))

-- the point whose numbers stand at an index of a tape and the next
abbrev pub place_at : List Float → ℕ → Place
place_at t i = record { east = get_or t i nan; north = get_or t (i + 1) nan }

-- a tape's points: east and north in turn
abbrev pub points : List Float → List Place
points [] = []
points (e ∷ []) = []
points (e ∷ n ∷ t) = record { east = e; north = n } ∷ points t

-- the points of pairs of numbers
abbrev pub paired : List (List Float) → List Place
paired = map (λ p. place_at p 0)

-- the bounds c, widened by the cell of each point in turn; the first point that is refused decides
abbrev pub gathered : Octagon → List Place → Outcome Octagon
gathered c [] = accepted c
gathered c (p ∷ ps) = then (point_cell p) (λ d. gathered (hull c d) ps)

abbrev pub enclosed_points : List Place → Outcome Octagon
enclosed_points [] = refused no_point
enclosed_points (p ∷ ps) = then (point_cell p) (λ c. gathered c ps)

-- what `enclose` answers
unfoldable pub enclosed : List Float → Outcome Octagon
enclosed t = cond (eqb (length t % 2) 1) (refused half_point) (enclosed_points (points t))
