-- Values of the definitions, computed: a tape of eight corners, cells on their edges, the map's edges, and each refusal. Assumes nothing.
use mathlib.Core.Path.{◌≡◌, refl}
use mathlib.Core.Bool.{true, false}
use mathlib.Core.List.{List, [], ◌∷◌}
use lib.IntN.{pos, negsuc}
use lib.Ieee.{Float, nan, inf, fin, round}
use Rattle.integers.specs.Minimum.{max_ℤ}
use Rattle.octagon.specs.Outcome.{accepted, refused}
use Rattle.octagon.specs.NormalForm.{is_on_map, placed}
use Rattle.octagon.specs.OneCell.{one_cell}
use Rattle.outline.specs.Places.{over, quarter}
use Rattle.tape.specs.Snapping.{snapped}
use Rattle.tape.specs.Hull.{hull}
use Rattle.tape.specs.Enclosing.{point_cell, enclosed}

-- the corners of the octagon 5 4 0 10 12 19 11 9, in metres and in no order, one of them twice
abbrev corners : List Float
corners =
    quarter (negsuc 10) ∷ quarter (pos 8)
    ∷ quarter (negsuc 3) ∷ quarter (negsuc 4)
    ∷ quarter (pos 0) ∷ quarter (pos 10)
    ∷ quarter (negsuc 0) ∷ quarter (negsuc 4)
    ∷ quarter (negsuc 6) ∷ quarter (pos 12)
    ∷ quarter (pos 0) ∷ quarter (negsuc 3)
    ∷ quarter (negsuc 10) ∷ quarter (pos 8)
    ∷ quarter (negsuc 1) ∷ quarter (pos 12)
    ∷ quarter (negsuc 10) ∷ quarter (pos 2)
    ∷ []

back : enclosed corners ≡ accepted (record { c0 = pos 5; c1 = pos 4; c2 = pos 0; c3 = pos 10; c4 = pos 12; c5 = pos 19; c6 = pos 11; c7 = pos 9 })
unfolding enclosed point_cell snapped over round placed is_on_map hull max_ℤ
back = refl

-- a coordinate on the edge of two cells is in the upper one, and the number just below it in the lower: at 0.125 metres the cells 1 and 0,
-- at -0.125 the cells 0 and -1
edges : (snapped (fin false 1 (negsuc 2)) ∷ snapped (fin false 9007199254740991 (negsuc 55)) ∷ snapped (fin true 1 (negsuc 2)) ∷ snapped (fin true 4503599627370497 (negsuc 54)) ∷ [])
    ≡ (accepted (pos 1) ∷ accepted (pos 0) ∷ accepted (pos 0) ∷ accepted (negsuc 0) ∷ [])
unfolding snapped
edges = refl

-- minus nought and the numbers next to nought are in cell 0
near_nought : (snapped (fin true 0 (pos 0)) ∷ snapped (fin false 1 (negsuc 1073)) ∷ snapped (fin true 1 (negsuc 1073)) ∷ [])
    ≡ (accepted (pos 0) ∷ accepted (pos 0) ∷ accepted (pos 0) ∷ [])
unfolding snapped
near_nought = refl

-- the last cell's upper edge, 500000.125 metres, is off the map, and so is the greatest number; -500000.125 is on it
past_last : enclosed (fin false 13 (negsuc 1) ∷ fin false 4000001 (negsuc 2) ∷ []) ≡ refused 2
unfolding enclosed point_cell snapped placed is_on_map
past_last = refl

greatest : enclosed (fin false 9007199254740991 (pos 971) ∷ fin false 13 (negsuc 1) ∷ []) ≡ refused 2
unfolding enclosed point_cell snapped placed is_on_map
greatest = refl

first_edge : enclosed (fin false 13 (negsuc 1) ∷ fin true 4000001 (negsuc 2) ∷ [])
    ≡ accepted (record { c0 = pos 2000000; c1 = pos 2000013; c2 = pos 13; c3 = negsuc 1999986; c4 = negsuc 1999999; c5 = negsuc 2000012; c6 = negsuc 12; c7 = pos 1999987 })
unfolding enclosed point_cell snapped placed is_on_map
first_edge = refl

-- the numbers next to the map's edges, to the east and to the north: the greatest below 500000.125 is in the last cell, and the next below
-- -500000.125 in none of the map's
next_to_edges : (enclosed (fin false 8589936739483647 (negsuc 33) ∷ fin false 13 (negsuc 1) ∷ []) ∷ enclosed (fin false 13 (negsuc 1) ∷ fin false 8589936739483647 (negsuc 33) ∷ [])
    ∷ enclosed (fin true 8589936739483649 (negsuc 33) ∷ fin false 13 (negsuc 1) ∷ []) ∷ enclosed (fin false 13 (negsuc 1) ∷ fin true 8589936739483649 (negsuc 33) ∷ []) ∷ [])
    ≡ (accepted (one_cell (pos 2000000) (pos 13)) ∷ accepted (one_cell (pos 13) (pos 2000000)) ∷ refused 2 ∷ refused 2 ∷ [])
unfolding enclosed point_cell snapped placed is_on_map
next_to_edges = refl

-- vertices of the map's last cells, and of the ones before them, are exact: 500000 and 499999.75 metres, and as far to the west and south
exact_at_edges : enclosed (quarter (pos 2000000) ∷ quarter (negsuc 1999999) ∷ []) ∷ enclosed (quarter (negsuc 1999998) ∷ quarter (pos 1999999) ∷ []) ∷ []
    ≡ accepted (one_cell (pos 2000000) (negsuc 1999999)) ∷ accepted (one_cell (negsuc 1999998) (pos 1999999)) ∷ []
unfolding enclosed point_cell snapped over round placed is_on_map
exact_at_edges = refl

-- no point; half a point
none : enclosed [] ≡ refused 15
unfolding enclosed
none = refl

half : enclosed (nan ∷ []) ≡ refused 16
unfolding enclosed
half = refl

-- of one point a coordinate that is not finite comes first, of two points the first point
not_finite_first : enclosed (fin false 600000 (pos 0) ∷ inf true ∷ []) ≡ refused 14
unfolding enclosed point_cell snapped
not_finite_first = refl

off_map_first : enclosed (fin false 600000 (pos 0) ∷ fin false 0 (pos 0) ∷ nan ∷ nan ∷ []) ≡ refused 2
unfolding enclosed point_cell snapped placed is_on_map
off_map_first = refl

-- and of three the first that is refused: off the map before no number, no number before off the map
first_refused : (enclosed (fin true 11 (negsuc 1) ∷ fin false 7 (negsuc 0) ∷ fin false 600000 (pos 0) ∷ fin true 39 (negsuc 2) ∷ nan ∷ fin false 3 (pos 0) ∷ [])
    ∷ enclosed (fin true 11 (negsuc 1) ∷ fin false 7 (negsuc 0) ∷ nan ∷ fin false 3 (pos 0) ∷ fin false 600000 (pos 0) ∷ fin true 39 (negsuc 2) ∷ []) ∷ [])
    ≡ (refused 2 ∷ refused 14 ∷ [])
unfolding enclosed point_cell snapped placed is_on_map hull max_ℤ
first_refused = refl
