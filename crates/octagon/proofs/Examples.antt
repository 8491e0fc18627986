-- Computed: bounds that meet two by two and hold no cell, the shortcut that document 01 warns of (x - y is 2 and x + y is 5); and octagons
-- at each edge of a square and of the map. Assumes nothing.
use mathlib.Core.Path.{◌≡◌, refl}
use mathlib.Core.Bool.{true, false}
use mathlib.Core.List.{List, [], ◌∷◌, map}
use lib.IntN.{pos, negsuc}
use lib.ListN.{replicate}
use Rattle.integers.specs.Minimum.{min_ℤ, half_ℤ}
use Rattle.octagon.specs.Octagon.{Octagon}
use Rattle.octagon.specs.Outcome.{accepted, refused, no_cell, off_map}
use Rattle.octagon.specs.NormalForm.{even_bound, odd_bound, tight_even, tight_odd, normal_form, is_within, has_cell, is_on_map, placed, normalised}

abbrev crossing : Octagon
crossing = record { c0 = pos 6; c1 = pos 2; c2 = pos 7; c3 = pos 5; c4 = pos 8; c5 = negsuc 1; c6 = pos 9; c7 = negsuc 4 }

-- its bounds meet two by two
pub pairs_meet : has_cell crossing ≡ true
unfolding has_cell
pairs_meet = refl

-- and it has no cell
pub no_cell_there : normalised crossing ≡ refused no_cell
unfolding normalised normal_form tight_odd tight_even even_bound odd_bound has_cell min_ℤ half_ℤ
no_cell_there = refl

-- ---- squares

-- one shape in four places, which reaches 17 to the south, to the east, to the north and to the west, and less far elsewhere
abbrev pub touching : List Octagon
touching =
    record { c0 = pos 17; c1 = pos 29; c2 = pos 13; c3 = pos 11; c4 = pos 0; c5 = negsuc 5; c6 = negsuc 1; c7 = pos 8 } ∷
    record { c0 = pos 9; c1 = pos 25; c2 = pos 17; c3 = pos 23; c4 = pos 8; c5 = negsuc 1; c6 = negsuc 5; c7 = negsuc 3 } ∷
    record { c0 = pos 0; c1 = pos 11; c2 = pos 12; c3 = pos 27; c4 = pos 17; c5 = pos 12; c6 = negsuc 0; c7 = negsuc 7 } ∷
    record { c0 = pos 8; c1 = pos 1; c2 = negsuc 5; c3 = pos 1; c4 = pos 9; c5 = pos 22; c6 = pos 17; c7 = pos 18 } ∷ []

-- each is within the square from -17 to 17, and none within that from -16 to 16
pub to_the_edge : (map (is_within 17) touching ≡ true ∷ true ∷ true ∷ true ∷ []) × (map (is_within 16) touching ≡ false ∷ false ∷ false ∷ false ∷ [])
to_the_edge = (refl, refl)

-- ---- the map

-- those shapes, moved to the map's south, east, north and west edge
abbrev pub at_south : Octagon
at_south = record { c0 = pos 2000000; c1 = pos 2000012; c2 = pos 13; c3 = negsuc 1999971; c4 = negsuc 1999982; c5 = negsuc 1999988; c6 = negsuc 1; c7 = pos 1999991 }

abbrev pub at_east : Octagon
at_east = record { c0 = pos 9; c1 = pos 2000008; c2 = pos 2000000; c3 = pos 2000006; c4 = pos 8; c5 = negsuc 1999984; c6 = negsuc 1999988; c7 = negsuc 1999986 }

abbrev pub at_north : Octagon
at_north = record { c0 = negsuc 1999982; c1 = negsuc 1999971; c2 = pos 12; c3 = pos 2000010; c4 = pos 2000000; c5 = pos 1999995; c6 = negsuc 0; c7 = negsuc 1999990 }

abbrev pub at_west : Octagon
at_west = record { c0 = pos 8; c1 = negsuc 1999981; c2 = negsuc 1999988; c3 = negsuc 1999981; c4 = pos 9; c5 = pos 2000005; c6 = pos 2000000; c7 = pos 2000001 }

abbrev pub at_edges : List Octagon
at_edges = at_south ∷ at_east ∷ at_north ∷ at_west ∷ []

-- and one step past it
abbrev pub past_edges : List Octagon
past_edges =
    record { c0 = pos 2000001; c1 = pos 2000013; c2 = pos 13; c3 = negsuc 1999972; c4 = negsuc 1999983; c5 = negsuc 1999989; c6 = negsuc 1; c7 = pos 1999992 } ∷
    record { c0 = pos 9; c1 = pos 2000009; c2 = pos 2000001; c3 = pos 2000007; c4 = pos 8; c5 = negsuc 1999985; c6 = negsuc 1999989; c7 = negsuc 1999987 } ∷
    record { c0 = negsuc 1999983; c1 = negsuc 1999972; c2 = pos 12; c3 = pos 2000011; c4 = pos 2000001; c5 = pos 1999996; c6 = negsuc 0; c7 = negsuc 1999991 } ∷
    record { c0 = pos 8; c1 = negsuc 1999982; c2 = negsuc 1999989; c3 = negsuc 1999982; c4 = pos 9; c5 = pos 2000006; c6 = pos 2000001; c7 = pos 2000002 } ∷ []

-- at its edges they are answered as they are, and past them refused with 2
pub to_map_edges : (map normalised at_edges ≡ map accepted at_edges) × (map normalised past_edges ≡ replicate 4 (refused off_map))
unfolding normalised normal_form tight_odd tight_even even_bound odd_bound min_ℤ half_ℤ has_cell placed is_on_map
to_map_edges = (refl, refl)
