-- Values of the definitions, computed: an outline whose eight sides differ, its octagon, its vertices in metres, and refusals; the same at
-- the map's edges and on smaller maps; and outlines compared. Assumes nothing.
use mathlib.Core.Path.{◌≡◌, refl}
use mathlib.Core.Bool.{true, false}
use mathlib.Core.List.{List, [], ◌∷◌, ◌++◌, map}
use Prim.Native.Nat.{ℕ}
use lib.IntN.{pos, negsuc}
use lib.Ieee.{fin, round}
use lib.ListN.{set, replicate}
use Rattle.integers.specs.Minimum.{min_ℤ, half_ℤ}
use Rattle.octagon.specs.Octagon.{Octagon}
use Rattle.octagon.specs.Outcome.{accepted, refused}
use Rattle.octagon.specs.NormalForm.{even_bound, odd_bound, tight_even, tight_odd, normal_form, sides, has_cell, is_on_map, placed, normalised}
use Rattle.octagon.proofs.Examples.{touching, at_south, at_east, at_north, at_west, at_edges, past_edges}
use Rattle.outline.specs.declared.Outline.{Outline}
use Rattle.outline.specs.Closing.{closes}
use Rattle.outline.specs.Walk.{with_sides, vertex}
use Rattle.outline.specs.Tracing.{bounds_at, drawn, traced, traced_in}
use Rattle.outline.specs.Outlining.{outline_of, outlined}
use Rattle.outline.specs.Places.{over, place_of_vertex, located}
use Rattle.outline.specs.Sameness.{same_outline}

-- the outline from (-4, -5) with the sides 3 1 14 2 5 4 6 7, and its bounds
abbrev uneven : Outline
uneven = with_sides (negsuc 3) (negsuc 4) (3 ∷ 1 ∷ 14 ∷ 2 ∷ 5 ∷ 4 ∷ 6 ∷ 7 ∷ [])

abbrev its_bounds : Octagon
its_bounds = record { c0 = pos 5; c1 = pos 4; c2 = pos 0; c3 = pos 10; c4 = pos 12; c5 = pos 19; c6 = pos 11; c7 = pos 9 }

there : traced uneven ≡ accepted its_bounds
unfolding traced closes placed is_on_map drawn bounds_at vertex
there = refl

back : outlined its_bounds ≡ accepted uneven
unfolding outlined normalised normal_form tight_odd tight_even even_bound odd_bound min_ℤ half_ℤ has_cell placed is_on_map outline_of sides
back = refl

-- with its first side one longer it does not close
one_longer : traced (with_sides (negsuc 3) (negsuc 4) (4 ∷ 1 ∷ 14 ∷ 2 ∷ 5 ∷ 4 ∷ 6 ∷ 7 ∷ [])) ≡ refused 3
unfolding traced closes
one_longer = refl

-- lengths whose sums wrap 32 bits close, and leave the map
long : traced (with_sides (negsuc 3) (negsuc 4) (4294967295 ∷ 0 ∷ 4294967294 ∷ 0 ∷ 4294967295 ∷ 0 ∷ 4294967294 ∷ 0 ∷ [])) ≡ refused 2
unfolding traced closes placed is_on_map drawn bounds_at vertex
long = refl

-- vertex 2 is the cell (0, -4): 0 east, with a positive zero, and -1 north
vertex_2 : located its_bounds 2 ≡ accepted (record { east = fin false 0 (pos 0); north = fin true 1 (pos 0) })
unfolding located place_of_vertex over round vertex outlined normalised normal_form tight_odd tight_even even_bound odd_bound min_ℤ half_ℤ has_cell placed is_on_map outline_of sides
vertex_2 = refl

-- vertex 6 is the cell (-11, 8): -2.75 east and 2 north
vertex_6 : located its_bounds 6 ≡ accepted (record { east = fin true 11 (negsuc 1); north = fin false 1 (pos 1) })
unfolding located place_of_vertex over round vertex outlined normalised normal_form tight_odd tight_even even_bound odd_bound min_ℤ half_ℤ has_cell placed is_on_map outline_of sides
vertex_6 = refl

-- vertex 7, the last, is the cell (-11, 2): -2.75 east and 0.5 north
vertex_7 : located its_bounds 7 ≡ accepted (record { east = fin true 11 (negsuc 1); north = fin false 1 (negsuc 0) })
unfolding located place_of_vertex over round vertex outlined normalised normal_form tight_odd tight_even even_bound odd_bound min_ℤ half_ℤ has_cell placed is_on_map outline_of sides
vertex_7 = refl

-- there is no vertex 8
vertex_8 : located its_bounds 8 ≡ refused 7
unfolding located place_of_vertex outlined normalised normal_form tight_odd tight_even even_bound odd_bound min_ℤ half_ℤ has_cell placed is_on_map outline_of sides
vertex_8 = refl

-- ---- at the map's edges

-- outlines with those sides whose octagons touch the map's south, east, north and west edge, and one step past it
abbrev its_sides : List ℕ
its_sides = 3 ∷ 1 ∷ 14 ∷ 2 ∷ 5 ∷ 4 ∷ 6 ∷ 7 ∷ []

pub traced_at_edges :
    (map traced (with_sides (pos 9) (negsuc 1999999) its_sides ∷ with_sides (pos 1999996) (negsuc 8) its_sides ∷ with_sides (pos 8) (pos 1999983) its_sides ∷ with_sides (negsuc 1999992) (negsuc 7) its_sides ∷ [])
    ≡ map accepted at_edges)
    × (map traced (with_sides (pos 9) (negsuc 2000000) its_sides ∷ with_sides (pos 1999997) (negsuc 8) its_sides ∷ with_sides (pos 8) (pos 1999984) its_sides ∷ with_sides (negsuc 1999993) (negsuc 7) its_sides ∷ [])
    ≡ replicate 4 (refused 2))
unfolding traced closes placed is_on_map drawn bounds_at vertex
traced_at_edges = (refl, refl)

-- their vertices in metres: (9, -2000000), (2000000, -8), (10, 2000000) and (-2000000, 5), which lie on the edges, and (1999999, -9) beside
-- one; one step past the edges there are none
pub located_at_edges :
    (located at_south 0 ∷ located at_east 2 ∷ located at_north 4 ∷ located at_west 6 ∷ located at_east 1 ∷ []
    ≡ accepted (record { east = fin false 9 (negsuc 1); north = fin true 15625 (pos 5) })
    ∷ accepted (record { east = fin false 15625 (pos 5); north = fin true 1 (pos 1) })
    ∷ accepted (record { east = fin false 5 (negsuc 0); north = fin false 15625 (pos 5) })
    ∷ accepted (record { east = fin true 15625 (pos 5); north = fin false 5 (negsuc 1) })
    ∷ accepted (record { east = fin false 1999999 (negsuc 1); north = fin true 9 (negsuc 1) }) ∷ [])
    × (map (λ c. located c 2) past_edges ≡ replicate 4 (refused 2))
unfolding located place_of_vertex over round vertex outlined normalised normal_form tight_odd tight_even even_bound odd_bound min_ℤ half_ℤ has_cell placed is_on_map outline_of sides
located_at_edges = (refl, refl)

-- ---- on a smaller map

-- the same sides from the starts (9, -17), (13, -9), (8, 0) and (-10, -8): 17 cells from the middle to the south, east, north and west
abbrev starting : List ℕ → List Outline
starting n = with_sides (pos 9) (negsuc 16) n ∷ with_sides (pos 13) (negsuc 8) n ∷ with_sides (pos 8) (pos 0) n ∷ with_sides (negsuc 9) (negsuc 7) n ∷ []

-- their octagons on the map from -17 to 17, and 2 on that from -16 to 16; and 3 there with the first side one longer
on_smaller : (map (traced_in 17) (starting (3 ∷ 1 ∷ 14 ∷ 2 ∷ 5 ∷ 4 ∷ 6 ∷ 7 ∷ [])) ≡ map accepted touching)
    × (map (traced_in 16) (starting (3 ∷ 1 ∷ 14 ∷ 2 ∷ 5 ∷ 4 ∷ 6 ∷ 7 ∷ [])) ≡ replicate 4 (refused 2))
    × (map (traced_in 16) (starting (4 ∷ 1 ∷ 14 ∷ 2 ∷ 5 ∷ 4 ∷ 6 ∷ 7 ∷ [])) ≡ replicate 4 (refused 3))
unfolding traced_in traced closes placed is_on_map drawn bounds_at vertex
on_smaller = (refl, refl, refl)

-- ---- outlines compared

abbrev ten_sides : List ℕ
ten_sides = 3 ∷ 1 ∷ 14 ∷ 2 ∷ 8 ∷ 4 ∷ 6 ∷ 7 ∷ []

-- from (5, -9): all ten numbers differ
abbrev ten : Outline
ten = with_sides (pos 5) (negsuc 8) ten_sides

-- with one number altered, i to -5 and to -6 and j to 9 and to 8; with i and j exchanged, and with two sides exchanged
abbrev unlike : List Outline
unlike =
    with_sides (negsuc 4) (negsuc 8) ten_sides ∷ with_sides (negsuc 5) (negsuc 8) ten_sides ∷
    with_sides (pos 5) (pos 9) ten_sides ∷ with_sides (pos 5) (pos 8) ten_sides ∷ with_sides (negsuc 8) (pos 5) ten_sides ∷
    (map (λ k. with_sides (pos 5) (negsuc 8) (set ten_sides k 9)) (0 ∷ 1 ∷ 2 ∷ 3 ∷ 4 ∷ 5 ∷ 6 ∷ 7 ∷ []) ++
    map (with_sides (pos 5) (negsuc 8)) ((1 ∷ 3 ∷ 14 ∷ 2 ∷ 8 ∷ 4 ∷ 6 ∷ 7 ∷ []) ∷ (3 ∷ 1 ∷ 14 ∷ 2 ∷ 8 ∷ 4 ∷ 7 ∷ 6 ∷ []) ∷ []))

-- each of two outlines is itself, and the one is neither the other nor any of those
compared : map (λ o. same_outline o o) (ten ∷ uneven ∷ []) ++ map (same_outline ten) (uneven ∷ unlike) ≡ true ∷ true ∷ replicate 16 false
unfolding same_outline
compared = refl
