-- Small values of the definitions of specs/Calls.antt and specs/Outlines.antt, computed: bounds, sides, a start and a place in which no two
-- numbers are the same, so that none can stand in another's place; and slices of wrong lengths. Assumes nothing.
use mathlib.Core.Path.{◌≡◌, refl}
use mathlib.Core.Bool.{true, false}
use mathlib.Core.List.{List, [], ◌∷◌}
use Prim.Native.Nat.{ℕ}
use native.Mathlib.Omega.{arith}
use lib.IntN.{ℤ, pos, negsuc}
use lib.Ieee.{fin, round}
use Rattle.integers.specs.Minimum.{min_ℤ, half_ℤ}
use Rattle.octagon.specs.Octagon.{Octagon}
use Rattle.octagon.specs.Outcome.{Outcome, accepted, refused}
use Rattle.octagon.specs.NormalForm.{even_bound, odd_bound, tight_even, tight_odd, normal_form, sides, has_cell, is_on_map, placed, normalised}
use Rattle.cell_count.specs.Area.{triangle, rectangle, cuts, area, cell_count}
use Rattle.morphology.specs.Marks.{exact, filled}
use Rattle.morphology.specs.Operations.{sums, differences, is_rising, is_falling, are_opposed, dilation, erosion}
use Rattle.outline.specs.declared.Outline.{Outline}
use Rattle.outline.specs.declared.place.Place.{Place}
use Rattle.outline.specs.Closing.{closes}
use Rattle.outline.specs.Walk.{vertex}
use Rattle.outline.specs.Tracing.{bounds_at, drawn, traced}
use Rattle.outline.specs.Outlining.{outline_of, outlined}
use Rattle.outline.specs.Places.{over, place_of_vertex, located}
use Rattle.koxirmeta_c.specs.Calls.{wrong_length, fitted, status, Hands, is_eight, bounded, octagon_in, bounds_of, marked_parts, on_one, on_two, counted}
use Rattle.outline.specs.Walk.{sides_of}
use Rattle.koxirmeta_c.specs.Outlines.{is_pair, outline_in, holds_outline, start, outline_parts, metres_of, tracing, outlining, locating}

-- ---- slices, and what is in them

-- a plot of 174 cells, one of more than 2 ^ 32, a frame of 10, bounds of which two are slack, and bounds that hold no cell
abbrev pub plot_bounds : List ℤ
plot_bounds = pos 5 ∷ pos 4 ∷ pos 0 ∷ pos 10 ∷ pos 12 ∷ pos 19 ∷ pos 11 ∷ pos 9 ∷ []

abbrev pub county_bounds : List ℤ
county_bounds = negsuc 1654320 ∷ negsuc 2788884 ∷ negsuc 1114552 ∷ pos 629780 ∷ pos 1774346 ∷ pos 3018925 ∷ pos 1284588 ∷ negsuc 419753 ∷ []

abbrev frame_bounds : List ℤ
frame_bounds = negsuc 3 ∷ negsuc 0 ∷ pos 5 ∷ pos 11 ∷ pos 7 ∷ pos 4 ∷ negsuc 1 ∷ negsuc 6 ∷ []

abbrev slack_bounds : List ℤ
slack_bounds = pos 5 ∷ pos 4 ∷ pos 0 ∷ pos 10 ∷ pos 40 ∷ pos 27 ∷ pos 11 ∷ pos 20 ∷ []

abbrev pub crossing_bounds : List ℤ
crossing_bounds = pos 6 ∷ pos 2 ∷ pos 7 ∷ pos 5 ∷ pos 8 ∷ negsuc 1 ∷ pos 9 ∷ negsuc 4 ∷ []

abbrev pub seven_bounds : List ℤ
seven_bounds = pos 5 ∷ pos 4 ∷ pos 0 ∷ pos 10 ∷ pos 12 ∷ pos 19 ∷ pos 11 ∷ []

abbrev nine_bounds : List ℤ
nine_bounds = pos 5 ∷ pos 4 ∷ pos 0 ∷ pos 10 ∷ pos 12 ∷ pos 19 ∷ pos 11 ∷ pos 9 ∷ pos 8 ∷ []

-- the cells (2, 3), (3, 4) and (4, 5), and the cells (1, 7) and (2, 6): opposed rows
abbrev rising_bounds : List ℤ
rising_bounds = negsuc 2 ∷ negsuc 0 ∷ pos 4 ∷ pos 9 ∷ pos 5 ∷ pos 1 ∷ negsuc 1 ∷ negsuc 4 ∷ []

abbrev falling_bounds : List ℤ
falling_bounds = negsuc 5 ∷ negsuc 3 ∷ pos 2 ∷ pos 8 ∷ pos 7 ∷ pos 6 ∷ negsuc 0 ∷ negsuc 7 ∷ []

-- the plot, and the one cell at the origin
abbrev plot_octagon : Octagon
plot_octagon = record { c0 = pos 5; c1 = pos 4; c2 = pos 0; c3 = pos 10; c4 = pos 12; c5 = pos 19; c6 = pos 11; c7 = pos 9 }

abbrev origin : Octagon
origin = record { c0 = pos 0; c1 = pos 0; c2 = pos 0; c3 = pos 0; c4 = pos 0; c5 = pos 0; c6 = pos 0; c7 = pos 0 }

-- the start and the sides of the plot, one number of a start, seven sides, and the outline
abbrev pub plot_start : List ℤ
plot_start = negsuc 3 ∷ negsuc 4 ∷ []

abbrev pub plot_sides : List ℕ
plot_sides = 3 ∷ 1 ∷ 14 ∷ 2 ∷ 5 ∷ 4 ∷ 6 ∷ 7 ∷ []

abbrev pub one_number : List ℤ
one_number = negsuc 3 ∷ []

abbrev pub seven_sides : List ℕ
seven_sides = 3 ∷ 1 ∷ 14 ∷ 2 ∷ 5 ∷ 4 ∷ 6 ∷ []

abbrev pub plot_outline : Outline
plot_outline = record { i = negsuc 3; j = negsuc 4; n0 = 3; n1 = 1; n2 = 14; n3 = 2; n4 = 5; n5 = 4; n6 = 6; n7 = 7 }

-- vertex 6 of the plot, the cell (-11, 8): -2.75 east and 2 north
abbrev vertex_6 : Place
vertex_6 = record { east = fin true 11 (negsuc 1); north = fin false 1 (pos 1) }

-- ---- the number that a call answers, and what it leaves

-- an accepted call, and a refused one
abbrev gives_7 : Outcome ℕ
gives_7 = accepted 7

abbrev refuses_5 : Outcome ℕ
refuses_5 = refused 5

pub numbers : (wrong_length ∷ status gives_7 ∷ status refuses_5 ∷ []) ≡ (255 ∷ 0 ∷ 5 ∷ [])
unfolding status
numbers = refl

pub fittings : (fitted true gives_7 ∷ fitted true refuses_5 ∷ fitted false gives_7 ∷ fitted false refuses_5 ∷ [])
    ≡ (gives_7 ∷ refuses_5 ∷ refused 255 ∷ refused 255 ∷ [])
unfolding fitted
fittings = refl

-- lent the number 3, an accepted call makes it 7, and a refused one leaves it
pub hands : Hands gives_7 (λ n. n) 3 7 0 × Hands refuses_5 (λ n. n) 3 3 5
unfolding status
hands = (record { answers = refl; leaves = refl }, record { answers = refl; leaves = refl })

pub hands_nothing_else : ¬ (Hands gives_7 (λ n. n) 3 3 0) × ¬ (Hands refuses_5 (λ n. n) 3 7 5)
hands_nothing_else = ((λ h. omega (arith, h.leaves)), (λ h. omega (arith, h.leaves)))

-- ---- octagons in slices

pub lengths : (is_eight seven_bounds ∷ is_eight plot_bounds ∷ is_eight nine_bounds ∷ is_pair one_number ∷ is_pair plot_start ∷ is_pair plot_sides
    ∷ holds_outline plot_start plot_sides ∷ holds_outline one_number plot_sides ∷ holds_outline plot_start seven_sides ∷ [])
    ≡ (false ∷ true ∷ false ∷ false ∷ true ∷ false ∷ true ∷ false ∷ false ∷ [])
lengths = refl

pub octagons : (bounded plot_bounds ∷ bounded plot_start ∷ octagon_in plot_bounds ∷ octagon_in seven_bounds ∷ octagon_in nine_bounds ∷ [])
    ≡ (plot_octagon ∷ record { c0 = negsuc 3; c1 = negsuc 4; c2 = pos 0; c3 = pos 0; c4 = pos 0; c5 = pos 0; c6 = pos 0; c7 = pos 0 }
    ∷ plot_octagon ∷ origin ∷ origin ∷ [])
unfolding octagon_in
octagons = refl

pub bounds : bounds_of plot_octagon ≡ plot_bounds
unfolding bounds_of
bounds = refl

-- the normal form and the erosion, which has other bounds than the differences and refuses its operands the other way round
pub operations : (on_one normalised slack_bounds plot_bounds ∷ on_one normalised seven_bounds plot_bounds ∷ on_one normalised slack_bounds seven_bounds
    ∷ on_two erosion plot_bounds frame_bounds plot_bounds ∷ on_two erosion frame_bounds plot_bounds plot_bounds
    ∷ on_two erosion seven_bounds frame_bounds plot_bounds ∷ on_two erosion plot_bounds nine_bounds plot_bounds ∷ on_two erosion plot_bounds frame_bounds seven_bounds ∷ [])
    ≡ (accepted (record { c0 = pos 5; c1 = pos 4; c2 = pos 0; c3 = pos 10; c4 = pos 18; c5 = pos 27; c6 = pos 11; c7 = pos 16 }) ∷ refused 255 ∷ refused 255
    ∷ accepted (record { c0 = pos 9; c1 = pos 4; c2 = negsuc 4; c3 = negsuc 0; c4 = pos 5; c5 = pos 15; c6 = pos 13; c7 = pos 16 }) ∷ refused 5
    ∷ refused 255 ∷ refused 255 ∷ refused 255 ∷ [])
unfolding fitted octagon_in normalised normal_form tight_odd tight_even even_bound odd_bound min_ℤ half_ℤ has_cell placed is_on_map erosion differences
operations = refl

-- an octagon with its mark, and the dilation: filled for opposed rows, exact for others
pub marks : (marked_parts (exact plot_octagon) ∷ marked_parts (filled plot_octagon) ∷ []) ≡ ((plot_bounds, 0) ∷ (plot_bounds, 1) ∷ [])
unfolding bounds_of
marks = refl

pub spreads : (on_two dilation rising_bounds falling_bounds plot_bounds ∷ on_two dilation rising_bounds frame_bounds plot_bounds
    ∷ on_two dilation rising_bounds falling_bounds seven_bounds ∷ [])
    ≡ (accepted (filled (record { c0 = negsuc 8; c1 = negsuc 4; c2 = pos 6; c3 = pos 17; c4 = pos 12; c5 = pos 7; c6 = negsuc 2; c7 = negsuc 12 }))
    ∷ accepted (exact (record { c0 = negsuc 6; c1 = negsuc 1; c2 = pos 9; c3 = pos 20; c4 = pos 12; c5 = pos 5; c6 = negsuc 3; c7 = negsuc 11 })) ∷ refused 255 ∷ [])
unfolding fitted octagon_in normalised normal_form tight_odd tight_even even_bound odd_bound min_ℤ half_ℤ has_cell placed is_on_map dilation sums are_opposed is_rising is_falling
spreads = refl

pub counts : (counted plot_bounds ∷ counted county_bounds ∷ counted crossing_bounds ∷ counted seven_bounds ∷ [])
    ≡ (accepted 174 ∷ accepted 17706650503 ∷ refused 1 ∷ refused 255 ∷ [])
unfolding fitted octagon_in normalised normal_form tight_odd tight_even even_bound odd_bound min_ℤ half_ℤ has_cell placed is_on_map cell_count area rectangle cuts triangle
counts = refl

-- ---- outlines and places in slices

pub outlines : (outline_in plot_start plot_sides ≡ plot_outline) × (start (negsuc 3) (negsuc 4) ≡ plot_start) × (sides_of plot_outline ≡ plot_sides)
    × (outline_parts plot_outline ≡ (plot_start, plot_sides)) × (metres_of vertex_6 ≡ fin true 11 (negsuc 1) ∷ fin false 1 (pos 1) ∷ [])
unfolding outline_in start metres_of
outlines = (refl, refl, refl, refl, refl)

-- to the octagon: also the outline with its first side one longer, and each slice of a wrong length
pub tracings : (tracing plot_start plot_sides plot_bounds ∷ tracing plot_start (4 ∷ 1 ∷ 14 ∷ 2 ∷ 5 ∷ 4 ∷ 6 ∷ 7 ∷ []) plot_bounds
    ∷ tracing one_number plot_sides plot_bounds ∷ tracing plot_start seven_sides plot_bounds ∷ tracing plot_start plot_sides seven_bounds ∷ [])
    ≡ (accepted plot_octagon ∷ refused 3 ∷ refused 255 ∷ refused 255 ∷ refused 255 ∷ [])
unfolding fitted outline_in traced closes placed is_on_map drawn bounds_at vertex
tracings = refl

-- and back
pub outlinings : (outlining plot_bounds plot_start plot_sides ∷ outlining crossing_bounds plot_start plot_sides
    ∷ outlining seven_bounds plot_start plot_sides ∷ outlining plot_bounds one_number plot_sides ∷ outlining plot_bounds plot_start seven_sides ∷ [])
    ≡ (accepted plot_outline ∷ refused 1 ∷ refused 255 ∷ refused 255 ∷ refused 255 ∷ [])
unfolding fitted octagon_in outlined normalised normal_form tight_odd tight_even even_bound odd_bound min_ℤ half_ℤ has_cell placed is_on_map outline_of sides
outlinings = refl

pub locatings : (locating plot_bounds 6 (vertex_6.east ∷ vertex_6.north ∷ []) ∷ locating plot_bounds 8 (vertex_6.east ∷ vertex_6.north ∷ [])
    ∷ locating seven_bounds 6 (vertex_6.east ∷ vertex_6.north ∷ []) ∷ locating plot_bounds 6 (vertex_6.east ∷ []) ∷ [])
    ≡ (accepted vertex_6 ∷ refused 7 ∷ refused 255 ∷ refused 255 ∷ [])
unfolding fitted octagon_in located place_of_vertex over round vertex outlined normalised normal_form tight_odd tight_even even_bound odd_bound min_ℤ half_ℤ has_cell placed is_on_map outline_of sides
locatings = refl
