-- Spectra computed: one worked out by hand, in lists of each length from 0 to one past the last entry; one of operands whose bounds all
-- differ, by sets of cells; an opening that is filled; entries past 32 bits, and as many folds as the map is wide; and the refusals in
-- their order. Assumes nothing.
use mathlib.Core.Path.{◌≡◌, refl}
use mathlib.Core.Bool.{Bool, true, false}
use mathlib.Core.List.{List, [], ◌∷◌}
use Prim.Native.Nat.{ℕ}
use lib.IntN.{pos, negsuc}
use lib.ListN.{length}
use Rattle.integers.specs.Minimum.{min_ℤ, half_ℤ}
use Rattle.octagon.specs.Octagon.{Octagon}
use Rattle.octagon.specs.Outcome.{Outcome, accepted, refused}
use Rattle.octagon.specs.NormalForm.{even_bound, odd_bound, tight_even, tight_odd, normal_form, has_cell, is_on_map, placed, normalised}
use Rattle.octagon.specs.OneCell.{one_cell}
use Rattle.cell_count.specs.Count.{inside}
use Rattle.cell_count.specs.Area.{triangle, rectangle, cuts, area, cell_count}
use Rattle.cell_count.proofs.Examples.{whole_map, nearly_all}
use Rattle.morphology.specs.Operations.{sums, differences, is_rising, is_falling, are_opposed}
use Rattle.morphology.specs.Folds.{multiples, dilation_n, erosion_n}
use Rattle.morphology.proofs.ComputedFolds.{bounds}
use Rattle.records.specs.Parts.{splice}
use Rattle.spectrum.specs.Walks.{Walk, walk}
use Rattle.spectrum.specs.Answers.{ended}
use Rattle.spectrum.specs.Spectra.{frame_form, open_cells, spectrum, after_spectrum}

-- a walk of these entries, finished or spent, with as many trims
abbrev ends : Bool → List ℕ → Outcome Walk
ends t es = accepted (record { entries = es; trims = length es; is_finished = t })

-- ---- a plot of 45 cells, and a frame of five with (0, 0) in the middle of its lower row; rows from the top

--     #######      ##.
--     #######      ###
--     #######
--     #######
--     #######
--     ######.
--     .####..
abbrev plot : Octagon
plot = bounds (pos 0) (negsuc 0) (pos 1) (pos 7) (pos 6) (pos 11) (pos 5) (pos 4)

abbrev frame : Octagon
frame = bounds (pos 0) (pos 1) (pos 1) (pos 1) (pos 1) (pos 2) (pos 1) (pos 1)

-- 45 cells are open by no folds, 44 by one, 38 by two, 29 by three, none by four
pub by_hand : spectrum plot frame 0 ∷ spectrum plot frame 1 ∷ spectrum plot frame 2 ∷ spectrum plot frame 3 ∷ spectrum plot frame 4 ∷ spectrum plot frame 5 ∷ []
    ≡ ends false [] ∷ ends false (1 ∷ []) ∷ ends false (1 ∷ 6 ∷ []) ∷ ends false (1 ∷ 6 ∷ 9 ∷ []) ∷ ends true (1 ∷ 6 ∷ 9 ∷ 29 ∷ []) ∷ ends true (1 ∷ 6 ∷ 9 ∷ 29 ∷ []) ∷ []
unfolding spectrum walk frame_form open_cells dilation_n erosion_n cell_count area rectangle cuts triangle inside normalised normal_form tight_odd tight_even even_bound odd_bound min_ℤ half_ℤ has_cell placed is_on_map sums differences multiples are_opposed is_rising is_falling
by_hand = refl

-- what is endings_told of lists of three, four and five places, and by a frame of (0, 0) alone
pub endings_told : ended (spectrum plot frame 3) ∷ ended (spectrum plot frame 4) ∷ ended (spectrum plot frame 5) ∷ ended (spectrum plot (one_cell (pos 0) (pos 0)) 5) ∷ []
    ≡ accepted (record { trims = 3; is_finished = false }) ∷ accepted (record { trims = 4; is_finished = true }) ∷ accepted (record { trims = 4; is_finished = true }) ∷ refused 20 ∷ []
unfolding spectrum walk frame_form open_cells dilation_n erosion_n cell_count area rectangle cuts triangle inside normalised normal_form tight_odd tight_even even_bound odd_bound min_ℤ half_ℤ has_cell placed is_on_map sums differences multiples are_opposed is_rising is_falling
endings_told = refl

-- what is left in lists of two, four and six places
pub places_left : after_spectrum plot frame (91 ∷ 92 ∷ []) ∷ after_spectrum plot frame (91 ∷ 92 ∷ 93 ∷ 94 ∷ []) ∷ after_spectrum plot frame (91 ∷ 92 ∷ 93 ∷ 94 ∷ 95 ∷ 96 ∷ []) ∷ []
    ≡ (1 ∷ 6 ∷ []) ∷ (1 ∷ 6 ∷ 9 ∷ 29 ∷ []) ∷ (1 ∷ 6 ∷ 9 ∷ 29 ∷ 95 ∷ 96 ∷ []) ∷ []
unfolding after_spectrum splice spectrum walk frame_form open_cells dilation_n erosion_n cell_count area rectangle cuts triangle inside normalised normal_form tight_odd tight_even even_bound odd_bound min_ℤ half_ℤ has_cell placed is_on_map sums differences multiples are_opposed is_rising is_falling
places_left = refl

-- ---- a plot of 380 cells and a frame of 18: no two bounds of either are equal

pub all_bounds_differ :
    spectrum (bounds (negsuc 8) (negsuc 13) (pos 2) (pos 32) (pos 37) (pos 43) (pos 13) (pos 4)) (bounds (pos 3) (pos 4) (pos 1) (pos 7) (pos 6) (pos 5) (pos 0) (pos 2)) 5
    ≡ ends true (1 ∷ 34 ∷ 187 ∷ 158 ∷ [])
unfolding spectrum walk frame_form open_cells dilation_n erosion_n cell_count area rectangle cuts triangle inside normalised normal_form tight_odd tight_even even_bound odd_bound min_ℤ half_ℤ has_cell placed is_on_map sums differences multiples are_opposed is_rising is_falling
all_bounds_differ = refl

-- ---- the piece K13, about (0, 0), by K4: one fold opens four cells, and the octagon that holds them is the whole plot

abbrev k13 : Octagon
k13 = bounds (pos 1) (pos 1) (pos 1) (pos 1) (pos 1) (pos 1) (pos 1) (pos 1)

abbrev k4 : Octagon
k4 = bounds (pos 0) (pos 0) (pos 0) (pos 0) (pos 1) (pos 2) (pos 1) (pos 0)

pub filled_by_hand : spectrum k13 k4 0 ∷ spectrum k13 k4 1 ∷ spectrum k13 k4 2 ∷ spectrum k13 k4 3 ∷ []
    ≡ ends false [] ∷ ends false (0 ∷ []) ∷ ends true (0 ∷ 5 ∷ []) ∷ ends true (0 ∷ 5 ∷ []) ∷ []
unfolding spectrum walk frame_form open_cells dilation_n erosion_n cell_count area rectangle cuts triangle inside normalised normal_form tight_odd tight_even even_bound odd_bound min_ℤ half_ℤ has_cell placed is_on_map sums differences multiples are_opposed is_rising is_falling
filled_by_hand = refl

-- ---- as large as the map

-- nearly all of the map by the map, which fits nowhere, and the map by itself: it fits once, and all is lost by the second trim
pub past_32_bits : spectrum nearly_all whole_map 3 ∷ spectrum whole_map whole_map 3 ∷ [] ≡ ends true (15999983996307 ∷ []) ∷ ends true (0 ∷ 16000008000001 ∷ []) ∷ []
unfolding spectrum walk frame_form open_cells dilation_n erosion_n cell_count area rectangle cuts triangle inside normalised normal_form tight_odd tight_even even_bound odd_bound min_ℤ half_ℤ has_cell placed is_on_map sums differences multiples are_opposed is_rising is_falling
past_32_bits = refl

-- the map by (0, 0) and (1, 0): all its cells are open by 4,000,000 folds, and none by 4,000,001, which the limit allows
abbrev side_by_side : Octagon
side_by_side = bounds (pos 0) (pos 1) (pos 1) (pos 1) (pos 0) (pos 0) (pos 0) (pos 0)

pub last_fold : open_cells whole_map side_by_side 4000000 ∷ open_cells whole_map side_by_side 4000001 ∷ [] ≡ 16000008000001 ∷ 0 ∷ []
unfolding open_cells dilation_n erosion_n cell_count area rectangle cuts triangle normalised normal_form tight_odd tight_even even_bound odd_bound min_ℤ half_ℤ has_cell placed is_on_map sums differences multiples are_opposed is_rising is_falling
last_fold = refl

-- ---- refusals, each before those below it, also for a list of no place

-- no cell: the rows from 3 up to 2; off the map: one column too far east; no (0, 0): one cell beside it; (0, 0) alone, and so with slack bounds
abbrev empty : Octagon
empty = bounds (negsuc 2) (pos 40) (pos 30) (pos 50) (pos 2) (pos 20) (pos 10) (pos 60)

abbrev off : Octagon
off = bounds (pos 0) (pos 4000000) (pos 2000001) (pos 5000000) (pos 2) (pos 20) (pos 10) (pos 60)

abbrev beside : Octagon
beside = one_cell (pos 1) (pos 0)

abbrev alone : Octagon
alone = one_cell (pos 0) (pos 0)

abbrev slack_alone : Octagon
slack_alone = bounds (pos 0) (pos 7) (pos 3) (pos 0) (pos 4) (pos 5) (pos 0) (pos 2)

pub refusals_in_order :
    spectrum empty off 0 ∷ spectrum off empty 3 ∷ spectrum plot empty 0 ∷ spectrum plot off 3 ∷ spectrum off beside 3 ∷ spectrum empty alone 0 ∷ spectrum plot beside 0 ∷ spectrum plot alone 0 ∷ spectrum plot slack_alone 3 ∷ spectrum off alone 0 ∷ spectrum plot (one_cell (pos 2000001) (pos 0)) 3 ∷ []
    ≡ refused 1 ∷ refused 2 ∷ refused 1 ∷ refused 2 ∷ refused 2 ∷ refused 1 ∷ refused 19 ∷ refused 20 ∷ refused 20 ∷ refused 2 ∷ refused 2 ∷ []
unfolding spectrum walk frame_form open_cells dilation_n erosion_n cell_count area rectangle cuts triangle inside normalised normal_form tight_odd tight_even even_bound odd_bound min_ℤ half_ℤ has_cell placed is_on_map sums differences multiples are_opposed is_rising is_falling
refusals_in_order = refl

pub refused_leaves : after_spectrum plot alone (91 ∷ 92 ∷ []) ≡ 91 ∷ 92 ∷ []
unfolding after_spectrum spectrum frame_form area rectangle cuts triangle inside normalised normal_form tight_odd tight_even even_bound odd_bound min_ℤ half_ℤ has_cell placed is_on_map
refused_leaves = refl
