-- Small values of specs/Spectra.antt, computed: what is answered, handed over and left for a list that is spent, one of just the places, one
-- that has places to spare, an entry past 32 bits, each refusal, and slices of the wrong lengths. Assumes nothing.
use mathlib.Core.Path.{◌≡◌, refl}
use mathlib.Core.List.{List, [], ◌∷◌}
use Prim.Native.Nat.{ℕ}
use lib.IntN.{ℤ, pos, negsuc}
use Rattle.integers.specs.Minimum.{min_ℤ, half_ℤ}
use Rattle.octagon.specs.Outcome.{left}
use Rattle.octagon.specs.NormalForm.{even_bound, odd_bound, tight_even, tight_odd, normal_form, has_cell, is_on_map, placed, normalised}
use Rattle.cell_count.specs.Count.{inside}
use Rattle.cell_count.specs.Area.{triangle, rectangle, cuts, area, cell_count}
use Rattle.morphology.specs.Operations.{sums, differences, is_rising, is_falling, are_opposed}
use Rattle.morphology.specs.Folds.{multiples, dilation_n, erosion_n}
use Rattle.records.specs.Parts.{splice}
use Rattle.spectrum.specs.Walks.{walk}
use Rattle.spectrum.specs.Spectra.{frame_form, open_cells, spectrum, after_spectrum}
use Rattle.koxirmeta_c.specs.Calls.{fitted, status, octagon_in}
use Rattle.koxirmeta_c.specs.Spectra.{ending_parts, breaking_up, after_breaking_up}
use Rattle.koxirmeta_c.proofs.Examples.{county_bounds, seven_bounds}

-- a plot of 380 cells and a frame of 18, of which no two bounds are equal: 1, 34, 187 and 158 cells are lost. The plot lacks the cell (0, 0),
-- and `alone` has no other
abbrev plot : List ℤ
plot = negsuc 8 ∷ negsuc 13 ∷ pos 2 ∷ pos 32 ∷ pos 37 ∷ pos 43 ∷ pos 13 ∷ pos 4 ∷ []

abbrev frame : List ℤ
frame = pos 3 ∷ pos 4 ∷ pos 1 ∷ pos 7 ∷ pos 6 ∷ pos 5 ∷ pos 0 ∷ pos 2 ∷ []

abbrev alone : List ℤ
alone = pos 0 ∷ pos 0 ∷ pos 0 ∷ pos 0 ∷ pos 0 ∷ pos 0 ∷ pos 0 ∷ pos 0 ∷ []

-- nearly all of the map, which fits nowhere in the plot of more than 2 ^ 32 cells: one trim loses them all
abbrev large_frame : List ℤ
large_frame = pos 1999999 ∷ pos 3999990 ∷ pos 2000000 ∷ pos 3999970 ∷ pos 1999998 ∷ pos 3999950 ∷ pos 1999997 ∷ pos 3999930 ∷ []

-- what is answered, the trims and the ending, which were 71 and 72, and the list
abbrev told : List ℤ → List ℤ → List ℕ → List ℕ
told p f l =
    let o = breaking_up p f l in
    let e = left (71, 72) o ending_parts in
    status o ∷ e.0 ∷ e.1 ∷ after_breaking_up p f l

pub spectra :
    told plot frame (81 ∷ 82 ∷ 83 ∷ []) ∷ told plot frame (81 ∷ 82 ∷ 83 ∷ 84 ∷ []) ∷ told plot frame (81 ∷ 82 ∷ 83 ∷ 84 ∷ 85 ∷ []) ∷ told county_bounds large_frame (81 ∷ 82 ∷ []) ∷ told frame plot (81 ∷ 82 ∷ []) ∷ told plot alone (81 ∷ 82 ∷ []) ∷ told seven_bounds frame (81 ∷ []) ∷ told plot seven_bounds (81 ∷ []) ∷ []
    ≡ (0 ∷ 3 ∷ 0 ∷ 1 ∷ 34 ∷ 187 ∷ []) ∷ (0 ∷ 4 ∷ 1 ∷ 1 ∷ 34 ∷ 187 ∷ 158 ∷ []) ∷ (0 ∷ 4 ∷ 1 ∷ 1 ∷ 34 ∷ 187 ∷ 158 ∷ 85 ∷ []) ∷ (0 ∷ 1 ∷ 1 ∷ 17706650503 ∷ 82 ∷ []) ∷ (19 ∷ 71 ∷ 72 ∷ 81 ∷ 82 ∷ []) ∷ (20 ∷ 71 ∷ 72 ∷ 81 ∷ 82 ∷ []) ∷ (255 ∷ 71 ∷ 72 ∷ 81 ∷ []) ∷ (255 ∷ 71 ∷ 72 ∷ 81 ∷ []) ∷ []
unfolding fitted status octagon_in after_spectrum splice spectrum walk frame_form open_cells dilation_n erosion_n cell_count area rectangle cuts triangle inside normalised normal_form tight_odd tight_even even_bound odd_bound min_ℤ half_ℤ has_cell placed is_on_map sums differences multiples are_opposed is_rising is_falling
spectra = refl
