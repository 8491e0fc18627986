-- The count of an octagon with eight different sides and bounds: what `count_cells` answers, computed, and the number of cells,
-- by the theorem and by trying each cell of a small square; and counts past 32 bits, of the map and of nearly all of it. Assumes nothing.
use mathlib.Core.Path.{◌≡◌, refl, sym}
use native.Mathlib.Omega.{arith}
use lib.IntN.{pos, negsuc}
use Rattle.integers.specs.Minimum.{min_ℤ, half_ℤ}
use Rattle.octagon.specs.Octagon.{Octagon}
use Rattle.octagon.specs.Outcome.{accepted}
use Rattle.octagon.specs.Cells.{limit}
use Rattle.octagon.specs.NormalForm.{even_bound, odd_bound, tight_even, tight_odd, normal_form, has_cell, is_on_map, placed, normalised}
use Rattle.cell_count.specs.Count.{sum, one, at, row, count, inside}
use Rattle.cell_count.specs.Area.{triangle, rectangle, cuts, area, cell_count}
use Rattle.cell_count.proofs.Counted.{count_means}

-- start (2, -1), sides 4 2 7 3 8 1 5 6
abbrev uneven : Octagon
uneven = record { c0 = pos 1; c1 = pos 7; c2 = pos 8; c3 = pos 16; c4 = pos 11; c5 = pos 14; c6 = pos 4; c7 = negsuc 0 }

pub uneven_answer : cell_count uneven ≡ accepted 138
unfolding cell_count area rectangle cuts triangle normalised placed is_on_map has_cell normal_form tight_odd tight_even odd_bound even_bound min_ℤ half_ℤ
uneven_answer = refl

-- so this is the number of cells on the map
pub uneven_cells : count limit (inside uneven) ≡ 138
uneven_cells = sym ((count_means uneven 138 uneven_answer).cells limit (omega arith))

-- found too by trying each cell of a square that holds them
pub uneven_tried : count 12 (inside uneven) ≡ 138
unfolding count row sum one at inside
uneven_tried = refl

-- ---- past 32 bits

-- the map, and an octagon with eight different sides and bounds that lacks few of its cells
abbrev pub whole_map : Octagon
whole_map = record { c0 = pos 2000000; c1 = pos 4000000; c2 = pos 2000000; c3 = pos 4000000; c4 = pos 2000000; c5 = pos 4000000; c6 = pos 2000000; c7 = pos 4000000 }

abbrev pub nearly_all : Octagon
nearly_all = record { c0 = pos 1999999; c1 = pos 3999990; c2 = pos 2000000; c3 = pos 3999970; c4 = pos 1999998; c5 = pos 3999950; c6 = pos 1999997; c7 = pos 3999930 }

pub large_answers : (cell_count whole_map ≡ accepted 16000008000001) × (cell_count nearly_all ≡ accepted 15999983996307)
unfolding cell_count area rectangle cuts triangle normalised placed is_on_map has_cell normal_form tight_odd tight_even odd_bound even_bound min_ℤ half_ℤ
large_answers = (refl, refl)
