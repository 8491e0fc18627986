-- Openings by one element spread with another (document 02's U8) and by more folds, computed: a plot and two elements of eight different
-- bounds each, rows, a filled element, and what the laws ask for, where it does not hold. The numbers were worked out from sets of cells.
-- Assumes nothing.
use mathlib.Core.Path.{◌≡◌, refl}
use mathlib.Core.List.{[], ◌∷◌}
use lib.IntN.{pos, negsuc}
use Rattle.integers.specs.Minimum.{min_ℤ, half_ℤ}
use Rattle.octagon.specs.Octagon.{Octagon}
use Rattle.octagon.specs.Outcome.{accepted, refused, off_map}
use Rattle.octagon.specs.NormalForm.{even_bound, odd_bound, tight_even, tight_odd, normal_form, has_cell, is_on_map, placed, normalised}
use Rattle.cell_count.specs.Area.{triangle, rectangle, cuts, area, cell_count}
use Rattle.morphology.specs.Marks.{exact, filled}
use Rattle.morphology.specs.Operations.{sums, differences, nothing_left, is_rising, is_falling, are_opposed, dilation, erosion, opened}
use Rattle.morphology.specs.Folds.{multiples, dilation_n, erosion_n}
use Rattle.morphology.specs.Premises.{opening_by_both, opened_n}
use Rattle.morphology.proofs.ComputedFolds.{bounds, rising_row, falling_row, at_edge, upright}

-- a plot of 174 cells, an element of three and one of twelve, and the one spread with the other, of eighteen
abbrev plot : Octagon
plot = bounds (pos 5) (pos 4) (pos 0) (pos 10) (pos 12) (pos 19) (pos 11) (pos 9)

abbrev element : Octagon
element = bounds (pos 6) (negsuc 0) (negsuc 4) (negsuc 8) (negsuc 3) (pos 1) (pos 7) (pos 13)

abbrev another : Octagon
another = bounds (negsuc 3) (negsuc 9) (negsuc 2) (pos 5) (pos 8) (pos 12) (pos 7) (pos 2)

abbrev both : Octagon
both = bounds (pos 2) (negsuc 10) (negsuc 7) (negsuc 3) (pos 4) (pos 13) (pos 14) (pos 15)

-- what each opens
abbrev by_element : Octagon
by_element = bounds (pos 5) (pos 3) (pos 0) (pos 10) (pos 12) (pos 19) (pos 11) (pos 9)

abbrev by_another : Octagon
by_another = bounds (pos 5) (pos 2) (pos 0) (pos 10) (pos 12) (pos 19) (pos 11) (pos 9)

abbrev by_both : Octagon
by_both = bounds (pos 4) (negsuc 0) (pos 0) (pos 10) (pos 12) (pos 18) (pos 11) (pos 9)

pub opened_by_more : dilation element another ∷ opened plot element ∷ opened plot another ∷ opened plot both ∷ opening_by_both plot element another ∷ []
    ≡ accepted (exact both) ∷ accepted (exact by_element) ∷ accepted (exact by_another) ∷ accepted (exact by_both) ∷ accepted (exact by_both) ∷ []
unfolding dilation erosion opened normalised normal_form tight_odd tight_even even_bound odd_bound min_ℤ half_ℤ has_cell placed is_on_map sums differences are_opposed is_rising is_falling
opened_by_more = refl

-- ---- more folds

abbrev by_two : Octagon
by_two = bounds (pos 5) (pos 1) (pos 0) (pos 10) (pos 12) (pos 19) (pos 11) (pos 9)

abbrev by_three : Octagon
by_three = bounds (pos 3) (negsuc 2) (pos 0) (pos 10) (pos 12) (pos 17) (pos 11) (pos 9)

abbrev by_four : Octagon
by_four = bounds (pos 1) (negsuc 6) (pos 0) (pos 10) (pos 12) (pos 15) (pos 11) (pos 9)

-- no folds to five
pub opened_by_folds : opened_n plot element 0 ∷ opened_n plot element 1 ∷ opened_n plot element 2 ∷ opened_n plot element 3 ∷ opened_n plot element 4 ∷ opened_n plot element 5 ∷ []
    ≡ accepted (exact plot) ∷ accepted (exact by_element) ∷ accepted (exact by_two) ∷ accepted (exact by_three) ∷ accepted (exact by_four) ∷ refused nothing_left ∷ []
unfolding dilation_n erosion_n normalised normal_form tight_odd tight_even even_bound odd_bound min_ℤ half_ℤ has_cell placed is_on_map sums differences multiples are_opposed is_rising is_falling
opened_by_folds = refl

-- the cells that each leaves open
pub cells_opened : cell_count plot ∷ cell_count by_element ∷ cell_count by_another ∷ cell_count by_both ∷ cell_count by_two ∷ cell_count by_three ∷ cell_count by_four ∷ []
    ≡ accepted 174 ∷ accepted 172 ∷ accepted 169 ∷ accepted 150 ∷ accepted 165 ∷ accepted 132 ∷ accepted 87 ∷ []
unfolding cell_count area rectangle cuts triangle normalised normal_form tight_odd tight_even even_bound odd_bound min_ℤ half_ℤ has_cell placed is_on_map
cells_opened = refl

-- ---- rows

-- a row, a shorter one of its kind, and the two spread together
abbrev shorter_row : Octagon
shorter_row = bounds (negsuc 4) (negsuc 6) (negsuc 0) (pos 5) (pos 6) (pos 7) (pos 2) (negsuc 2)

abbrev longer_row : Octagon
longer_row = bounds (negsuc 5) (negsuc 4) (pos 4) (pos 13) (pos 9) (pos 5) (negsuc 0) (negsuc 6)

-- that spread with a row opposed to it, which is filled: it has three cells that no position of either of the two inside it covers, and is
-- open to itself
abbrev slanting : Octagon
slanting = bounds (negsuc 3) (pos 4) (pos 11) (pos 18) (pos 8) (negsuc 1) (negsuc 6) (negsuc 11)

pub opened_by_filled : dilation longer_row falling_row ∷ opened slanting longer_row ∷ opened slanting falling_row ∷ opened slanting slanting ∷ []
    ≡ accepted (filled slanting) ∷ accepted (filled slanting) ∷ accepted (filled slanting) ∷ accepted (exact slanting) ∷ []
unfolding dilation erosion opened normalised normal_form tight_odd tight_even even_bound odd_bound min_ℤ half_ℤ has_cell placed is_on_map sums differences are_opposed is_rising is_falling
opened_by_filled = refl

-- the row and the shorter one each open it exactly, and the two spread together filled
pub filled_by_longer : dilation rising_row shorter_row ∷ opened slanting rising_row ∷ opened slanting shorter_row ∷ opening_by_both slanting rising_row shorter_row ∷ []
    ≡ accepted (exact longer_row) ∷ accepted (exact slanting) ∷ accepted (exact slanting) ∷ accepted (filled slanting) ∷ []
unfolding dilation erosion opened normalised normal_form tight_odd tight_even even_bound odd_bound min_ℤ half_ℤ has_cell placed is_on_map sums differences are_opposed is_rising is_falling
filled_by_longer = refl

-- ---- off the map

-- at the map's east edge: what the row of ComputedFolds.antt leaves reaches past it, and so does what two of it leave; three open the plot
abbrev two_uprights : Octagon
two_uprights = bounds (pos 10) (pos 8) (negsuc 1) (pos 10) (pos 12) (pos 14) (pos 2) (pos 12)

abbrev opened_at_edge : Octagon
opened_at_edge = bounds (pos 61) (pos 2000011) (pos 1999993) (pos 2000009) (pos 59) (negsuc 1999890) (negsuc 1999949) (negsuc 1999888)

pub smaller_off_map : dilation upright upright ∷ opened at_edge upright ∷ opened at_edge two_uprights ∷ opening_by_both at_edge upright two_uprights ∷ []
    ≡ accepted (exact two_uprights) ∷ refused off_map ∷ refused off_map ∷ accepted (exact opened_at_edge) ∷ []
unfolding dilation erosion opened normalised normal_form tight_odd tight_even even_bound odd_bound min_ℤ half_ℤ has_cell placed is_on_map sums differences are_opposed is_rising is_falling
smaller_off_map = refl

-- the same by folds
pub fewer_off_map : opened_n at_edge upright 1 ∷ opened_n at_edge upright 2 ∷ opened_n at_edge upright 3 ∷ []
    ≡ refused off_map ∷ refused off_map ∷ accepted (exact opened_at_edge) ∷ []
unfolding dilation_n erosion_n normalised normal_form tight_odd tight_even even_bound odd_bound min_ℤ half_ℤ has_cell placed is_on_map sums differences multiples are_opposed is_rising is_falling
fewer_off_map = refl

-- ---- an element that holds another, and is no spread of it

-- three cells, and two of them: the three open all of themselves, and the two open two
abbrev triangle_of_three : Octagon
triangle_of_three = bounds (pos 8) (pos 12) (pos 4) (negsuc 3) (negsuc 6) (negsuc 9) (negsuc 2) (pos 5)

abbrev side_of_two : Octagon
side_of_two = bounds (pos 8) (pos 12) (pos 4) (negsuc 3) (negsuc 7) (negsuc 10) (negsuc 2) (pos 5)

pub holding_opens_more : opened triangle_of_three side_of_two ∷ opened triangle_of_three triangle_of_three ∷ []
    ≡ accepted (exact side_of_two) ∷ accepted (exact triangle_of_three) ∷ []
unfolding dilation erosion opened normalised normal_form tight_odd tight_even even_bound odd_bound min_ℤ half_ℤ has_cell placed is_on_map sums differences are_opposed is_rising is_falling
holding_opens_more = refl
