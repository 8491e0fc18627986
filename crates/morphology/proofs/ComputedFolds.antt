-- Folds one after the other (document 02's U7), computed: a plot and an element of eight different bounds each, opposed rows, and what the
-- laws ask for, where it does not hold; and folds up to the limit and one past it, where products pass 32 bits. The numbers were worked out
-- from sets of cells. Assumes nothing.
use mathlib.Core.Path.{◌≡◌, refl}
use mathlib.Core.List.{[], ◌∷◌}
use lib.IntN.{ℤ, pos, negsuc}
use Rattle.integers.specs.Minimum.{min_ℤ, half_ℤ}
use Rattle.octagon.specs.Octagon.{Octagon}
use Rattle.octagon.specs.Outcome.{accepted, refused, off_map}
use Rattle.octagon.specs.NormalForm.{even_bound, odd_bound, tight_even, tight_odd, normal_form, has_cell, is_on_map, placed, normalised}
use Rattle.morphology.specs.Marks.{exact, filled}
use Rattle.morphology.specs.Operations.{sums, differences, nothing_left, is_rising, is_falling, are_opposed}
use Rattle.morphology.specs.Folds.{multiples, too_many_folds, dilation_n, erosion_n}
use Rattle.morphology.specs.Premises.{dilations_n, erosions_n}

abbrev pub bounds : ℤ → ℤ → ℤ → ℤ → ℤ → ℤ → ℤ → ℤ → Octagon
bounds c0 c1 c2 c3 c4 c5 c6 c7 = record { c0 = c0; c1 = c1; c2 = c2; c3 = c3; c4 = c4; c5 = c5; c6 = c6; c7 = c7 }

-- a plot of 129 cells, and an element of nine that does not hold (0, 0)
abbrev plot : Octagon
plot = bounds (pos 11) (pos 7) (negsuc 1) (negsuc 6) (pos 2) (pos 17) (pos 15) (pos 18)

abbrev element : Octagon
element = bounds (pos 3) (pos 2) (negsuc 0) (negsuc 2) (pos 1) (pos 6) (pos 5) (pos 4)

-- "two frames, then three"
abbrev five_times : Octagon
five_times = bounds (pos 26) (pos 17) (negsuc 6) (negsuc 21) (pos 7) (pos 47) (pos 40) (pos 38)

pub spreads_add : dilations_n plot element 2 3 ∷ dilation_n plot element 5 ∷ [] ≡ accepted (exact five_times) ∷ accepted (exact five_times) ∷ []
unfolding dilation_n normalised normal_form tight_odd tight_even even_bound odd_bound min_ℤ half_ℤ has_cell placed is_on_map sums multiples are_opposed is_rising is_falling
spreads_add = refl

-- one trim and two leave the cell (0, -1), as three do; two and two leave nothing, and so do four and one
abbrev three_times : Octagon
three_times = bounds (pos 1) (pos 1) (pos 0) (negsuc 0) (negsuc 0) (negsuc 0) (pos 0) (pos 1)

pub trims_add : erosions_n plot element 1 element 2 ∷ erosion_n plot element 3 ∷ erosions_n plot element 2 element 2 ∷ erosions_n plot element 4 element 1 ∷ erosion_n plot element 4 ∷ erosion_n plot element 5 ∷ []
    ≡ accepted three_times ∷ accepted three_times ∷ refused nothing_left ∷ refused nothing_left ∷ refused nothing_left ∷ refused nothing_left ∷ []
unfolding erosion_n normalised normal_form tight_odd tight_even even_bound odd_bound min_ℤ half_ℤ has_cell placed is_on_map differences multiples
trims_add = refl

-- a row of three cells from (3, 1), and one of two, from (7, -2), opposed to it
abbrev pub rising_row : Octagon
rising_row = bounds (negsuc 0) (pos 2) (pos 5) (pos 8) (pos 3) (negsuc 1) (negsuc 2) (negsuc 3)

abbrev pub falling_row : Octagon
falling_row = bounds (pos 2) (pos 9) (pos 7) (pos 5) (negsuc 0) (negsuc 6) (negsuc 5) (negsuc 4)

abbrev after_two : Octagon
after_two = bounds (pos 3) (pos 20) (pos 19) (pos 18) (pos 1) (negsuc 15) (negsuc 14) (negsuc 13)

-- two folds are filled; after one or two the next call says exact, and after none filled
pub marks_of_two : dilation_n rising_row falling_row 2 ∷ dilations_n rising_row falling_row 1 1 ∷ dilations_n rising_row falling_row 2 0 ∷ dilations_n rising_row falling_row 0 2 ∷ []
    ≡ accepted (filled after_two) ∷ accepted (exact after_two) ∷ accepted (exact after_two) ∷ accepted (filled after_two) ∷ []
unfolding dilation_n normalised normal_form tight_odd tight_even even_bound odd_bound min_ℤ half_ℤ has_cell placed is_on_map sums multiples are_opposed is_rising is_falling
marks_of_two = refl

-- a plot at the map's east edge, with slack bounds, and an upright row of cells west of (0, 0): one trim reaches past the edge, and three do
-- not, since the plot narrows eastward
abbrev pub at_edge : Octagon
at_edge = bounds (pos 101) (pos 2000011) (pos 2000000) (pos 2000009) (pos 103) (negsuc 1999846) (negsuc 1999949) (negsuc 1999848)

abbrev pub upright : Octagon
upright = bounds (pos 5) (pos 4) (negsuc 0) (pos 5) (pos 6) (pos 7) (pos 1) (pos 6)

pub first_trim_off : erosion_n at_edge upright 1 ∷ erosions_n at_edge upright 1 upright 2 ∷ erosion_n at_edge upright 3 ∷ []
    ≡ refused off_map ∷ refused off_map
    ∷ accepted (bounds (pos 46) (pos 1999999) (pos 1999996) (pos 1999994) (pos 41) (negsuc 1999911) (negsuc 1999952) (negsuc 1999906)) ∷ []
unfolding erosion_n normalised normal_form tight_odd tight_even even_bound odd_bound min_ℤ half_ℤ has_cell placed is_on_map differences multiples
first_trim_off = refl

-- more folds than the limit in two calls that are each below it, by the cell (0, 0) alone
abbrev origin : Octagon
origin = bounds (pos 0) (pos 0) (pos 0) (pos 0) (pos 0) (pos 0) (pos 0) (pos 0)

pub spreads_past_limit : dilations_n rising_row origin 2500000 2000000 ∷ dilation_n rising_row origin 4500000 ∷ []
    ≡ accepted (exact rising_row) ∷ refused too_many_folds ∷ []
unfolding dilation_n normalised normal_form tight_odd tight_even even_bound odd_bound min_ℤ half_ℤ has_cell placed is_on_map sums multiples are_opposed is_rising is_falling
spreads_past_limit = refl

pub trims_past_limit : erosions_n rising_row origin 2500000 origin 2000000 ∷ erosion_n rising_row origin 4500000 ∷ []
    ≡ accepted rising_row ∷ refused too_many_folds ∷ []
unfolding erosion_n normalised normal_form tight_odd tight_even even_bound odd_bound min_ℤ half_ℤ has_cell placed is_on_map differences multiples
trims_past_limit = refl

-- ---- at the fold limit

-- the cell (0, 0), as often as the limit allows and once more
pub origin_to_limit : dilation_n origin origin 4000001 ∷ dilation_n origin origin 4000002 ∷ [] ≡ accepted (exact origin) ∷ refused too_many_folds ∷ []
unfolding dilation_n normalised normal_form tight_odd tight_even even_bound odd_bound min_ℤ half_ℤ has_cell placed is_on_map sums multiples are_opposed is_rising is_falling
origin_to_limit = refl

pub origin_trimmed_to_limit : erosion_n rising_row origin 4000001 ∷ erosion_n rising_row origin 4000002 ∷ [] ≡ accepted rising_row ∷ refused too_many_folds ∷ []
unfolding erosion_n normalised normal_form tight_odd tight_even even_bound odd_bound min_ℤ half_ℤ has_cell placed is_on_map differences multiples
origin_trimmed_to_limit = refl

-- two cells side by side, (0, 0) and (1, 0), and the row of the map three north of its middle; from its first cell as many folds as it has
-- further cells make the whole row, and one more leaves the map; so many trims leave that cell, and one more leaves nothing
abbrev beside : Octagon
beside = bounds (pos 0) (pos 1) (pos 1) (pos 1) (pos 0) (pos 0) (pos 0) (pos 0)

abbrev first_cell : Octagon
first_cell = bounds (negsuc 2) (negsuc 2000002) (negsuc 1999999) (negsuc 1999996) (pos 3) (pos 2000003) (pos 2000000) (pos 1999997)

abbrev whole_row : Octagon
whole_row = bounds (negsuc 2) (pos 1999997) (pos 2000000) (pos 2000003) (pos 3) (pos 2000003) (pos 2000000) (pos 1999997)

pub row_spread : dilation_n first_cell beside 4000000 ∷ dilation_n first_cell beside 4000001 ∷ [] ≡ accepted (exact whole_row) ∷ refused off_map ∷ []
unfolding dilation_n normalised normal_form tight_odd tight_even even_bound odd_bound min_ℤ half_ℤ has_cell placed is_on_map sums multiples are_opposed is_rising is_falling
row_spread = refl

pub row_trimmed : erosion_n whole_row beside 4000000 ∷ erosion_n whole_row beside 4000001 ∷ [] ≡ accepted first_cell ∷ refused nothing_left ∷ []
unfolding erosion_n normalised normal_form tight_odd tight_even even_bound odd_bound min_ℤ half_ℤ has_cell placed is_on_map differences multiples
row_trimmed = refl

-- a row of 2,049 cells from (0, 0): 2,097,152 folds reach 2 ^ 32 columns, which 32 bits would take for none
abbrev long_row : Octagon
long_row = bounds (pos 0) (pos 2048) (pos 2048) (pos 2048) (pos 0) (pos 0) (pos 0) (pos 0)

pub past_32_bits : dilation_n rising_row long_row 2097152 ≡ refused off_map
unfolding dilation_n normalised normal_form tight_odd tight_even even_bound odd_bound min_ℤ half_ℤ has_cell placed is_on_map sums multiples are_opposed is_rising is_falling
past_32_bits = refl

pub trimmed_past_32_bits : erosion_n whole_row long_row 2097152 ≡ refused nothing_left
unfolding erosion_n normalised normal_form tight_odd tight_even even_bound odd_bound min_ℤ half_ℤ has_cell placed is_on_map differences multiples
trimmed_past_32_bits = refl
