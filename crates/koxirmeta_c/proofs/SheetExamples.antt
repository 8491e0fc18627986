-- Small values of the definitions of specs/Splits.antt and specs/Sheets.antt, computed: thirteen counts, plot numbers, starts and sides
-- that differ, a sheet byte by byte, and slices of wrong lengths. Assumes nothing.
use mathlib.Core.Path.{◌≡◌, refl}
use mathlib.Core.Bool.{true, false}
use mathlib.Core.List.{List, [], ◌∷◌}
use Prim.Native.Nat.{ℕ}
use lib.IntN.{ℤ, negsuc}
use lib.ListN.{replicate}
use Rattle.integers.specs.Minimum.{min_ℤ, half_ℤ}
use Rattle.octagon.specs.Outcome.{accepted, refused}
use Rattle.octagon.specs.NormalForm.{even_bound, odd_bound, tight_even, tight_odd, normal_form, sides, has_cell, is_on_map, placed, normalised}
use Rattle.outline.specs.Closing.{closes}
use Rattle.outline.specs.Walk.{vertex}
use Rattle.outline.specs.Tracing.{bounds_at, drawn, traced, traced_in}
use Rattle.outline.specs.Outlining.{outline_of, outlined}
use Rattle.decomposition.specs.declared.Split.{Split}
use Rattle.decomposition.specs.Pairs.{have_sides, assign_pair, triangles_of}
use Rattle.decomposition.specs.Splitting.{rest, with_rows, first_counts, is_crossed, with_k13, counts, split_of, decomposition}
use Rattle.records.specs.Numbers.{signed, twos}
use Rattle.records.specs.Parts.{splice}
use Rattle.sheet.specs.declared.Record.{Record}
use Rattle.sheet.specs.Layout.{layout_of, encoded, decoded, map_limit}
use Rattle.sheet.specs.Trailer.{trailer, trailer_at}
use Rattle.sheet.specs.Sheets.{plots_from, records_bytes, sheet_bytes}
use Rattle.sheet.specs.Checking.{stated, framed, judged, surveyed, inspected, parsed, fetched, read}
use Rattle.sheet.specs.Writing.{laid_over, admitted, insertion, inserted, after_insert}
use Rattle.koxirmeta_c.specs.Calls.{fitted, octagon_in}
use Rattle.koxirmeta_c.specs.Outlines.{outline_in, start}
use Rattle.koxirmeta_c.specs.Splits.{holds_split, split_parts, splitting}
use Rattle.koxirmeta_c.specs.Sheets.{plot, plot_of, fetching, reading, inserting, after_inserting}
use Rattle.koxirmeta_c.proofs.Examples.{plot_bounds, crossing_bounds, seven_bounds, plot_start, plot_sides, one_number, seven_sides, plot_outline}

-- ---- splits

-- a split whose counts are 21 to 33, these counts, and the split of the plot
abbrev thirteen : List ℕ
thirteen = 21 ∷ 22 ∷ 23 ∷ 24 ∷ 25 ∷ 26 ∷ 27 ∷ 28 ∷ 29 ∷ 30 ∷ 31 ∷ 32 ∷ 33 ∷ []

abbrev counted_to_33 : Split
counted_to_33 = record {
  start = record { i = negsuc 3; j = negsuc 4 };
  counts = record { k1 = 21; k2 = 22; k3 = 23; k4 = 24; k5 = 25; k6 = 26; k7 = 27; k8 = 28; k9 = 29; k10 = 30; k11 = 31; k12 = 32; k13 = 33 };
}

abbrev plot_split : Split
plot_split = record {
  start = record { i = negsuc 3; j = negsuc 4 };
  counts = record { k1 = 3; k2 = 1; k3 = 6; k4 = 2; k5 = 0; k6 = 0; k7 = 0; k8 = 2; k9 = 0; k10 = 0; k11 = 0; k12 = 3; k13 = 0 };
}

pub splits : ((holds_split plot_start thirteen ∷ holds_split one_number thirteen ∷ holds_split plot_start plot_sides ∷ []) ≡ (true ∷ false ∷ false ∷ []))
    × (split_parts counted_to_33 ≡ (plot_start, thirteen))
unfolding start
splits = (refl, refl)

pub splittings : (splitting plot_bounds plot_start thirteen ∷ splitting crossing_bounds plot_start thirteen
    ∷ splitting seven_bounds plot_start thirteen ∷ splitting plot_bounds one_number thirteen ∷ splitting plot_bounds plot_start plot_sides ∷ [])
    ≡ (accepted plot_split ∷ refused 1 ∷ refused 255 ∷ refused 255 ∷ refused 255 ∷ [])
unfolding fitted octagon_in decomposition split_of rest triangles_of assign_pair have_sides with_rows first_counts is_crossed with_k13 counts outlined normalised normal_form tight_odd tight_even even_bound odd_bound min_ℤ half_ℤ has_cell placed is_on_map outline_of sides
splittings = refl

-- ---- sheets

-- the plot with the number 70001 and the fee row 772, and one with the number 513 and the fee row 12 from (-8, -11) with the sides
-- 6 7 3 1 14 2 5 4
abbrev numbered : Record
numbered = record { number = 70001; outline = plot_outline; fee_row = 772 }

abbrev other_start : List ℤ
other_start = negsuc 7 ∷ negsuc 10 ∷ []

abbrev other_sides : List ℕ
other_sides = 6 ∷ 7 ∷ 3 ∷ 1 ∷ 14 ∷ 2 ∷ 5 ∷ 4 ∷ []

-- a sheet of no records after a heading of 3 bytes, in a buffer of 114 (its record length is document 01's)
abbrev empty_sheet : List ℕ
empty_sheet = 1 ∷ 2 ∷ 3 ∷ 0 ∷ 0 ∷ 0 ∷ 0 ∷ 0 ∷ 0 ∷ 0 ∷ 0 ∷ 24 ∷ 0 ∷ 0 ∷ 0 ∷ 71 ∷ 82 ∷ 78 ∷ 68 ∷ replicate 95 9

-- with 70001, and with 513 before it
abbrev one_plot : List ℕ
one_plot =
    1 ∷ 2 ∷ 3 ∷
    113 ∷ 17 ∷ 1 ∷ 0 ∷ 252 ∷ 255 ∷ 255 ∷ 255 ∷ 251 ∷ 255 ∷ 255 ∷ 255 ∷
    3 ∷ 0 ∷ 0 ∷ 0 ∷ 1 ∷ 0 ∷ 0 ∷ 0 ∷ 14 ∷ 0 ∷ 0 ∷ 0 ∷ 2 ∷ 0 ∷ 0 ∷ 0 ∷ 5 ∷ 0 ∷ 0 ∷ 0 ∷ 4 ∷ 0 ∷ 0 ∷ 0 ∷ 6 ∷ 0 ∷ 0 ∷ 0 ∷ 7 ∷ 0 ∷ 0 ∷ 0 ∷ 4 ∷ 3 ∷
    46 ∷ 0 ∷ 0 ∷ 0 ∷ 1 ∷ 0 ∷ 0 ∷ 0 ∷ 46 ∷ 0 ∷ 0 ∷ 0 ∷ 71 ∷ 82 ∷ 78 ∷ 68 ∷
    replicate 49 9

abbrev pub two_plots : List ℕ
two_plots =
    1 ∷ 2 ∷ 3 ∷
    1 ∷ 2 ∷ 0 ∷ 0 ∷ 248 ∷ 255 ∷ 255 ∷ 255 ∷ 245 ∷ 255 ∷ 255 ∷ 255 ∷
    6 ∷ 0 ∷ 0 ∷ 0 ∷ 7 ∷ 0 ∷ 0 ∷ 0 ∷ 3 ∷ 0 ∷ 0 ∷ 0 ∷ 1 ∷ 0 ∷ 0 ∷ 0 ∷ 14 ∷ 0 ∷ 0 ∷ 0 ∷ 2 ∷ 0 ∷ 0 ∷ 0 ∷ 5 ∷ 0 ∷ 0 ∷ 0 ∷ 4 ∷ 0 ∷ 0 ∷ 0 ∷ 12 ∷ 0 ∷
    113 ∷ 17 ∷ 1 ∷ 0 ∷ 252 ∷ 255 ∷ 255 ∷ 255 ∷ 251 ∷ 255 ∷ 255 ∷ 255 ∷
    3 ∷ 0 ∷ 0 ∷ 0 ∷ 1 ∷ 0 ∷ 0 ∷ 0 ∷ 14 ∷ 0 ∷ 0 ∷ 0 ∷ 2 ∷ 0 ∷ 0 ∷ 0 ∷ 5 ∷ 0 ∷ 0 ∷ 0 ∷ 4 ∷ 0 ∷ 0 ∷ 0 ∷ 6 ∷ 0 ∷ 0 ∷ 0 ∷ 7 ∷ 0 ∷ 0 ∷ 0 ∷ 4 ∷ 3 ∷
    92 ∷ 0 ∷ 0 ∷ 0 ∷ 2 ∷ 0 ∷ 0 ∷ 0 ∷ 46 ∷ 0 ∷ 0 ∷ 0 ∷ 71 ∷ 82 ∷ 78 ∷ 68 ∷
    replicate 3 9

pub plots : (plot 70001 plot_start plot_sides 772 ≡ numbered) × (plot_of numbered ≡ (70001, plot_start, plot_sides, 772))
unfolding plot outline_in start
plots = (refl, refl)

-- what an insert leaves: accepted twice, refused as not closing, and with each slice of a wrong length
pub sheets : (after_inserting empty_sheet 19 70001 plot_start plot_sides 772 ∷ after_inserting one_plot 65 513 other_start other_sides 12
    ∷ after_inserting one_plot 65 513 plot_start thirteen 12 ∷ after_inserting one_plot 65 513 other_start seven_sides 12 ∷ after_inserting one_plot 65 513 one_number other_sides 12
    ∷ after_inserting one_plot 65 513 plot_start (4 ∷ 1 ∷ 14 ∷ 2 ∷ 5 ∷ 4 ∷ 6 ∷ 7 ∷ []) 12 ∷ [])
    ≡ (one_plot ∷ two_plots ∷ one_plot ∷ one_plot ∷ one_plot ∷ one_plot ∷ [])
unfolding plot outline_in after_insert laid_over sheet_bytes records_bytes splice insertion admitted trailer parsed inspected framed stated trailer_at plots_from surveyed judged map_limit traced_in layout_of decoded encoded signed twos traced closes placed is_on_map drawn bounds_at vertex
sheets = refl

-- and what it answers
pub insertions : (inserting empty_sheet 19 70001 plot_start plot_sides 772 ∷ inserting one_plot 65 513 other_start other_sides 12
    ∷ inserting one_plot 65 70001 plot_start plot_sides 772 ∷ inserting one_plot 65 513 one_number other_sides 12 ∷ inserting one_plot 65 513 other_start seven_sides 12 ∷ [])
    ≡ (accepted 65 ∷ accepted 111 ∷ refused 11 ∷ refused 255 ∷ refused 255 ∷ [])
unfolding fitted plot outline_in inserted insertion admitted parsed inspected framed stated trailer_at plots_from surveyed judged map_limit traced_in layout_of decoded signed traced closes placed is_on_map drawn bounds_at vertex
insertions = refl

-- record 1 of two, and record 2, which there is not; and each slice of a wrong length
pub fetches : (fetching two_plots 111 1 plot_start plot_sides ∷ fetching two_plots 111 2 plot_start plot_sides
    ∷ fetching two_plots 111 1 one_number plot_sides ∷ fetching two_plots 111 1 plot_start seven_sides ∷ [])
    ≡ (accepted numbered ∷ refused 13 ∷ refused 255 ∷ refused 255 ∷ [])
unfolding fitted fetched parsed inspected framed stated trailer_at plots_from surveyed judged map_limit traced_in layout_of decoded signed traced closes placed is_on_map drawn bounds_at vertex
fetches = refl

-- the same with no check of the records, and of a length that is one byte less
pub readings : (reading two_plots 111 1 plot_start plot_sides ∷ reading two_plots 111 2 plot_start plot_sides ∷ reading two_plots 110 1 plot_start plot_sides
    ∷ reading two_plots 111 1 one_number plot_sides ∷ reading two_plots 111 1 plot_start seven_sides ∷ [])
    ≡ (accepted numbered ∷ refused 13 ∷ refused 9 ∷ refused 255 ∷ refused 255 ∷ [])
unfolding fitted read framed stated trailer_at plots_from layout_of decoded signed
readings = refl
