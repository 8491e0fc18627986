-- Listings and numbers that are computed: document 01's sheet among them. Assumes nothing.
use mathlib.Core.Path.{◌≡◌, refl}
use mathlib.Core.List.{List, [], ◌∷◌, ◌++◌, map}
use Prim.Native.Nat.{ℕ, ◌+◌}
use lib.IntN.{pos, negsuc}
use lib.ListN.{length}
use Rattle.sheet.specs.declared.Record.{Record}
use Rattle.sheet.specs.Layout.{base_layout, fee_layout, layout_of, encoded, decoded, map_limit}
use Rattle.sheet.specs.Trailer.{trailer, trailer_at}
use Rattle.sheet.specs.Sheets.{plots_from}
use Rattle.integers.specs.Minimum.{min_ℤ, half_ℤ}
use Rattle.octagon.specs.NormalForm.{even_bound, odd_bound, tight_even, tight_odd, normal_form, has_cell, is_on_map, placed, normalised}
use Rattle.cell_count.specs.Area.{triangle, rectangle, cuts, area, cell_count}
use Rattle.outline.specs.Walk.{vertex}
use Rattle.outline.specs.Closing.{closes}
use Rattle.outline.specs.Tracing.{bounds_at, drawn, traced, traced_in}
use Rattle.records.specs.Numbers.{signed, twos}
use Rattle.records.specs.Rows.{end_to_end}
use Rattle.sheet.specs.Checking.{stated, framed, judged, surveyed, inspected, parsed}
use Rattle.records.specs.Text.{ascii}
use Rattle.sheet.proofs.Computed.{plot, seven, thirteenth}
use Rattle.report.specs.Decimal.{decimal, signed_decimal}
use Rattle.report.specs.Lines.{space, heading_line, row_line, last_line, refused_line}
use Rattle.report.specs.Listing.{cell_number, row_of, full, listing}
use Rattle.report.specs.ReadBack.{divided}

-- a plot whose numbers all differ, in 174 cells, and the whole old map under the number v, in 32001 * 32001
uneven : Record
uneven = plot 70001 (negsuc 3) (negsuc 4) (3 ∷ 1 ∷ 14 ∷ 2 ∷ 5 ∷ 4 ∷ 6 ∷ 7 ∷ []) 65535

whole : ℕ → Record
whole v = plot v (negsuc 15999) (negsuc 15999) (32000 ∷ 0 ∷ 32000 ∷ 0 ∷ 32000 ∷ 0 ∷ 32000 ∷ 0 ∷ []) (v + 8)

-- document 01's sheet after a heading of two bytes, of its records and with fee rows, the uneven plot, the whole old map five times, whose
-- cells together exceed 2 ^ 32, sheets of no plots, no bytes at all, a spoilt letter, and falling numbers
sheets : List (List ℕ)
sheets =
    (1 ∷ 2 ∷ encoded base_layout (seven 0) ++ (encoded base_layout (thirteenth 0) ++ trailer 24 2)) ∷
    (1 ∷ 2 ∷ encoded fee_layout (seven 12) ++ (encoded fee_layout (thirteenth 301) ++ trailer 26 2)) ∷ (encoded fee_layout uneven ++ trailer 26 1) ∷
    (end_to_end (map (λ v. encoded fee_layout (whole v)) (1 ∷ 2 ∷ 3 ∷ 4 ∷ 5 ∷ [])) ++ trailer 26 5) ∷
    trailer 24 0 ∷ trailer 26 0 ∷ [] ∷ (trailer 26 0 ++ (0 ∷ [])) ∷ (encoded fee_layout (thirteenth 301) ++ (encoded fee_layout (seven 12) ++ trailer 26 2)) ∷ []

texts : List (List ℕ)
texts =
    ascii "plot i j n0 n1 n2 n3 n4 n5 n6 n7 cells fee\n7 2 -1 3 0 1 0 3 0 1 0 8 0\n11407 0 0 0 1 0 1 0 1 0 1 5 0\nplots 2 cells 13\n" ∷
    ascii "plot i j n0 n1 n2 n3 n4 n5 n6 n7 cells fee\n7 2 -1 3 0 1 0 3 0 1 0 8 12\n11407 0 0 0 1 0 1 0 1 0 1 5 301\nplots 2 cells 13\n" ∷
    ascii "plot i j n0 n1 n2 n3 n4 n5 n6 n7 cells fee\n70001 -4 -5 3 1 14 2 5 4 6 7 174 65535\nplots 1 cells 174\n" ∷
    end_to_end (
    ascii "plot i j n0 n1 n2 n3 n4 n5 n6 n7 cells fee\n" ∷
    ascii "1 -16000 -16000 32000 0 32000 0 32000 0 32000 0 1024064001 9\n" ∷
    ascii "2 -16000 -16000 32000 0 32000 0 32000 0 32000 0 1024064001 10\n" ∷
    ascii "3 -16000 -16000 32000 0 32000 0 32000 0 32000 0 1024064001 11\n" ∷
    ascii "4 -16000 -16000 32000 0 32000 0 32000 0 32000 0 1024064001 12\n" ∷
    ascii "5 -16000 -16000 32000 0 32000 0 32000 0 32000 0 1024064001 13\n" ∷
    ascii "plots 5 cells 5120320005\n" ∷ []) ∷
    ascii "plot i j n0 n1 n2 n3 n4 n5 n6 n7 cells fee\nplots 0 cells 0\n" ∷ ascii "plot i j n0 n1 n2 n3 n4 n5 n6 n7 cells fee\nplots 0 cells 0\n" ∷ ascii "refused 8\n" ∷ ascii "refused 9\n" ∷ ascii "refused 11\n" ∷ []

listed : map (λ s. listing s (length s)) sheets ≡ texts
unfolding sheets texts uneven whole encoded decoded layout_of trailer trailer_at plots_from parsed inspected framed stated surveyed judged map_limit traced_in twos signed traced drawn bounds_at vertex closes placed is_on_map cell_count normalised normal_form tight_even tight_odd even_bound odd_bound has_cell min_ℤ half_ℤ area rectangle cuts triangle listing full row_of cell_number heading_line row_line last_line refused_line decimal signed_decimal
listed = refl

-- numbers at the ends of their ranges
numbers : map decimal (0 ∷ 9 ∷ 10 ∷ 18446744073709551615 ∷ []) ≡ ascii "0" ∷ ascii "9" ∷ ascii "10" ∷ ascii "18446744073709551615" ∷ []
unfolding decimal
numbers = refl

integers : map signed_decimal (pos 0 ∷ negsuc 0 ∷ pos 2147483647 ∷ negsuc 2147483647 ∷ []) ≡ ascii "0" ∷ ascii "-1" ∷ ascii "2147483647" ∷ ascii "-2147483648" ∷ []
unfolding decimal signed_decimal
integers = refl

-- a text and its words
words_apart : divided space (ascii "ab  c ") ≡ ascii "ab" ∷ [] ∷ ascii "c" ∷ [] ∷ []
unfolding divided
words_apart = refl
