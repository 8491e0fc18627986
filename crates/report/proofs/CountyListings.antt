-- Listings of sheets of 46 bytes a record: plots whose cells, and their sum, exceed 2 ^ 32, and plots whose farthest cell is 2,000,000
-- cells from the middle of the map, or 2,000,001, to the east, the north, the west and the south. antt computes them. Assumes nothing.
use mathlib.Core.Path.{◌≡◌, refl}
use mathlib.Core.List.{List, [], ◌∷◌, ◌++◌, map}
use Prim.Native.Nat.{ℕ}
use lib.IntN.{negsuc, pos}
use lib.ListN.{length, replicate}
use Rattle.integers.specs.Minimum.{min_ℤ, half_ℤ}
use Rattle.octagon.specs.NormalForm.{even_bound, odd_bound, tight_even, tight_odd, normal_form, has_cell, is_on_map, placed, normalised}
use Rattle.cell_count.specs.Area.{triangle, rectangle, cuts, area, cell_count}
use Rattle.outline.specs.Walk.{vertex}
use Rattle.outline.specs.Closing.{closes}
use Rattle.outline.specs.Tracing.{bounds_at, drawn, traced, traced_in}
use Rattle.records.specs.Numbers.{signed, twos}
use Rattle.records.specs.Rows.{end_to_end}
use Rattle.records.specs.Text.{ascii}
use Rattle.sheet.specs.declared.Record.{Record}
use Rattle.sheet.specs.Layout.{map_limit, layout_of, encoded, decoded}
use Rattle.sheet.specs.Trailer.{trailer, trailer_at}
use Rattle.sheet.specs.Sheets.{plots_from, records_bytes}
use Rattle.sheet.specs.Checking.{stated, framed, judged, surveyed, inspected, parsed}
use Rattle.sheet.proofs.Computed.{plot}
use Rattle.sheet.proofs.ComputedEdges.{alone}
use Rattle.sheet.proofs.ComputedCounty.{reaching_county, leaving_county, county_sheets}
use Rattle.report.specs.Decimal.{decimal, signed_decimal}
use Rattle.report.specs.Lines.{heading_line, row_line, last_line, refused_line}
use Rattle.report.specs.Listing.{cell_number, row_of, full, listing}

-- a plot whose numbers all differ, and the whole map
wide_plots : List Record
wide_plots =
    plot 31337 (negsuc 1234566) (pos 1654321) (100003 ∷ 20011 ∷ 70001 ∷ 30013 ∷ 100013 ∷ 40009 ∷ 29995 ∷ 50021 ∷ []) 4077 ∷
    plot 40404 (negsuc 1999999) (negsuc 1999999) (4000000 ∷ 0 ∷ 4000000 ∷ 0 ∷ 4000000 ∷ 0 ∷ 4000000 ∷ 0 ∷ []) 65535 ∷ []

wide_text : List ℕ
wide_text =
    end_to_end (
    ascii "plot i j n0 n1 n2 n3 n4 n5 n6 n7 cells fee\n" ∷
    ascii "31337 -1234567 1654321 100003 20011 70001 30013 100013 40009 29995 50021 17706650503 4077\n" ∷
    ascii "40404 -2000000 -2000000 4000000 0 4000000 0 4000000 0 4000000 0 16000008000001 65535\n" ∷
    ascii "plots 2 cells 16017714650504\n" ∷ [])

wide_listed : (let s = records_bytes 46 wide_plots in listing s (length s)) ≡ wide_text
unfolding wide_plots wide_text records_bytes encoded decoded layout_of trailer trailer_at plots_from parsed inspected framed stated surveyed judged map_limit traced_in twos signed traced drawn bounds_at vertex closes placed is_on_map cell_count normalised normal_form tight_even tight_odd even_bound odd_bound has_cell min_ℤ half_ℤ area rectangle cuts triangle listing full row_of cell_number heading_line row_line last_line refused_line decimal signed_decimal
wide_listed = refl

-- the texts of the plots that reach 2,000,000, each alone, of 174 cells
county_texts : List (List ℕ)
county_texts = map (λ r. ascii "plot i j n0 n1 n2 n3 n4 n5 n6 n7 cells fee\n" ++ (r ++ ascii "plots 1 cells 174\n")) (
    ascii "70001 1999996 211 3 1 14 2 5 4 6 7 174 1201\n"
    ∷ ascii "80002 -322 1999983 3 1 14 2 5 4 6 7 174 1302\n"
    ∷ ascii "90003 -1999993 433 3 1 14 2 5 4 6 7 174 1403\n"
    ∷ ascii "100004 544 -2000000 3 1 14 2 5 4 6 7 174 1504\n" ∷ [])

county_edges_listed : (map (λ s. listing s (length s)) (alone 46 reaching_county) ≡ county_texts)
    × (map (λ s. listing s (length s)) (county_sheets leaving_county) ≡ replicate 8 (ascii "refused 2\n"))
unfolding county_texts records_bytes encoded decoded layout_of trailer trailer_at plots_from parsed inspected framed stated surveyed judged map_limit traced_in twos signed traced drawn bounds_at vertex closes placed is_on_map cell_count normalised normal_form tight_even tight_odd even_bound odd_bound has_cell min_ℤ half_ℤ area rectangle cuts triangle listing full row_of cell_number heading_line row_line last_line refused_line decimal signed_decimal
county_edges_listed = (refl, refl)
