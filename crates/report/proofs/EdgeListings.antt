-- Listings of sheets of 24 and of 26 bytes a record that hold a plot whose farthest cell is 16,000 cells from the middle of the map, or
-- 16,001, to the east, the north, the west and the south: antt computes them. Assumes nothing.
use mathlib.Core.Path.{◌≡◌, refl}
use mathlib.Core.List.{List, [], ◌∷◌, ◌++◌, map}
use Prim.Native.Nat.{ℕ}
use lib.ListN.{length, replicate}
use Rattle.integers.specs.Minimum.{min_ℤ, half_ℤ}
use Rattle.octagon.specs.NormalForm.{even_bound, odd_bound, tight_even, tight_odd, normal_form, has_cell, is_on_map, placed, normalised}
use Rattle.cell_count.specs.Area.{triangle, rectangle, cuts, area, cell_count}
use Rattle.outline.specs.Walk.{vertex}
use Rattle.outline.specs.Closing.{closes}
use Rattle.outline.specs.Tracing.{bounds_at, drawn, traced, traced_in}
use Rattle.records.specs.Numbers.{signed, twos}
use Rattle.records.specs.Text.{ascii}
use Rattle.sheet.specs.Layout.{map_limit, layout_of, encoded, decoded}
use Rattle.sheet.specs.Trailer.{trailer, trailer_at}
use Rattle.sheet.specs.Sheets.{plots_from, records_bytes}
use Rattle.sheet.specs.Checking.{stated, framed, judged, surveyed, inspected, parsed}
use Rattle.sheet.proofs.ComputedEdges.{reaching, leaving, sheets}
use Rattle.report.specs.Decimal.{decimal, signed_decimal}
use Rattle.report.specs.Lines.{heading_line, row_line, last_line, refused_line}
use Rattle.report.specs.Listing.{cell_number, row_of, full, listing}

-- the rows of the plots that reach 16,000, each of 174 cells: of records of 24, and of 26
base_rows : List (List ℕ)
base_rows =
    ascii "70001 15996 211 3 1 14 2 5 4 6 7 174 0\n"
    ∷ ascii "80002 -322 15983 3 1 14 2 5 4 6 7 174 0\n"
    ∷ ascii "90003 -15993 433 3 1 14 2 5 4 6 7 174 0\n"
    ∷ ascii "100004 544 -16000 3 1 14 2 5 4 6 7 174 0\n" ∷ []

fee_rows : List (List ℕ)
fee_rows =
    ascii "70001 15996 211 3 1 14 2 5 4 6 7 174 1201\n"
    ∷ ascii "80002 -322 15983 3 1 14 2 5 4 6 7 174 1302\n"
    ∷ ascii "90003 -15993 433 3 1 14 2 5 4 6 7 174 1403\n"
    ∷ ascii "100004 544 -16000 3 1 14 2 5 4 6 7 174 1504\n" ∷ []

-- the text of such a row alone, and after the row of the near plot, which has 1,536 cells
one_row : List ℕ → List ℕ
one_row r = ascii "plot i j n0 n1 n2 n3 n4 n5 n6 n7 cells fee\n" ++ (r ++ ascii "plots 1 cells 174\n")

two_rows : List ℕ → List ℕ → List ℕ
two_rows q r = ascii "plot i j n0 n1 n2 n3 n4 n5 n6 n7 cells fee\n" ++ (q ++ (r ++ ascii "plots 2 cells 1710\n"))

texts : List (List ℕ)
texts =
    map one_row base_rows ++ (map one_row fee_rows ++ (
    map (two_rows (ascii "503 29 -38 16 9 23 12 17 11 18 15 1536 0\n")) base_rows ++
    map (two_rows (ascii "503 29 -38 16 9 23 12 17 11 18 15 1536 2009\n")) fee_rows))

edges_listed : (map (λ s. listing s (length s)) (sheets reaching) ≡ texts) × (map (λ s. listing s (length s)) (sheets leaving) ≡ replicate 16 (ascii "refused 2\n"))
unfolding texts one_row two_rows base_rows fee_rows records_bytes encoded decoded layout_of trailer trailer_at plots_from parsed inspected framed stated surveyed judged map_limit traced_in twos signed traced drawn bounds_at vertex closes placed is_on_map cell_count normalised normal_form tight_even tight_odd even_bound odd_bound has_cell min_ℤ half_ℤ area rectangle cuts triangle listing full row_of cell_number heading_line row_line last_line refused_line decimal signed_decimal
edges_listed = (refl, refl)
