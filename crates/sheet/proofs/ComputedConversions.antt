-- Sheets converted by the definitions, byte for byte: of each record length; with plots that reach the old map's edge, or leave it; and the
-- order of the refusals. antt computes them. Assumes nothing.
use mathlib.Core.Path.{◌≡◌, refl}
use mathlib.Core.List.{List, [], ◌∷◌, ◌++◌, map}
use Prim.Native.Nat.{ℕ}
use lib.IntN.{pos, negsuc}
use lib.ListN.{length, replicate, take}
use Rattle.octagon.specs.Outcome.{Outcome, accepted, refused}
use Rattle.octagon.specs.NormalForm.{is_on_map, placed}
use Rattle.outline.specs.Closing.{closes}
use Rattle.outline.specs.Walk.{vertex}
use Rattle.outline.specs.Tracing.{bounds_at, drawn, traced, traced_in}
use Rattle.records.specs.Numbers.{signed, twos}
use Rattle.records.specs.Parts.{splice}
use Rattle.sheet.specs.Layout.{layout_of, encoded, decoded, map_limit}
use Rattle.sheet.specs.Trailer.{trailer, trailer_at}
use Rattle.sheet.specs.Sheets.{plots_from, records_bytes, sheet_bytes}
use Rattle.sheet.specs.Checking.{stated, framed, judged, surveyed, inspected, parsed}
use Rattle.sheet.specs.Writing.{laid_over}
use Rattle.sheet.specs.Converting.{is_stray, narrowed, conversion, converted, after_convert}
use Rattle.sheet.proofs.Computed.{plot, seven_bytes, thirteenth_bytes, uneven_bytes, written_trailer, seven_wide, thirteenth_wide, uneven_wide}
use Rattle.sheet.proofs.ComputedEdges.{edge_plot, reaching, leaving, near, feeless, alone, second, sheets}
use Rattle.sheet.proofs.ComputedCounty.{reaching_county}

-- ---- sheets of each record length

-- three plots of 46 bytes after a heading of 3, with 4 bytes after them, and the same of 26
abbrev wide : List ℕ
wide = 201 ∷ 202 ∷ 203 ∷ (seven_wide ++ (12 ∷ 0 ∷ (thirteenth_wide ++ (45 ∷ 1 ∷ (uneven_wide ++ (91 ∷ 60 ∷ (written_trailer 138 3 46 ++ replicate 4 6)))))))

abbrev narrow : List ℕ
narrow = 201 ∷ 202 ∷ 203 ∷ (seven_bytes ++ (12 ∷ 0 ∷ (thirteenth_bytes ++ (45 ∷ 1 ∷ (uneven_bytes ++ (91 ∷ 60 ∷ written_trailer 78 3 26))))))

-- two plots of 24, and the same of 26
abbrev base_sheet : List ℕ
base_sheet = seven_bytes ++ (uneven_bytes ++ written_trailer 48 2 24)

abbrev fee_sheet : List ℕ
fee_sheet = seven_bytes ++ (0 ∷ 0 ∷ (uneven_bytes ++ (0 ∷ 0 ∷ written_trailer 52 2 26)))

-- what follows in the second buffer stays; a sheet of 26 is copied; one of no records too; just the room is enough
pub converts : (after_convert wide 157 (replicate 99 9) ≡ narrow ++ replicate 2 9)
    × (after_convert narrow 97 (replicate 99 9) ≡ narrow ++ replicate 2 9)
    × (after_convert base_sheet 64 (replicate 70 9) ≡ fee_sheet ++ replicate 2 9)
    × (after_convert (204 ∷ 205 ∷ written_trailer 0 0 46) 18 (replicate 21 9) ≡ 204 ∷ 205 ∷ (written_trailer 0 0 26 ++ replicate 3 9))
    × (converted wide 157 (replicate 97 9) ≡ accepted 97) × (converted base_sheet 64 (replicate 68 9) ≡ accepted 68)
unfolding converted after_convert conversion narrowed is_stray laid_over sheet_bytes records_bytes splice trailer encoded twos parsed inspected framed stated trailer_at plots_from surveyed judged map_limit traced_in layout_of decoded signed traced closes placed is_on_map drawn bounds_at vertex
converts = (refl, refl, refl, refl, refl, refl)

-- ---- the old map's edge

abbrev roomy : List ℕ
roomy = replicate 80 9

abbrev answers : List (List ℕ) → List (Outcome ℕ)
answers = map (λ s. converted s (length s) roomy)

-- in sheets of 46: a plot that reaches 16,000 is written back, be it the first record or the second; one that reaches 16,001 is 21, though its
-- start is on the old map and each of its numbers fits 16 bits, and so is one that reaches 2,000,000
pub by_cells : (answers (alone 46 reaching ++ second 46 reaching) ≡ replicate 4 (accepted 42) ++ replicate 4 (accepted 68))
    × (answers (alone 46 leaving ++ second 46 leaving) ≡ replicate 8 (refused 21))
    × (answers (alone 46 reaching_county ++ second 46 reaching_county) ≡ replicate 8 (refused 21))
unfolding converted conversion narrowed is_stray records_bytes trailer encoded twos parsed inspected framed stated trailer_at plots_from surveyed judged map_limit traced_in layout_of decoded signed traced closes placed is_on_map drawn bounds_at vertex
by_cells = (refl, refl, refl)

-- with the bytes of the records at 26, and those that follow
pub cells_written : (map (λ s. after_convert s (length s) roomy) (second 46 reaching) ≡ map (λ r. records_bytes 26 (near ∷ r ∷ []) ++ replicate 12 9) reaching)
    × (map (λ s. after_convert s (length s) roomy) (second 24 reaching) ≡ map (λ r. records_bytes 26 (feeless near ∷ feeless r ∷ []) ++ replicate 12 9) reaching)
    × (map (λ s. after_convert s (length s) roomy) (alone 46 leaving) ≡ replicate 4 roomy)
unfolding after_convert conversion narrowed is_stray laid_over sheet_bytes records_bytes splice trailer encoded twos parsed inspected framed stated trailer_at plots_from surveyed judged map_limit traced_in layout_of decoded signed traced closes placed is_on_map drawn bounds_at vertex
cells_written = (refl, refl, refl)

-- in sheets of 24 and of 26 the one is written back, and the other is the check's 2
pub by_the_check : (answers (sheets reaching) ≡ replicate 8 (accepted 42) ++ replicate 8 (accepted 68)) × (answers (sheets leaving) ≡ replicate 16 (refused 2))
unfolding converted conversion narrowed is_stray records_bytes trailer encoded twos parsed inspected framed stated trailer_at plots_from surveyed judged map_limit traced_in layout_of decoded signed traced closes placed is_on_map drawn bounds_at vertex
by_the_check = (refl, refl)

-- ---- the order of the refusals

-- a plot that leaves the old map, before one whose number is not above its own, one that does not close, and one that leaves the map
abbrev faulty : List (List ℕ)
faulty =
    map (λ r. records_bytes 46 (take 1 leaving ++ (r ∷ [])))
    (near ∷ plot 120007 (pos 13) (negsuc 27) (3 ∷ 1 ∷ 14 ∷ 2 ∷ 5 ∷ 4 ∷ 6 ∷ 8 ∷ []) 1706 ∷ edge_plot 120006 (pos 766) (pos 1999984) 1706 ∷ [])

-- the check's refusals come first, and then 21, though there is no room at all
pub checked_first : (map (λ s. converted s (length s) []) faulty ≡ refused 11 ∷ refused 3 ∷ refused 2 ∷ [])
    × (map (λ s. converted s (length s) []) (second 46 leaving) ≡ replicate 4 (refused 21))
    × (map (λ s. converted s 15 [] ∷ converted s 107 [] ∷ []) (second 46 leaving) ≡ replicate 4 (refused 8 ∷ refused 9 ∷ []))
unfolding converted conversion narrowed is_stray records_bytes trailer encoded twos parsed inspected framed stated trailer_at plots_from surveyed judged map_limit traced_in layout_of decoded signed traced closes placed is_on_map drawn bounds_at vertex
checked_first = (refl, refl, refl)

-- 12 by the new length: a byte too few, and none at all
pub by_room : converted wide 157 [] ∷ converted wide 157 (replicate 96 9) ∷ converted narrow 97 (replicate 96 9) ∷ converted base_sheet 64 (replicate 67 9) ∷ []
    ≡ replicate 4 (refused 12)
unfolding converted conversion narrowed is_stray parsed inspected framed stated trailer_at plots_from surveyed judged map_limit traced_in layout_of decoded signed traced closes placed is_on_map drawn bounds_at vertex
by_room = refl

-- nothing is written where there is no room
pub left_as_was : (after_convert wide 157 (replicate 96 9) ≡ replicate 96 9) × (after_convert base_sheet 64 (take 67 wide) ≡ take 67 wide)
unfolding after_convert conversion narrowed is_stray parsed inspected framed stated trailer_at plots_from surveyed judged map_limit traced_in layout_of decoded signed traced closes placed is_on_map drawn bounds_at vertex
left_as_was = (refl, refl)
