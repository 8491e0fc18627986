-- Two sheets joined by the definitions, byte for byte: one of 24 bytes a record and one of 26, with a plot that both have, in either order; the
-- order of the refusals; and records that differ in one field. antt computes them. Assumes nothing.
use mathlib.Core.Path.{◌≡◌, refl}
use mathlib.Core.Bool.{true, false}
use mathlib.Core.List.{List, [], ◌∷◌, ◌++◌, map}
use Prim.Native.Nat.{ℕ}
use lib.IntN.{pos, negsuc}
use lib.ListN.{replicate}
use Rattle.octagon.specs.Outcome.{accepted, refused}
use Rattle.octagon.specs.NormalForm.{is_on_map, placed}
use Rattle.outline.specs.Closing.{closes}
use Rattle.outline.specs.Walk.{vertex}
use Rattle.outline.specs.Tracing.{bounds_at, drawn, traced, traced_in}
use Rattle.outline.specs.Sameness.{same_outline}
use Rattle.records.specs.Numbers.{signed, twos}
use Rattle.records.specs.Parts.{splice}
use Rattle.sheet.specs.declared.Record.{Record}
use Rattle.sheet.specs.Layout.{layout_of, encoded, decoded, map_limit}
use Rattle.sheet.specs.Trailer.{trailer, trailer_at}
use Rattle.sheet.specs.Merging.{same_record, conflict, merged, in_both}
use Rattle.sheet.specs.Sheets.{plots_from, records_bytes, sheet_bytes}
use Rattle.sheet.specs.Checking.{stated, framed, judged, surveyed, inspected, parsed}
use Rattle.sheet.specs.Writing.{laid_over}
use Rattle.sheet.specs.Joining.{united, joining, joined, after_join, joined_count, joined_length}
use Rattle.sheet.proofs.Computed.{plot, seven, thirteenth, uneven, seven_bytes, thirteenth_bytes, uneven_bytes, written_trailer, seven_wide, thirteenth_wide, uneven_wide}

-- ---- two sheets

-- records of 24 after a heading of 2 bytes, and of 26 after one of 3, two plots each, with 4 and 5 bytes after them; seven is in both
abbrev one : List ℕ
one = 201 ∷ 202 ∷ (seven_bytes ++ (uneven_bytes ++ (written_trailer 48 2 24 ++ replicate 4 6)))

abbrev other : List ℕ
other = 211 ∷ 212 ∷ 213 ∷ (seven_bytes ++ (0 ∷ 0 ∷ (thirteenth_bytes ++ (45 ∷ 1 ∷ (written_trailer 52 2 26 ++ replicate 5 8)))))

-- the three plots with 46 bytes each, and their trailer
abbrev three : List ℕ
three = seven_wide ++ (0 ∷ 0 ∷ (thirteenth_wide ++ (45 ∷ 1 ∷ (uneven_wide ++ (0 ∷ 0 ∷ written_trailer 138 3 46)))))

-- under the heading of the one that comes first, and what follows in the third buffer stays; just the room is enough
pub joins : (after_join one 66 other 71 (replicate 159 9) ≡ 201 ∷ 202 ∷ (three ++ replicate 3 9))
    × (after_join other 71 one 66 (replicate 159 9) ≡ 211 ∷ 212 ∷ 213 ∷ (three ++ replicate 2 9))
    × (joined one 66 other 71 (replicate 156 9) ≡ accepted 156) × (joined other 71 one 66 (replicate 157 9) ≡ accepted 157)
unfolding joined after_join joining united conflict merged same_record same_outline laid_over sheet_bytes records_bytes splice trailer parsed inspected framed stated trailer_at plots_from surveyed judged map_limit traced_in layout_of decoded encoded signed twos traced closes placed is_on_map drawn bounds_at vertex
joins = (refl, refl, refl, refl)

-- how many records they have together, and how long the sheet of them is
pub counts : (joined_count one 66 other 71 2 2 ≡ 3) × (joined_length one 66 3 ≡ 156) × (joined_length other 71 3 ≡ 157)
unfolding trailer_at plots_from layout_of decoded signed
counts = (refl, refl, refl)

-- ---- the order of the refusals

-- `other` with another fee row for seven, and plots by falling number
abbrev changed : List ℕ
changed = 211 ∷ 212 ∷ 213 ∷ (seven_bytes ++ (0 ∷ 1 ∷ (thirteenth_bytes ++ (45 ∷ 1 ∷ written_trailer 52 2 26))))

abbrev falling : List ℕ
falling = thirteenth_bytes ++ (45 ∷ 1 ∷ (seven_bytes ++ (0 ∷ 1 ∷ written_trailer 52 2 26)))

-- the first sheet's 8, the second's 9 and 11, then 18 though there is no room at all, then 12 by the new length, each before the next
pub joined_in_order :
    joined one 15 changed 70 [] ∷ joined one 66 changed 70 [] ∷ joined changed 71 one 65 [] ∷ joined one 66 falling 68 []
    ∷ joined one 66 changed 71 [] ∷ joined changed 71 one 66 (replicate 159 9) ∷ joined one 66 other 71 [] ∷ joined one 66 other 71 (replicate 155 9) ∷ []
    ≡ refused 8 ∷ refused 9 ∷ refused 9 ∷ refused 11 ∷ refused 18 ∷ refused 18 ∷ refused 12 ∷ refused 12 ∷ []
unfolding joined joining united conflict merged same_record same_outline parsed inspected framed stated trailer_at plots_from surveyed judged map_limit traced_in layout_of decoded signed traced closes placed is_on_map drawn bounds_at vertex
joined_in_order = refl

-- nothing is written where it is refused
pub left_as_was : (after_join one 66 changed 71 (replicate 159 9) ≡ replicate 159 9) × (after_join one 66 other 71 (replicate 155 9) ≡ replicate 155 9)
unfolding after_join joining united conflict merged same_record same_outline parsed inspected framed stated trailer_at plots_from surveyed judged map_limit traced_in layout_of decoded signed traced closes placed is_on_map drawn bounds_at vertex
left_as_was = (refl, refl)

-- ---- records that differ

-- a plot, and others of its number that differ in one field each
abbrev same_number : List Record
same_number =
    plot 9 (pos 21) (negsuc 33) (1 ∷ 2 ∷ 3 ∷ 4 ∷ 5 ∷ 6 ∷ 7 ∷ 8 ∷ []) 10
    ∷ plot 9 (negsuc 20) (negsuc 33) (1 ∷ 2 ∷ 3 ∷ 4 ∷ 5 ∷ 6 ∷ 7 ∷ 8 ∷ []) 10
    ∷ plot 9 (pos 21) (pos 33) (1 ∷ 2 ∷ 3 ∷ 4 ∷ 5 ∷ 6 ∷ 7 ∷ 8 ∷ []) 10
    ∷ plot 9 (pos 21) (negsuc 33) (11 ∷ 2 ∷ 3 ∷ 4 ∷ 5 ∷ 6 ∷ 7 ∷ 8 ∷ []) 10
    ∷ plot 9 (pos 21) (negsuc 33) (1 ∷ 12 ∷ 3 ∷ 4 ∷ 5 ∷ 6 ∷ 7 ∷ 8 ∷ []) 10
    ∷ plot 9 (pos 21) (negsuc 33) (1 ∷ 2 ∷ 13 ∷ 4 ∷ 5 ∷ 6 ∷ 7 ∷ 8 ∷ []) 10
    ∷ plot 9 (pos 21) (negsuc 33) (1 ∷ 2 ∷ 3 ∷ 14 ∷ 5 ∷ 6 ∷ 7 ∷ 8 ∷ []) 10
    ∷ plot 9 (pos 21) (negsuc 33) (1 ∷ 2 ∷ 3 ∷ 4 ∷ 15 ∷ 6 ∷ 7 ∷ 8 ∷ []) 10
    ∷ plot 9 (pos 21) (negsuc 33) (1 ∷ 2 ∷ 3 ∷ 4 ∷ 5 ∷ 16 ∷ 7 ∷ 8 ∷ []) 10
    ∷ plot 9 (pos 21) (negsuc 33) (1 ∷ 2 ∷ 3 ∷ 4 ∷ 5 ∷ 6 ∷ 17 ∷ 8 ∷ []) 10
    ∷ plot 9 (pos 21) (negsuc 33) (1 ∷ 2 ∷ 3 ∷ 4 ∷ 5 ∷ 6 ∷ 7 ∷ 18 ∷ []) 10
    ∷ plot 9 (pos 21) (negsuc 33) (1 ∷ 2 ∷ 3 ∷ 4 ∷ 5 ∷ 6 ∷ 7 ∷ 8 ∷ []) 19
    ∷ plot 8 (pos 21) (negsuc 33) (1 ∷ 2 ∷ 3 ∷ 4 ∷ 5 ∷ 6 ∷ 7 ∷ 8 ∷ []) 10 ∷ []

abbrev ninth : Record
ninth = plot 9 (pos 21) (negsuc 33) (1 ∷ 2 ∷ 3 ∷ 4 ∷ 5 ∷ 6 ∷ 7 ∷ 8 ∷ []) 10

-- the first is the same; the last has another number, so that it differs and does not conflict
pub told_apart : (map (same_record ninth) same_number ≡ true ∷ replicate 12 false)
    × (map (λ r. conflict (ninth ∷ []) (thirteenth 301 ∷ r ∷ [])) same_number ≡ false ∷ (replicate 11 true ++ (false ∷ [])))
    × (map (λ r. conflict (seven 12 ∷ r ∷ []) (ninth ∷ [])) same_number ≡ false ∷ (replicate 11 true ++ (false ∷ [])))
unfolding conflict same_record same_outline
told_apart = (refl, refl, refl)

-- those of either by number, one of both once; how many are in both
pub in_turn : (merged (seven 12 ∷ uneven 15451 ∷ []) (ninth ∷ thirteenth 301 ∷ uneven 15451 ∷ []) ≡ seven 12 ∷ ninth ∷ thirteenth 301 ∷ uneven 15451 ∷ [])
    × (in_both (seven 12 ∷ uneven 15451 ∷ []) (ninth ∷ thirteenth 301 ∷ uneven 15451 ∷ []) ≡ 1)
    × (in_both (seven 12 ∷ thirteenth 301 ∷ uneven 15451 ∷ []) (seven 12 ∷ ninth ∷ uneven 15451 ∷ []) ≡ 2)
unfolding merged
in_turn = (refl, refl, refl)
