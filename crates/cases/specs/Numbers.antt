-- The limits, lengths, refusal numbers and fields of documents 01 and 02, and document 01's tables, with the values that they print, by one
-- computed test over a list. Theorems name constants; this list says what the constants are. Assumes nothing.
use Rattle.std.specs.Prelude.{◌≡◌, ℕ, ◌*◌, List, [], ◌∷◌, map, replicate, ℤ, pos, neg_ℤ, slice_set, refl}
use Rattle.octagon.specs.Outcome.{no_cell, off_map}
use Rattle.octagon.specs.Cells.{limit}
use Rattle.outline.specs.declared.Outline.{Outline}
use Rattle.outline.specs.Tables.{steps, pieces, piece_sides}
use Rattle.outline.specs.Walk.{with_sides}
use Rattle.outline.specs.Tracing.{not_closed}
use Rattle.outline.specs.Places.{no_vertex}
use Rattle.morphology.specs.Operations.{nothing_left}
use Rattle.morphology.specs.Folds.{fold_limit, too_many_folds}
use Rattle.decomposition.specs.Pieces.{outlines, piece_of}
use Rattle.records.specs.Numbers.{bytes}
use Rattle.sheet.specs.Layout.{base_layout, base_length, fee_layout, fee_length, county_layout, county_length, record_length, old_limit}
use Rattle.sheet.specs.Trailer.{trailer_length, letters, trailer_layout}
use Rattle.sheet.specs.Sheets.{sheet_limit}
use Rattle.sheet.specs.Answers.{bad_length, bad_trailer, bad_distance, bad_number, no_room, no_record, two_records, off_old_map}
use Rattle.tape.specs.Snapping.{not_finite}
use Rattle.tape.specs.Enclosing.{no_point, half_point}
use Rattle.clearance.specs.Clearing.{radius_limit, too_wide}
use Rattle.spectrum.specs.Spectra.{no_origin, no_other_cell}
use Rattle.cases.specs.Shorthand.{Case, is}

-- ---- what the documents print

-- document 02's U10, "the map runs from -2,000,000 to 2,000,000", and document 01's map, which U10 keeps for sheets of 24 and 26, "both
-- coordinates from -16,000 to 16,000"; U10, "folds go to 4,000,001"; document 01, "8 when the length is .. above 65,536"; the lengths of a
-- record in document 01, U2 and U10, and the one that U10 writes; document 01, "The trailer is 16 bytes"; U3, "17 when the radius is above 255"
abbrev pub printed_limits : List ℕ
printed_limits = 2000000 ∷ 16000 ∷ 4000001 ∷ 65536 ∷ 24 ∷ 26 ∷ 46 ∷ 46 ∷ 16 ∷ 255 ∷ []

-- the refusals: no cell, off the map, not closed, nothing left, too many folds, corner above 7, length, trailer, distance,
-- plot number, no room, no record; and those of document 02: not finite, no point, half a point, radius above 255, one number for two
-- records, no cell (0, 0), no other cell, off the old map. Document 02's U4 takes document 01's 4 away
abbrev pub printed_refusals : List ℕ
printed_refusals = 1 ∷ 2 ∷ 3 ∷ 5 ∷ 6 ∷ 7 ∷ 8 ∷ 9 ∷ 10 ∷ 11 ∷ 12 ∷ 13 ∷ 14 ∷ 15 ∷ 16 ∷ 17 ∷ 18 ∷ 19 ∷ 20 ∷ 21 ∷ []

-- "the letters GRND"
abbrev pub printed_letters : List ℕ
printed_letters = 71 ∷ 82 ∷ 78 ∷ 68 ∷ []

-- the fields of a record in bits, "plot number (unsigned 32), i and j (signed 16 each), n0 to n7 (unsigned 16 each)", or in U10 "plot number,
-- 32-bit i and j, eight 32-bit sides", and last the fee row: 0 where there is none, or "an unsigned 16-bit fee row"; and the fields of a trailer
abbrev pub printed_record_fields : ℕ → ℕ → List ℕ
printed_record_fields each fee = 32 ∷ each ∷ each ∷ each ∷ each ∷ each ∷ each ∷ each ∷ each ∷ each ∷ each ∷ fee ∷ []

abbrev pub printed_trailer_fields : List ℕ
printed_trailer_fields = 32 ∷ 32 ∷ 16 ∷ 16 ∷ 32 ∷ []

-- "d0 (1,0), d1 (1,1), d2 (0,1), d3 (-1,1), d4 (-1,0), d5 (-1,-1), d6 (0,-1), d7 (1,-1)"
abbrev vector : ℤ → ℤ → List ℤ
vector x y = x ∷ y ∷ []

abbrev pub printed_steps : List (List ℤ)
printed_steps =
    vector (pos 1) (pos 0) ∷ vector (pos 1) (pos 1) ∷ vector (pos 0) (pos 1) ∷ vector (neg_ℤ (pos 1)) (pos 1) ∷
    vector (neg_ℤ (pos 1)) (pos 0) ∷ vector (neg_ℤ (pos 1)) (neg_ℤ (pos 1)) ∷ vector (pos 0) (neg_ℤ (pos 1)) ∷ vector (pos 1) (neg_ℤ (pos 1)) ∷ []

-- eight sides, of which some are shown, each by its number and length: "sides not shown are 0"
abbrev pub shown : List (ℕ × ℕ) → List ℕ
shown [] = replicate 8 0
shown (n ∷ ns) = slice_set (shown ns) n.0 n.1

-- K1 to K13
abbrev pub printed_pieces : List (List ℕ)
printed_pieces =
    map shown
    (((0, 1) ∷ (4, 1) ∷ []) ∷
    ((1, 1) ∷ (5, 1) ∷ []) ∷
    ((2, 1) ∷ (6, 1) ∷ []) ∷
    ((3, 1) ∷ (7, 1) ∷ []) ∷
    ((0, 1) ∷ (2, 1) ∷ (5, 1) ∷ []) ∷
    ((0, 1) ∷ (3, 1) ∷ (6, 1) ∷ []) ∷
    ((1, 1) ∷ (4, 1) ∷ (6, 1) ∷ []) ∷
    ((2, 1) ∷ (4, 1) ∷ (7, 1) ∷ []) ∷
    ((0, 2) ∷ (3, 1) ∷ (5, 1) ∷ []) ∷
    ((1, 1) ∷ (4, 2) ∷ (7, 1) ∷ []) ∷
    ((1, 1) ∷ (3, 1) ∷ (6, 2) ∷ []) ∷
    ((2, 2) ∷ (5, 1) ∷ (7, 1) ∷ []) ∷
    ((1, 1) ∷ (3, 1) ∷ (5, 1) ∷ (7, 1) ∷ []) ∷ [])

-- "Each starts at (0,0)"
abbrev pub printed_outlines : List Outline
printed_outlines = map (with_sides (pos 0) (pos 0)) printed_pieces

-- ---- and what the definitions are

-- numbers, step vectors, rows of sides or outlines
pub data Fixed : Type 0 where
  numbers : List ℕ → Fixed
  vectors : List (List ℤ) → Fixed
  table : List (List ℕ) → Fixed
  pieces_of : List Outline → Fixed

-- the rows of a table of thirteen
abbrev thirteen : List ℕ
thirteen = 0 ∷ 1 ∷ 2 ∷ 3 ∷ 4 ∷ 5 ∷ 6 ∷ 7 ∷ 8 ∷ 9 ∷ 10 ∷ 11 ∷ 12 ∷ []

pub fixed_numbers : List (Case Fixed)
fixed_numbers =
    is (numbers (limit ∷ old_limit ∷ fold_limit ∷ sheet_limit ∷ base_length ∷ fee_length ∷ county_length ∷ record_length ∷ trailer_length ∷ radius_limit ∷ []))
    (numbers printed_limits) ∷
    is (numbers (no_cell ∷ off_map ∷ not_closed ∷ nothing_left ∷ too_many_folds ∷ no_vertex ∷ bad_length ∷ bad_trailer ∷ bad_distance ∷ bad_number ∷ no_room ∷ no_record ∷ not_finite ∷ no_point ∷ half_point ∷ too_wide ∷ two_records ∷ no_origin ∷ no_other_cell ∷ off_old_map ∷ []))
    (numbers printed_refusals) ∷
    is (numbers (bytes 4 letters)) (numbers printed_letters) ∷
    is (numbers (map (λ w. 8 * w) base_layout)) (numbers (printed_record_fields 16 0)) ∷
    is (numbers (map (λ w. 8 * w) fee_layout)) (numbers (printed_record_fields 16 16)) ∷
    is (numbers (map (λ w. 8 * w) county_layout)) (numbers (printed_record_fields 32 16)) ∷
    is (numbers (map (λ w. 8 * w) trailer_layout)) (numbers printed_trailer_fields) ∷
    is (vectors steps) (vectors printed_steps) ∷
    is (table pieces) (table printed_pieces) ∷
    is (table (map piece_sides thirteen)) (table printed_pieces) ∷
    is (pieces_of (map piece_of thirteen)) (pieces_of printed_outlines) ∷
    is (pieces_of outlines) (pieces_of printed_outlines) ∷
    []

-- each is as the documents print it
pub as_printed : map (λ c. c.given) fixed_numbers ≡ map (λ c. c.expected) fixed_numbers
unfolding fixed_numbers pieces piece_sides piece_of outlines
as_printed = refl
