-- Document 01's sheet with one plot more, whose fields all differ, made and read by the definitions: with fee rows, of document 01's
-- records, and rewritten by an insert; a record in another layout, and the order of records. antt computes them. Assumes nothing.
use mathlib.Core.Path.{◌≡◌, refl}
use mathlib.Core.Bool.{true, false}
use mathlib.Core.List.{List, [], ◌∷◌, ◌++◌, map}
use Prim.Native.Nat.{ℕ}
use lib.IntN.{ℤ, pos, negsuc}
use lib.ListN.{replicate}
use Rattle.octagon.specs.Outcome.{accepted, refused}
use Rattle.octagon.specs.NormalForm.{is_on_map, placed}
use Rattle.outline.specs.Closing.{closes}
use Rattle.outline.specs.Walk.{with_sides, vertex}
use Rattle.outline.specs.Tracing.{bounds_at, drawn, traced, traced_in}
use Rattle.records.specs.Numbers.{signed, twos}
use Rattle.records.specs.Parts.{splice}
use Rattle.sheet.specs.declared.Record.{Record}
use Rattle.sheet.specs.Layout.{layout_of, encoded, decoded, map_limit}
use Rattle.sheet.specs.Trailer.{trailer, trailer_at}
use Rattle.sheet.specs.Order.{nth, present, rank, put_in_order}
use Rattle.sheet.specs.Sheets.{plots_from, records_bytes, sheet_bytes}
use Rattle.sheet.specs.Checking.{stated, framed, judged, surveyed, inspected, parsed, checked, fetched, read}
use Rattle.sheet.specs.Writing.{laid_over, started, after_start, admitted, insertion, after_insert}

abbrev pub plot : ℕ → ℤ → ℤ → List ℕ → ℕ → Record
plot v i j n f = record { number = v; outline = with_sides i j n; fee_row = f }

-- "7 = start (2,-1), n0=3 n2=1 n4=3 n6=1, and 11407 = K13", each with a fee row
abbrev pub seven : ℕ → Record
seven = plot 7 (pos 2) (negsuc 0) (3 ∷ 0 ∷ 1 ∷ 0 ∷ 3 ∷ 0 ∷ 1 ∷ 0 ∷ [])

abbrev pub thirteenth : ℕ → Record
thirteenth = plot 11407 (pos 0) (pos 0) (0 ∷ 1 ∷ 0 ∷ 1 ∷ 0 ∷ 1 ∷ 0 ∷ 1 ∷ [])

-- all fields differ, and with the fee row 15451 so do all bytes
abbrev pub uneven : ℕ → Record
uneven = plot 286397204 (negsuc 299) (pos 515) (1070 ∷ 3452 ∷ 461 ∷ 2371 ∷ 2982 ∷ 1979 ∷ 1495 ∷ 2810 ∷ [])

-- ---- a sheet with fee rows

-- a buffer of 170 bytes, each 9
abbrev pub buffer : List ℕ
buffer = replicate 170 9

-- the bytes of each plot but for its fee row
abbrev pub seven_bytes : List ℕ
seven_bytes = 7 ∷ 0 ∷ 0 ∷ 0 ∷ 2 ∷ 0 ∷ 255 ∷ 255 ∷ 3 ∷ 0 ∷ 0 ∷ 0 ∷ 1 ∷ 0 ∷ 0 ∷ 0 ∷ 3 ∷ 0 ∷ 0 ∷ 0 ∷ 1 ∷ 0 ∷ 0 ∷ 0 ∷ []

abbrev pub thirteenth_bytes : List ℕ
thirteenth_bytes = 143 ∷ 44 ∷ 0 ∷ 0 ∷ 0 ∷ 0 ∷ 0 ∷ 0 ∷ 0 ∷ 0 ∷ 1 ∷ 0 ∷ 0 ∷ 0 ∷ 1 ∷ 0 ∷ 0 ∷ 0 ∷ 1 ∷ 0 ∷ 0 ∷ 0 ∷ 1 ∷ 0 ∷ []

abbrev pub uneven_bytes : List ℕ
uneven_bytes = 20 ∷ 19 ∷ 18 ∷ 17 ∷ 212 ∷ 254 ∷ 3 ∷ 2 ∷ 46 ∷ 4 ∷ 124 ∷ 13 ∷ 205 ∷ 1 ∷ 67 ∷ 9 ∷ 166 ∷ 11 ∷ 187 ∷ 7 ∷ 215 ∷ 5 ∷ 250 ∷ 10 ∷ []

-- and in the layout of U10
abbrev pub seven_wide : List ℕ
seven_wide =
    7 ∷ 0 ∷ 0 ∷ 0 ∷ 2 ∷ 0 ∷ 0 ∷ 0 ∷ 255 ∷ 255 ∷ 255 ∷ 255 ∷ 3 ∷ 0 ∷ 0 ∷ 0 ∷ 0 ∷ 0 ∷ 0 ∷ 0 ∷ 1 ∷ 0 ∷ 0 ∷ 0
    ∷ 0 ∷ 0 ∷ 0 ∷ 0 ∷ 3 ∷ 0 ∷ 0 ∷ 0 ∷ 0 ∷ 0 ∷ 0 ∷ 0 ∷ 1 ∷ 0 ∷ 0 ∷ 0 ∷ 0 ∷ 0 ∷ 0 ∷ 0 ∷ []

abbrev pub thirteenth_wide : List ℕ
thirteenth_wide =
    143 ∷ 44 ∷ 0 ∷ 0 ∷ 0 ∷ 0 ∷ 0 ∷ 0 ∷ 0 ∷ 0 ∷ 0 ∷ 0 ∷ 0 ∷ 0 ∷ 0 ∷ 0 ∷ 1 ∷ 0 ∷ 0 ∷ 0 ∷ 0 ∷ 0 ∷ 0 ∷ 0
    ∷ 1 ∷ 0 ∷ 0 ∷ 0 ∷ 0 ∷ 0 ∷ 0 ∷ 0 ∷ 1 ∷ 0 ∷ 0 ∷ 0 ∷ 0 ∷ 0 ∷ 0 ∷ 0 ∷ 1 ∷ 0 ∷ 0 ∷ 0 ∷ []

abbrev pub uneven_wide : List ℕ
uneven_wide =
    20 ∷ 19 ∷ 18 ∷ 17 ∷ 212 ∷ 254 ∷ 255 ∷ 255 ∷ 3 ∷ 2 ∷ 0 ∷ 0 ∷ 46 ∷ 4 ∷ 0 ∷ 0 ∷ 124 ∷ 13 ∷ 0 ∷ 0 ∷ 205 ∷ 1 ∷ 0 ∷ 0
    ∷ 67 ∷ 9 ∷ 0 ∷ 0 ∷ 166 ∷ 11 ∷ 0 ∷ 0 ∷ 187 ∷ 7 ∷ 0 ∷ 0 ∷ 215 ∷ 5 ∷ 0 ∷ 0 ∷ 250 ∷ 10 ∷ 0 ∷ 0 ∷ []

-- the trailer of n records of L bytes, d bytes in all, each number below 256
abbrev pub written_trailer : ℕ → ℕ → ℕ → List ℕ
written_trailer d n L = d ∷ 0 ∷ 0 ∷ 0 ∷ n ∷ 0 ∷ 0 ∷ 0 ∷ L ∷ 0 ∷ 0 ∷ 0 ∷ 71 ∷ 82 ∷ 78 ∷ 68 ∷ []

-- the sheet of the three plots after a heading of 3 bytes: the lower number first, whichever was inserted first
abbrev pub made : List ℕ
made =
    9 ∷ 9 ∷ 9 ∷
    (seven_wide ++ (12 ∷ 0 ∷ (thirteenth_wide ++ (45 ∷ 1 ∷ (uneven_wide ++ (91 ∷ 60 ∷ (written_trailer 138 3 46 ++ replicate 13 9)))))))

makes : after_insert (after_insert (after_insert (after_start buffer 3) 19 (thirteenth 301)) 65 (uneven 15451)) 111 (seven 12) ≡ made
unfolding after_start started laid_over sheet_bytes records_bytes splice trailer after_insert insertion admitted parsed inspected framed stated trailer_at plots_from surveyed judged map_limit traced_in layout_of decoded encoded signed twos traced closes placed is_on_map drawn bounds_at vertex
makes = refl

-- what is read of it, and of a part of it
pub reads : (checked made 157 ≡ accepted 3)
    × (map (fetched made 157) (0 ∷ 1 ∷ 2 ∷ 3 ∷ []) ≡ accepted (seven 12) ∷ accepted (thirteenth 301) ∷ accepted (uneven 15451) ∷ refused 13 ∷ [])
    × (map (read made 157) (2 ∷ 3 ∷ []) ≡ accepted (uneven 15451) ∷ refused 13 ∷ []) × (fetched made 156 9 ≡ refused 9) × (read made 156 9 ≡ refused 9) × (read made 15 9 ≡ refused 8)
unfolding fetched read checked parsed inspected framed stated trailer_at plots_from surveyed judged map_limit traced_in layout_of decoded signed traced closes placed is_on_map drawn bounds_at vertex
reads = (refl, refl, refl, refl, refl, refl)

-- ---- a sheet of document 01's records

-- two plots after a heading of 3 bytes, in the same buffer
abbrev pub base_made : List ℕ
base_made = 9 ∷ 9 ∷ 9 ∷ (seven_bytes ++ (uneven_bytes ++ (written_trailer 48 2 24 ++ replicate 103 9)))

pub base_reads : (checked base_made 67 ≡ accepted 2)
    × (map (fetched base_made 67) (0 ∷ 1 ∷ 2 ∷ []) ≡ accepted (seven 0) ∷ accepted (uneven 0) ∷ refused 13 ∷ []) × (map (read base_made 67) (1 ∷ 2 ∷ []) ≡ accepted (uneven 0) ∷ refused 13 ∷ [])
unfolding fetched read checked parsed inspected framed stated trailer_at plots_from surveyed judged map_limit traced_in layout_of decoded signed traced closes placed is_on_map drawn bounds_at vertex
base_reads = (refl, refl, refl)

-- an insert rewrites it: the old plots have the fee row 0; and so does one into a sheet of none, whose trailer says 24
pub rewrites : (after_insert base_made 67 (thirteenth 301)
    ≡ 9 ∷ 9 ∷ 9 ∷ (seven_wide ++ (0 ∷ 0 ∷ (thirteenth_wide ++ (45 ∷ 1 ∷ (uneven_wide ++ (0 ∷ 0 ∷ (written_trailer 138 3 46 ++ replicate 13 9))))))))
    × (after_insert (written_trailer 0 0 24 ++ replicate 50 8) 16 (uneven 15451) ≡ uneven_wide ++ (91 ∷ 60 ∷ (written_trailer 46 1 46 ++ replicate 4 8)))
unfolding laid_over sheet_bytes records_bytes splice trailer after_insert insertion admitted parsed inspected framed stated trailer_at plots_from surveyed judged map_limit traced_in layout_of decoded encoded signed twos traced closes placed is_on_map drawn bounds_at vertex
rewrites = (refl, refl)

-- ---- any layout, and the order of records

-- fields of 3, 1, 4, 2, 1, 3, 4, 0, 2, 1, 2 and 1 bytes, of which n4 is lacking, and a record in them
abbrev mixed : List ℕ
mixed = 3 ∷ 1 ∷ 4 ∷ 2 ∷ 1 ∷ 3 ∷ 4 ∷ 0 ∷ 2 ∷ 1 ∷ 2 ∷ 1 ∷ []

abbrev lacking : Record
lacking = plot 1315602 (negsuc 76) (negsuc 70000122) (51234 ∷ 201 ∷ 9876543 ∷ 4000000001 ∷ 0 ∷ 60001 ∷ 77 ∷ 44187 ∷ []) 143

pub laid_out : (encoded mixed lacking ≡ 18 ∷ 19 ∷ 20 ∷ 179 ∷ 5 ∷ 226 ∷ 211 ∷ 251 ∷ 34 ∷ 200 ∷ 201 ∷ 63 ∷ 180 ∷ 150 ∷ 1 ∷ 40 ∷ 107 ∷ 238 ∷ 97 ∷ 234 ∷ 77 ∷ 155 ∷ 172 ∷ 143 ∷ [])
    × (decoded mixed (encoded mixed lacking) ≡ lacking)
unfolding encoded decoded signed twos
laid_out = (refl, refl)

-- of seven and uneven: which numbers are present, where a number stands, a record put between them, and each by its place
abbrev two : List Record
two = seven 12 ∷ uneven 15451 ∷ []

pub plots_in_order : (map (λ v. present v two) (6 ∷ 7 ∷ 286397204 ∷ []) ≡ false ∷ true ∷ true ∷ []) × (map (λ v. rank v two) (7 ∷ 8 ∷ 286397205 ∷ []) ≡ 0 ∷ 1 ∷ 2 ∷ [])
    × (put_in_order (thirteenth 301) two ≡ seven 12 ∷ thirteenth 301 ∷ uneven 15451 ∷ []) × (map (nth two) (0 ∷ 1 ∷ 2 ∷ []) ≡ accepted (seven 12) ∷ accepted (uneven 15451) ∷ refused 13 ∷ [])
plots_in_order = (refl, refl, refl, refl)
