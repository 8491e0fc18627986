-- The order of the refusals on sheets with several faults, of each record length, and where an insert finds no room: antt computes them.
-- Assumes nothing.
use mathlib.Core.Path.{◌≡◌, refl}
use mathlib.Core.Bool.{true, false}
use mathlib.Core.List.{List, [], ◌∷◌, ◌++◌, map}
use Prim.Native.Nat.{ℕ}
use lib.IntN.{ℤ, pos, negsuc}
use lib.ListN.{length, drop, take}
use Rattle.octagon.specs.Outcome.{accepted, refused}
use Rattle.octagon.specs.NormalForm.{is_on_map, placed}
use Rattle.outline.specs.Closing.{closes}
use Rattle.outline.specs.Walk.{vertex}
use Rattle.outline.specs.Tracing.{bounds_at, drawn, traced, traced_in}
use Rattle.records.specs.Numbers.{signed, twos}
use Rattle.records.specs.Parts.{splice}
use Rattle.sheet.specs.declared.Record.{Record}
use Rattle.sheet.specs.declared.trailer.Trailer.{Trailer}
use Rattle.sheet.specs.Layout.{base_layout, fee_layout, layout_of, encoded, decoded, map_limit, county_layout}
use Rattle.sheet.specs.Trailer.{letters, trailer, trailer_at}
use Rattle.sheet.specs.Sheets.{plots_from, records_bytes, sheet_bytes}
use Rattle.sheet.specs.Checking.{stated, framed, judged, surveyed, inspected, parsed, checked}
use Rattle.sheet.specs.Writing.{laid_over, has_no_room, started, after_start, admitted, insertion, inserted}
use Rattle.sheet.proofs.Computed.{plot, buffer, written_trailer, made, base_made}

-- an outline that does not close; one that starts in column x, which leaves the old map from 15,999 and the map from 1,999,999; and one that is
-- right
abbrev open_plot : ℕ → Record
open_plot v = plot v (pos 1) (pos 2) (3 ∷ 1 ∷ 14 ∷ 2 ∷ 5 ∷ 4 ∷ 6 ∷ 8 ∷ []) 9

abbrev off_plot : ℤ → ℕ → Record
off_plot x v = plot v x (pos 2) (3 ∷ 1 ∷ 14 ∷ 2 ∷ 5 ∷ 4 ∷ 6 ∷ 7 ∷ []) 10

abbrev good_plot : ℕ → Record
good_plot v = plot v (negsuc 3) (negsuc 4) (3 ∷ 1 ∷ 14 ∷ 2 ∷ 5 ∷ 4 ∷ 6 ∷ 7 ∷ []) 11

-- ---- the trailer

abbrev told : ℕ → ℕ → ℕ → ℕ → Trailer
told d n L z = record { distance = d; count = n; length = L; zeros = z; letters = letters }

-- 9 for a record length that there is not, or a byte that is not zero; 10 for a distance of another length, for one that a product of 32 bits
-- would give (26 times 2147483648 is 13 times 4294967296, and 46 times it 23 times), and for one byte too many; then the trailer itself
pub stated_in_order :
    (map (stated 94)
    (told 1 3 0 0 ∷ told 75 3 25 0 ∷ told 81 3 27 0 ∷ told 72 3 26 1 ∷ told 72 3 26 0 ∷ told 78 3 24 0 ∷ told 0 2147483648 26 0 ∷ told 96 4 24 0
    ∷ told 72 3 24 0 ∷ told 78 3 26 0 ∷ [])
    ≡ refused 9 ∷ refused 9 ∷ refused 9 ∷ refused 9 ∷ refused 10 ∷ refused 10 ∷ refused 10 ∷ refused 10 ∷ accepted (told 72 3 24 0) ∷ accepted (told 78 3 26 0) ∷ [])
    × (map (stated 153)
    (told 135 3 45 0 ∷ told 141 3 47 0 ∷ told 138 3 46 1 ∷ told 78 3 46 0 ∷ told 138 3 26 0 ∷ told 0 2147483648 46 0 ∷ told 138 3 46 0 ∷ [])
    ≡ refused 9 ∷ refused 9 ∷ refused 9 ∷ refused 10 ∷ refused 10 ∷ refused 10 ∷ refused 10 ∷ [])
    × (stated 154 (told 138 3 46 0) ≡ accepted (told 138 3 46 0))
unfolding stated
stated_in_order = (refl, refl, refl)

-- ---- check a sheet

-- 9, 10 (twice: not the record length times the count, and more than the length less 16), then of each record 11 (0, equal, falling), 3,
-- 2, where a later fault is there too; and a sheet that is right: for records of L bytes in the layout ws, whose map column x + 4 lies off
abbrev faults : ℕ → List ℕ → ℤ → List (List ℕ)
faults L ws x =
    (encoded ws (open_plot 0) ++ (23 ∷ 0 ∷ 0 ∷ 0 ∷ 1 ∷ 0 ∷ 0 ∷ 0 ∷ L ∷ 0 ∷ 0 ∷ 0 ∷ 71 ∷ 82 ∷ 78 ∷ 69 ∷ [])) ∷
    (encoded ws (open_plot 0) ++ written_trailer 23 1 L) ∷
    (drop 1 (encoded ws (open_plot 0)) ++ trailer L 1) ∷
    (encoded ws (open_plot 0) ++ trailer L 1) ∷
    (encoded ws (good_plot 5) ++ (encoded ws (open_plot 5) ++ trailer L 2)) ∷
    (encoded ws (good_plot 5) ++ (encoded ws (off_plot x 4) ++ trailer L 2)) ∷
    (encoded ws (plot 5 x (pos 2) (3 ∷ 1 ∷ 14 ∷ 2 ∷ 5 ∷ 4 ∷ 6 ∷ 8 ∷ []) 12) ++ trailer L 1) ∷
    (encoded ws (off_plot x 5) ++ (encoded ws (good_plot 5) ++ trailer L 2)) ∷
    (encoded ws (good_plot 5) ++ (encoded ws (good_plot 6) ++ trailer L 2)) ∷ []

pub checked_in_order : map (λ s. checked s (length s)) (faults 24 base_layout (pos 15999) ++ (faults 26 fee_layout (pos 15999) ++ faults 46 county_layout (pos 1999999)))
    ≡ refused 9 ∷ refused 10 ∷ refused 10 ∷ refused 11 ∷ refused 11 ∷ refused 11 ∷ refused 3 ∷ refused 2 ∷ accepted 2
    ∷ refused 9 ∷ refused 10 ∷ refused 10 ∷ refused 11 ∷ refused 11 ∷ refused 11 ∷ refused 3 ∷ refused 2 ∷ accepted 2
    ∷ refused 9 ∷ refused 10 ∷ refused 10 ∷ refused 11 ∷ refused 11 ∷ refused 11 ∷ refused 3 ∷ refused 2 ∷ accepted 2 ∷ []
unfolding checked parsed inspected framed stated trailer_at plots_from surveyed judged map_limit traced_in layout_of decoded encoded trailer signed twos traced closes placed is_on_map drawn bounds_at vertex
checked_in_order = refl

-- ---- insert a plot

-- the outline's 3 and 2, the check's 8 and 9, 11 for the number 0 or one that is present, 12, and the new length: each before the next
pub inserted_in_order : map (inserted made 15) (open_plot 0 ∷ off_plot (pos 1999999) 0 ∷ off_plot (pos 15999) 0 ∷ []) ≡ refused 3 ∷ refused 2 ∷ refused 8 ∷ []
unfolding inserted insertion admitted parsed inspected framed stated trailer_at plots_from surveyed judged map_limit traced_in layout_of decoded signed traced closes placed is_on_map drawn bounds_at vertex
inserted_in_order = refl

pub inserted_by_number : (map (inserted made 157) (good_plot 0 ∷ good_plot 7 ∷ good_plot 8 ∷ []) ≡ refused 11 ∷ refused 11 ∷ refused 12 ∷ [])
    × (inserted made 156 (good_plot 0) ≡ refused 9) × (map (inserted (after_start buffer 3) 19) (good_plot 0 ∷ good_plot 4294967295 ∷ []) ≡ refused 11 ∷ accepted 65 ∷ [])
unfolding after_start started laid_over sheet_bytes records_bytes splice trailer inserted insertion admitted parsed inspected framed stated trailer_at plots_from surveyed judged map_limit traced_in layout_of decoded signed traced closes placed is_on_map drawn bounds_at vertex
inserted_by_number = (refl, refl, refl)

-- two records of 24 after a heading of 3 bytes, 67 in all, make 157 bytes with one more: 12 in a buffer of 156, after 11
pub inserted_by_room : map (λ r. inserted (take 156 base_made) 67 r) (good_plot 7 ∷ good_plot 8 ∷ []) ++ map (λ r. inserted (take 157 base_made) 67 r) (good_plot 0 ∷ good_plot 8 ∷ [])
    ≡ refused 11 ∷ refused 12 ∷ refused 11 ∷ accepted 157 ∷ []
unfolding inserted insertion admitted parsed inspected framed stated trailer_at plots_from surveyed judged map_limit traced_in layout_of decoded signed traced closes placed is_on_map drawn bounds_at vertex
inserted_by_room = refl

-- a sheet of 65,536 bytes has room in a buffer of as many, and one byte more has none
pub room_to_the_limit : (s : List ℕ) → length s ≡ 65536 → (has_no_room s 65536 ≡ false) × (has_no_room s 65537 ≡ true)
room_to_the_limit s e = rw e (refl, refl)

-- ---- start a sheet

-- 8 when the heading and the trailer exceed 65,536, then 12 when they exceed the buffer's 170 bytes, then their length
pub started_in_order : map (started buffer) (65521 ∷ 65520 ∷ 155 ∷ 154 ∷ 3 ∷ []) ≡ refused 8 ∷ refused 12 ∷ refused 12 ∷ accepted 170 ∷ accepted 19 ∷ []
unfolding started
started_in_order = refl
