-- Small values of what `kx_sheet_join` answers, hands over and leaves, computed: two sheets, one plot of which both have, byte for byte, and each
-- refusal in its order. Assumes nothing.
use mathlib.Core.Path.{◌≡◌, refl}
use mathlib.Core.List.{List, [], ◌∷◌, map}
use Prim.Native.Nat.{ℕ}
use lib.ListN.{replicate}
use Rattle.octagon.specs.Outcome.{Outcome, left}
use Rattle.octagon.specs.NormalForm.{is_on_map, placed}
use Rattle.outline.specs.Closing.{closes}
use Rattle.outline.specs.Walk.{vertex}
use Rattle.outline.specs.Tracing.{bounds_at, drawn, traced, traced_in}
use Rattle.outline.specs.Sameness.{same_outline}
use Rattle.records.specs.Numbers.{signed, twos}
use Rattle.records.specs.Parts.{splice}
use Rattle.sheet.specs.Layout.{layout_of, encoded, decoded, map_limit}
use Rattle.sheet.specs.Trailer.{trailer, trailer_at}
use Rattle.sheet.specs.Merging.{same_record, conflict, merged}
use Rattle.sheet.specs.Sheets.{plots_from, records_bytes, sheet_bytes}
use Rattle.sheet.specs.Checking.{stated, framed, judged, surveyed, inspected, parsed}
use Rattle.sheet.specs.Writing.{laid_over}
use Rattle.sheet.specs.Joining.{united, joining, joined, after_join}
use Rattle.koxirmeta_c.specs.Calls.{status}
use Rattle.koxirmeta_c.proofs.SheetExamples.{two_plots}

-- a sheet in 70 bytes, its heading 6 and 5, with the plots 770 from (21, -33), of fee row 258, and 70001 from (-4, -5), whose fee row has
-- this lower byte: with 4 it is the plot 70001 of `two_plots`
abbrev second : ℕ → List ℕ
second fee =
    6 ∷ 5 ∷
    2 ∷ 3 ∷ 0 ∷ 0 ∷ 21 ∷ 0 ∷ 223 ∷ 255 ∷ 15 ∷ 0 ∷ 11 ∷ 0 ∷ 18 ∷ 0 ∷ 9 ∷ 0 ∷ 22 ∷ 0 ∷ 8 ∷ 0 ∷ 17 ∷ 0 ∷ 13 ∷ 0 ∷ 2 ∷ 1 ∷
    113 ∷ 17 ∷ 1 ∷ 0 ∷ 252 ∷ 255 ∷ 251 ∷ 255 ∷ 3 ∷ 0 ∷ 1 ∷ 0 ∷ 14 ∷ 0 ∷ 2 ∷ 0 ∷ 5 ∷ 0 ∷ 4 ∷ 0 ∷ 6 ∷ 0 ∷ 7 ∷ 0 ∷ fee ∷ 3 ∷
    52 ∷ 0 ∷ 0 ∷ 0 ∷ 2 ∷ 0 ∷ 0 ∷ 0 ∷ 26 ∷ 0 ∷ 0 ∷ 0 ∷ 71 ∷ 82 ∷ 78 ∷ 68 ∷ []

-- the two joined in a buffer of 159
abbrev three_plots : List ℕ
three_plots =
    1 ∷ 2 ∷ 3 ∷
    1 ∷ 2 ∷ 0 ∷ 0 ∷ 248 ∷ 255 ∷ 255 ∷ 255 ∷ 245 ∷ 255 ∷ 255 ∷ 255 ∷
    6 ∷ 0 ∷ 0 ∷ 0 ∷ 7 ∷ 0 ∷ 0 ∷ 0 ∷ 3 ∷ 0 ∷ 0 ∷ 0 ∷ 1 ∷ 0 ∷ 0 ∷ 0 ∷ 14 ∷ 0 ∷ 0 ∷ 0 ∷ 2 ∷ 0 ∷ 0 ∷ 0 ∷ 5 ∷ 0 ∷ 0 ∷ 0 ∷ 4 ∷ 0 ∷ 0 ∷ 0 ∷ 12 ∷ 0 ∷
    2 ∷ 3 ∷ 0 ∷ 0 ∷ 21 ∷ 0 ∷ 0 ∷ 0 ∷ 223 ∷ 255 ∷ 255 ∷ 255 ∷
    15 ∷ 0 ∷ 0 ∷ 0 ∷ 11 ∷ 0 ∷ 0 ∷ 0 ∷ 18 ∷ 0 ∷ 0 ∷ 0 ∷ 9 ∷ 0 ∷ 0 ∷ 0 ∷ 22 ∷ 0 ∷ 0 ∷ 0 ∷ 8 ∷ 0 ∷ 0 ∷ 0 ∷ 17 ∷ 0 ∷ 0 ∷ 0 ∷ 13 ∷ 0 ∷ 0 ∷ 0 ∷ 2 ∷ 1 ∷
    113 ∷ 17 ∷ 1 ∷ 0 ∷ 252 ∷ 255 ∷ 255 ∷ 255 ∷ 251 ∷ 255 ∷ 255 ∷ 255 ∷
    3 ∷ 0 ∷ 0 ∷ 0 ∷ 1 ∷ 0 ∷ 0 ∷ 0 ∷ 14 ∷ 0 ∷ 0 ∷ 0 ∷ 2 ∷ 0 ∷ 0 ∷ 0 ∷ 5 ∷ 0 ∷ 0 ∷ 0 ∷ 4 ∷ 0 ∷ 0 ∷ 0 ∷ 6 ∷ 0 ∷ 0 ∷ 0 ∷ 7 ∷ 0 ∷ 0 ∷ 0 ∷ 4 ∷ 3 ∷
    138 ∷ 0 ∷ 0 ∷ 0 ∷ 3 ∷ 0 ∷ 0 ∷ 0 ∷ 46 ∷ 0 ∷ 0 ∷ 0 ∷ 71 ∷ 82 ∷ 78 ∷ 68 ∷
    replicate 2 9

-- what is left: accepted; without room; with two fee rows for 70001; and where the second sheet's length is one byte less
pub joinings : (after_join two_plots 111 (second 4) 70 (replicate 159 9) ∷ after_join two_plots 111 (second 4) 70 (replicate 156 9)
    ∷ after_join two_plots 111 (second 5) 70 (replicate 159 9) ∷ after_join two_plots 111 (second 5) 69 (replicate 159 9) ∷ [])
    ≡ (three_plots ∷ replicate 156 9 ∷ replicate 159 9 ∷ replicate 159 9 ∷ [])
unfolding after_join joining united conflict merged same_record same_outline laid_over sheet_bytes records_bytes splice trailer parsed inspected framed stated trailer_at plots_from surveyed judged map_limit traced_in layout_of decoded encoded signed twos traced closes placed is_on_map drawn bounds_at vertex
joinings = refl

-- the joins that are accepted, or refused as having no room, as two records and by the check of the second sheet and of the first: each
-- refusal before those that come later
abbrev answers : List (Outcome ℕ)
answers =
    joined two_plots 111 (second 4) 70 (replicate 159 9) ∷ joined two_plots 111 (second 4) 70 (replicate 156 9) ∷ joined two_plots 111 (second 5) 70 []
    ∷ joined two_plots 111 (second 5) 69 [] ∷ joined two_plots 15 (second 5) 69 [] ∷ []

-- the number that is answered, and the length that is handed over where 101 was
pub answered : (map status answers ≡ 0 ∷ 12 ∷ 18 ∷ 9 ∷ 8 ∷ []) × (map (λ o. left 101 o (λ n. n)) answers ≡ 157 ∷ 101 ∷ 101 ∷ 101 ∷ 101 ∷ [])
unfolding status joined joining united conflict merged same_record same_outline parsed inspected framed stated trailer_at plots_from surveyed judged map_limit traced_in layout_of decoded signed traced closes placed is_on_map drawn bounds_at vertex
answered = (refl, refl)
