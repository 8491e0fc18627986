-- Small values of what `kx_sheet_convert` answers, hands over and leaves, computed: a sheet of 46 bytes a record, byte for byte, one whose
-- plot leaves the old map, and each refusal in its order. Assumes nothing.
use mathlib.Core.Path.{◌≡◌, refl}
use mathlib.Core.List.{List, [], ◌∷◌, map}
use Prim.Native.Nat.{ℕ}
use lib.ListN.{replicate}
use Rattle.octagon.specs.Outcome.{Outcome, left}
use Rattle.octagon.specs.NormalForm.{is_on_map, placed}
use Rattle.outline.specs.Closing.{closes}
use Rattle.outline.specs.Walk.{vertex}
use Rattle.outline.specs.Tracing.{bounds_at, drawn, traced, traced_in}
use Rattle.records.specs.Numbers.{signed, twos}
use Rattle.records.specs.Parts.{splice}
use Rattle.sheet.specs.Layout.{layout_of, encoded, decoded, map_limit}
use Rattle.sheet.specs.Trailer.{trailer, trailer_at}
use Rattle.sheet.specs.Sheets.{plots_from, records_bytes, sheet_bytes}
use Rattle.sheet.specs.Checking.{stated, framed, judged, surveyed, inspected, parsed}
use Rattle.sheet.specs.Writing.{laid_over}
use Rattle.sheet.specs.Converting.{is_stray, narrowed, conversion, converted, after_convert}
use Rattle.koxirmeta_c.specs.Calls.{status}
use Rattle.koxirmeta_c.proofs.SheetExamples.{two_plots}

-- `two_plots` with 26 bytes a record, in a buffer of 73
abbrev two_old_plots : List ℕ
two_old_plots =
    1 ∷ 2 ∷ 3 ∷
    1 ∷ 2 ∷ 0 ∷ 0 ∷ 248 ∷ 255 ∷ 245 ∷ 255 ∷ 6 ∷ 0 ∷ 7 ∷ 0 ∷ 3 ∷ 0 ∷ 1 ∷ 0 ∷ 14 ∷ 0 ∷ 2 ∷ 0 ∷ 5 ∷ 0 ∷ 4 ∷ 0 ∷ 12 ∷ 0 ∷
    113 ∷ 17 ∷ 1 ∷ 0 ∷ 252 ∷ 255 ∷ 251 ∷ 255 ∷ 3 ∷ 0 ∷ 1 ∷ 0 ∷ 14 ∷ 0 ∷ 2 ∷ 0 ∷ 5 ∷ 0 ∷ 4 ∷ 0 ∷ 6 ∷ 0 ∷ 7 ∷ 0 ∷ 4 ∷ 3 ∷
    52 ∷ 0 ∷ 0 ∷ 0 ∷ 2 ∷ 0 ∷ 0 ∷ 0 ∷ 26 ∷ 0 ∷ 0 ∷ 0 ∷ 71 ∷ 82 ∷ 78 ∷ 68 ∷
    replicate 2 9

-- a sheet in 64 bytes, its heading 6 and 5, with the plot 770 from (15975, -33), whose easternmost cell lies in column 16,001
abbrev far_plot : List ℕ
far_plot =
    6 ∷ 5 ∷
    2 ∷ 3 ∷ 0 ∷ 0 ∷ 103 ∷ 62 ∷ 0 ∷ 0 ∷ 223 ∷ 255 ∷ 255 ∷ 255 ∷
    15 ∷ 0 ∷ 0 ∷ 0 ∷ 11 ∷ 0 ∷ 0 ∷ 0 ∷ 18 ∷ 0 ∷ 0 ∷ 0 ∷ 9 ∷ 0 ∷ 0 ∷ 0 ∷ 22 ∷ 0 ∷ 0 ∷ 0 ∷ 8 ∷ 0 ∷ 0 ∷ 0 ∷ 17 ∷ 0 ∷ 0 ∷ 0 ∷ 13 ∷ 0 ∷ 0 ∷ 0 ∷ 2 ∷ 1 ∷
    46 ∷ 0 ∷ 0 ∷ 0 ∷ 1 ∷ 0 ∷ 0 ∷ 0 ∷ 46 ∷ 0 ∷ 0 ∷ 0 ∷ 71 ∷ 82 ∷ 78 ∷ 68 ∷ []

-- what is left: accepted; without room; of a plot off the old map; and where the sheet's length is one byte less
pub conversions : (after_convert two_plots 111 (replicate 73 9) ∷ after_convert two_plots 111 (replicate 70 9)
    ∷ after_convert far_plot 64 (replicate 73 9) ∷ after_convert two_plots 110 (replicate 73 9) ∷ [])
    ≡ (two_old_plots ∷ replicate 70 9 ∷ replicate 73 9 ∷ replicate 73 9 ∷ [])
unfolding after_convert conversion narrowed is_stray laid_over sheet_bytes records_bytes splice trailer parsed inspected framed stated trailer_at plots_from surveyed judged map_limit traced_in layout_of decoded encoded signed twos traced closes placed is_on_map drawn bounds_at vertex
conversions = refl

-- the conversions that are accepted, or refused as having no room, as leaving the old map and by the check: each refusal before those that
-- come later
abbrev answers : List (Outcome ℕ)
answers =
    converted two_plots 111 (replicate 73 9) ∷ converted two_plots 111 (replicate 70 9) ∷ converted far_plot 64 []
    ∷ converted far_plot 63 [] ∷ converted far_plot 15 [] ∷ []

-- the number that is answered, and the length that is handed over where 101 was
pub answered : (map status answers ≡ 0 ∷ 12 ∷ 21 ∷ 9 ∷ 8 ∷ []) × (map (λ o. left 101 o (λ n. n)) answers ≡ 71 ∷ 101 ∷ 101 ∷ 101 ∷ 101 ∷ [])
unfolding status converted conversion narrowed is_stray parsed inspected framed stated trailer_at plots_from surveyed judged map_limit traced_in layout_of decoded signed traced closes placed is_on_map drawn bounds_at vertex
answered = (refl, refl)
