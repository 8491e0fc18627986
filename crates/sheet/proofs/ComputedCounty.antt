-- Plots whose farthest cell is 2,000,000 cells from the middle of the map, or 2,000,001, to the east, the north, the west and the south: in sheets
-- of 46 bytes a record, inserted into sheets of every length, and joined; and which refusal comes first. antt computes them. The limit is written
-- as a number here, as in proofs/ComputedEdges.antt. Assumes nothing.
use mathlib.Core.Path.{◌≡◌, refl}
use mathlib.Core.List.{List, [], ◌∷◌, ◌++◌, map}
use Prim.Native.Nat.{ℕ}
use lib.IntN.{pos, negsuc}
use lib.ListN.{length, replicate}
use Rattle.octagon.specs.Outcome.{Outcome, accepted, refused}
use Rattle.octagon.specs.NormalForm.{is_on_map, placed}
use Rattle.outline.specs.Closing.{closes}
use Rattle.outline.specs.Walk.{vertex}
use Rattle.outline.specs.Tracing.{bounds_at, drawn, traced, traced_in}
use Rattle.outline.specs.Sameness.{same_outline}
use Rattle.records.specs.Numbers.{signed, twos}
use Rattle.records.specs.Parts.{splice}
use Rattle.sheet.specs.declared.Record.{Record}
use Rattle.sheet.specs.Layout.{map_limit, layout_of, encoded, decoded}
use Rattle.sheet.specs.Trailer.{trailer, trailer_at}
use Rattle.sheet.specs.Merging.{same_record, conflict, merged}
use Rattle.sheet.specs.Sheets.{plots_from, records_bytes, sheet_bytes}
use Rattle.sheet.specs.Checking.{stated, framed, judged, surveyed, inspected, parsed, checked, fetched}
use Rattle.sheet.specs.Writing.{laid_over, admitted, insertion, inserted, after_insert}
use Rattle.sheet.specs.Joining.{united, joining, joined, after_join}
use Rattle.sheet.proofs.ComputedEdges.{edge_plot, reach, near, alone, second, roomy, feeless, leaving}

-- ---- the plots

-- up to 2,000,000 to the east, the north, the west and the south, and up to 2,000,001
abbrev pub reaching_county : List Record
reaching_county =
    edge_plot 70001 (pos 1999996) (pos 211) 1201
    ∷ edge_plot 80002 (negsuc 321) (pos 1999983) 1302
    ∷ edge_plot 90003 (negsuc 1999992) (pos 433) 1403
    ∷ edge_plot 100004 (pos 544) (negsuc 1999999) 1504 ∷ []

abbrev pub leaving_county : List Record
leaving_county =
    edge_plot 110005 (pos 1999997) (negsuc 654) 1605
    ∷ edge_plot 120006 (pos 766) (pos 1999984) 1706
    ∷ edge_plot 130007 (negsuc 1999993) (negsuc 876) 1807
    ∷ edge_plot 140008 (negsuc 987) (negsuc 2000000) 1908 ∷ []

pub reaches_county : map (λ r. reach (drawn r.outline)) (reaching_county ++ leaving_county)
    ≡ (pos 2000000 ∷ pos 228 ∷ negsuc 1999988 ∷ negsuc 210 ∷ [])
    ∷ (negsuc 317 ∷ pos 2000000 ∷ pos 329 ∷ negsuc 1999982 ∷ [])
    ∷ (negsuc 1999988 ∷ pos 450 ∷ pos 2000000 ∷ negsuc 432 ∷ [])
    ∷ (pos 548 ∷ negsuc 1999982 ∷ negsuc 536 ∷ pos 2000000 ∷ [])
    ∷ (pos 2000001 ∷ negsuc 637 ∷ negsuc 1999989 ∷ pos 655 ∷ [])
    ∷ (pos 770 ∷ pos 2000001 ∷ negsuc 758 ∷ negsuc 1999983 ∷ [])
    ∷ (negsuc 1999989 ∷ negsuc 859 ∷ pos 2000001 ∷ pos 877 ∷ [])
    ∷ (negsuc 983 ∷ negsuc 1999983 ∷ pos 995 ∷ pos 2000001 ∷ []) ∷ []
unfolding drawn bounds_at vertex
reaches_county = refl

-- each in a sheet of 46 bytes a record, alone and after the near plot
abbrev pub county_sheets : List Record → List (List ℕ)
county_sheets rs = alone 46 rs ++ second 46 rs

-- ---- check and fetch

pub county_checked : (map (λ s. checked s (length s)) (county_sheets reaching_county) ≡ replicate 4 (accepted 1) ++ replicate 4 (accepted 2))
    × (map (λ s. checked s (length s)) (county_sheets leaving_county) ≡ replicate 8 (refused 2))
    × (map (λ s. checked s (length s)) (county_sheets leaving) ≡ replicate 4 (accepted 1) ++ replicate 4 (accepted 2))
unfolding records_bytes checked parsed inspected framed stated trailer_at plots_from surveyed judged map_limit traced_in layout_of decoded encoded trailer signed twos traced closes placed is_on_map drawn bounds_at vertex
county_checked = (refl, refl, refl)

pub county_fetched : (map (λ s. fetched s (length s) 0) (alone 46 reaching_county) ≡ map (λ r. accepted r) reaching_county)
    × (map (λ s. fetched s (length s) 1) (second 46 reaching_county) ≡ map (λ r. accepted r) reaching_county)
    × (map (λ s. fetched s (length s) 0) (county_sheets leaving_county) ≡ replicate 8 (refused 2))
unfolding records_bytes fetched parsed inspected framed stated trailer_at plots_from surveyed judged map_limit traced_in layout_of decoded encoded trailer signed twos traced closes placed is_on_map drawn bounds_at vertex
county_fetched = (refl, refl, refl)

-- ---- insert

-- put into a sheet of the near plot, of each length, which has room for it
abbrev county_into : ℕ → List Record → List (Outcome ℕ)
county_into L rs = let s = records_bytes L (near ∷ []) in map (inserted (roomy s) (length s)) rs

pub county_put : (map (λ L. county_into L reaching_county) (24 ∷ 26 ∷ 46 ∷ []) ≡ replicate 3 (replicate 4 (accepted 108)))
    × (map (λ L. county_into L leaving_county) (24 ∷ 26 ∷ 46 ∷ []) ≡ replicate 3 (replicate 4 (refused 2)))
unfolding records_bytes inserted insertion admitted parsed inspected framed stated trailer_at plots_from surveyed judged map_limit traced_in layout_of decoded encoded trailer signed twos traced closes placed is_on_map drawn bounds_at vertex
county_put = (refl, refl)

-- an old sheet is then one of 46, the near plot's values kept
pub county_after_put : (map (λ r. after_insert (roomy (records_bytes 24 (near ∷ []))) 40 r) reaching_county
    ≡ map (λ r. records_bytes 46 (feeless near ∷ r ∷ []) ++ replicate 22 9) reaching_county)
    × (map (λ r. after_insert (roomy (records_bytes 26 (near ∷ []))) 42 r) reaching_county ≡ map (λ r. records_bytes 46 (near ∷ r ∷ []) ++ replicate 24 9) reaching_county)
unfolding laid_over sheet_bytes records_bytes splice after_insert insertion admitted parsed inspected framed stated trailer_at plots_from surveyed judged map_limit traced_in layout_of decoded encoded trailer signed twos traced closes placed is_on_map drawn bounds_at vertex
county_after_put = (refl, refl)

-- the plot's 2 comes before the sheet's 9, and a plot that leaves the old map alone meets that 9
pub county_first : (map (inserted (replicate 90 9) 60) leaving_county ≡ replicate 4 (refused 2)) × (map (inserted (replicate 90 9) 60) leaving ≡ replicate 4 (refused 9))
unfolding inserted insertion admitted parsed inspected framed stated trailer_at plots_from surveyed judged map_limit traced_in layout_of decoded encoded trailer signed twos traced closes placed is_on_map drawn bounds_at vertex
county_first = (refl, refl)

-- ---- join

abbrev county_third : List ℕ
county_third = replicate 160 9

-- with a sheet of the near plot at 24 after it, and at 26 before it
pub county_joined : (map (λ s. joined s (length s) (records_bytes 24 (near ∷ [])) 40 county_third) (alone 46 reaching_county) ≡ replicate 4 (accepted 108))
    × (map (λ s. joined (records_bytes 26 (near ∷ [])) 42 s (length s) county_third) (county_sheets reaching_county) ≡ replicate 8 (accepted 108))
    × (map (λ s. joined s (length s) (records_bytes 24 (near ∷ [])) 40 county_third) (county_sheets leaving_county) ≡ replicate 8 (refused 2))
    × (map (λ s. joined (records_bytes 26 (near ∷ [])) 42 s (length s) county_third) (county_sheets leaving_county) ≡ replicate 8 (refused 2))
unfolding joined joining united conflict merged same_record same_outline records_bytes parsed inspected framed stated trailer_at plots_from surveyed judged map_limit traced_in layout_of decoded encoded trailer signed twos traced closes placed is_on_map drawn bounds_at vertex
county_joined = (refl, refl, refl, refl)

-- a plot that stands at 26 in the one sheet and at 46 in the other is one plot, kept once, in either order
pub county_kept_once :
    (map (λ s. after_join s (length s) (records_bytes 26 (near ∷ [])) 42 county_third) (second 46 reaching_county) ≡ map (λ r. records_bytes 46 (near ∷ r ∷ []) ++ replicate 52 9) reaching_county)
    × (map (λ s. after_join (records_bytes 26 (near ∷ [])) 42 s (length s) county_third) (second 46 reaching_county) ≡ map (λ r. records_bytes 46 (near ∷ r ∷ []) ++ replicate 52 9) reaching_county)
unfolding laid_over sheet_bytes splice after_join joining united conflict merged same_record same_outline records_bytes parsed inspected framed stated trailer_at plots_from surveyed judged map_limit traced_in layout_of decoded encoded trailer signed twos traced closes placed is_on_map drawn bounds_at vertex
county_kept_once = (refl, refl)
