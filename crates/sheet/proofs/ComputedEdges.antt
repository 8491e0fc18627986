-- Sheets of 24 and of 26 bytes a record that hold a plot whose farthest cell is 16,000 cells from the middle of the map, or 16,001, to the
-- east, the north, the west and the south: checked, fetched, inserted into and joined; and such a plot inserted. antt computes them. The limit
-- is written as a number here, since no theorem on sheets can object to one that moves for every record length alike. Assumes nothing.
use mathlib.Core.Path.{◌≡◌, refl}
use mathlib.Core.List.{List, [], ◌∷◌, ◌++◌, map}
use Prim.Native.Nat.{ℕ}
use lib.IntN.{ℤ, pos, negsuc}
use lib.ListN.{length, replicate}
use Rattle.octagon.specs.Octagon.{Octagon}
use Rattle.octagon.specs.Outcome.{Outcome, accepted, refused}
use Rattle.octagon.specs.NormalForm.{is_on_map, placed}
use Rattle.outline.specs.Closing.{closes}
use Rattle.outline.specs.Walk.{vertex}
use Rattle.outline.specs.Tracing.{bounds_at, drawn, traced, traced_in}
use Rattle.outline.specs.Sameness.{same_outline}
use Rattle.records.specs.Numbers.{signed, twos}
use Rattle.records.specs.Parts.{splice}
use Rattle.sheet.specs.declared.Record.{Record}
use Rattle.sheet.specs.Layout.{map_limit, layout_of, encoded, decoded}
use Rattle.sheet.specs.Trailer.{trailer, trailer_at}
use Rattle.sheet.specs.Merging.{same_record, conflict, merged}
use Rattle.sheet.specs.Sheets.{plots_from, records_bytes, sheet_bytes}
use Rattle.sheet.specs.Checking.{stated, framed, judged, surveyed, inspected, parsed, checked, fetched}
use Rattle.sheet.specs.Writing.{laid_over, admitted, insertion, inserted, after_insert}
use Rattle.sheet.specs.Joining.{united, joining, joined, after_join}
use Rattle.sheet.proofs.Computed.{plot}

-- ---- the plots

-- the plot v at (i, j) with the fee row f, which reaches 4 cells east of its start, 17 north and 7 west
abbrev pub edge_plot : ℕ → ℤ → ℤ → ℕ → Record
edge_plot v i j f = plot v i j (3 ∷ 1 ∷ 14 ∷ 2 ∷ 5 ∷ 4 ∷ 6 ∷ 7 ∷ []) f

-- up to 16,000 to the east, the north, the west and the south, and up to 16,001
abbrev pub reaching : List Record
reaching =
    edge_plot 70001 (pos 15996) (pos 211) 1201
    ∷ edge_plot 80002 (negsuc 321) (pos 15983) 1302
    ∷ edge_plot 90003 (negsuc 15992) (pos 433) 1403
    ∷ edge_plot 100004 (pos 544) (negsuc 15999) 1504 ∷ []

abbrev pub leaving : List Record
leaving =
    edge_plot 110005 (pos 15997) (negsuc 654) 1605
    ∷ edge_plot 120006 (pos 766) (pos 15984) 1706
    ∷ edge_plot 130007 (negsuc 15993) (negsuc 876) 1807
    ∷ edge_plot 140008 (negsuc 987) (negsuc 16000) 1908 ∷ []

-- how far bounds go to the east, the north, the west and the south
abbrev pub reach : Octagon → List ℤ
reach c = c.c2 ∷ c.c4 ∷ c.c6 ∷ c.c0 ∷ []

pub reaches : map (λ r. reach (drawn r.outline)) (reaching ++ leaving)
    ≡ (pos 16000 ∷ pos 228 ∷ negsuc 15988 ∷ negsuc 210 ∷ [])
    ∷ (negsuc 317 ∷ pos 16000 ∷ pos 329 ∷ negsuc 15982 ∷ [])
    ∷ (negsuc 15988 ∷ pos 450 ∷ pos 16000 ∷ negsuc 432 ∷ [])
    ∷ (pos 548 ∷ negsuc 15982 ∷ negsuc 536 ∷ pos 16000 ∷ [])
    ∷ (pos 16001 ∷ negsuc 637 ∷ negsuc 15989 ∷ pos 655 ∷ [])
    ∷ (pos 770 ∷ pos 16001 ∷ negsuc 758 ∷ negsuc 15983 ∷ [])
    ∷ (negsuc 15989 ∷ negsuc 859 ∷ pos 16001 ∷ pos 877 ∷ [])
    ∷ (negsuc 983 ∷ negsuc 15983 ∷ pos 995 ∷ pos 16001 ∷ []) ∷ []
unfolding drawn bounds_at vertex
reaches = refl

-- two near the middle: one that stands before those, and one that is put into their sheets
abbrev pub near : Record
near = plot 503 (pos 29) (negsuc 37) (16 ∷ 9 ∷ 23 ∷ 12 ∷ 17 ∷ 11 ∷ 18 ∷ 15 ∷ []) 2009

abbrev added : Record
added = plot 60006 (negsuc 40) (pos 52) (16 ∷ 9 ∷ 23 ∷ 12 ∷ 17 ∷ 11 ∷ 18 ∷ 15 ∷ []) 2110

-- a record as one of 24 bytes gives it
abbrev pub feeless : Record → Record
feeless r = record { number = r.number; outline = r.outline; fee_row = 0 }

-- ---- the sheets

-- each of these plots in a sheet of L bytes a record, alone and after the near one
abbrev pub alone : ℕ → List Record → List (List ℕ)
alone L rs = map (λ r. records_bytes L (r ∷ [])) rs

abbrev pub second : ℕ → List Record → List (List ℕ)
second L rs = map (λ r. records_bytes L (near ∷ r ∷ [])) rs

abbrev pub sheets : List Record → List (List ℕ)
sheets rs = alone 24 rs ++ (alone 26 rs ++ (second 24 rs ++ second 26 rs))

-- the answers for those that are accepted: the first for a sheet of one plot, the second for one of two
abbrev each : ℕ → ℕ → List (Outcome ℕ)
each m n = replicate 8 (accepted m) ++ replicate 8 (accepted n)

-- ---- check and fetch

pub edges_checked : (map (λ s. checked s (length s)) (sheets reaching) ≡ each 1 2) × (map (λ s. checked s (length s)) (sheets leaving) ≡ replicate 16 (refused 2))
unfolding records_bytes checked parsed inspected framed stated trailer_at plots_from surveyed judged map_limit traced_in layout_of decoded encoded trailer signed twos traced closes placed is_on_map drawn bounds_at vertex
edges_checked = (refl, refl)

-- the far plot is the first record or the second; where it leaves the map, no record is fetched
pub edges_fetched : (map (λ s. fetched s (length s) 0) (alone 24 reaching) ≡ map (λ r. accepted (feeless r)) reaching)
    × (map (λ s. fetched s (length s) 0) (alone 26 reaching) ≡ map (λ r. accepted r) reaching)
    × (map (λ s. fetched s (length s) 1) (second 24 reaching) ≡ map (λ r. accepted (feeless r)) reaching)
    × (map (λ s. fetched s (length s) 1) (second 26 reaching) ≡ map (λ r. accepted r) reaching)
    × (map (λ s. fetched s (length s) 0) (sheets leaving) ≡ replicate 16 (refused 2))
unfolding records_bytes fetched parsed inspected framed stated trailer_at plots_from surveyed judged map_limit traced_in layout_of decoded encoded trailer signed twos traced closes placed is_on_map drawn bounds_at vertex
edges_fetched = (refl, refl, refl, refl, refl)

-- ---- insert

-- a sheet with 90 bytes after it
abbrev pub roomy : List ℕ → List ℕ
roomy s = s ++ replicate 90 9

pub edges_inserted : (map (λ s. inserted (roomy s) (length s) added) (sheets reaching) ≡ each 108 154)
    × (map (λ s. inserted (roomy s) (length s) added) (sheets leaving) ≡ replicate 16 (refused 2))
unfolding records_bytes inserted insertion admitted parsed inspected framed stated trailer_at plots_from surveyed judged map_limit traced_in layout_of decoded encoded trailer signed twos traced closes placed is_on_map drawn bounds_at vertex
edges_inserted = (refl, refl)

-- both plots at 46, and the bytes after them; where it is refused, the buffer is as it was
pub edges_after_insert : (map (λ s. after_insert (roomy s) (length s) added) (alone 24 reaching) ≡ map (λ r. records_bytes 46 (added ∷ feeless r ∷ []) ++ replicate 22 9) reaching)
    × (map (λ s. after_insert (roomy s) (length s) added) (alone 26 reaching) ≡ map (λ r. records_bytes 46 (added ∷ r ∷ []) ++ replicate 24 9) reaching)
    × (map (λ s. after_insert (roomy s) (length s) added) (sheets leaving) ≡ map roomy (sheets leaving))
unfolding laid_over sheet_bytes records_bytes splice after_insert insertion admitted parsed inspected framed stated trailer_at plots_from surveyed judged map_limit traced_in layout_of decoded encoded trailer signed twos traced closes placed is_on_map drawn bounds_at vertex
edges_after_insert = (refl, refl, refl)

-- the far plot put into a sheet of the near one, of 24 and of 26, which has room for it: it may leave the old map
abbrev into : ℕ → List Record → List (Outcome ℕ)
into L rs = let s = records_bytes L (near ∷ []) in map (inserted (roomy s) (length s)) rs

pub edges_put : (into 24 (reaching ++ leaving) ≡ replicate 8 (accepted 108)) × (into 26 (reaching ++ leaving) ≡ replicate 8 (accepted 108))
unfolding records_bytes inserted insertion admitted parsed inspected framed stated trailer_at plots_from surveyed judged map_limit traced_in layout_of decoded encoded trailer signed twos traced closes placed is_on_map drawn bounds_at vertex
edges_put = (refl, refl)

-- ---- join

-- the added plot in a sheet of L bytes a record, and a third buffer
abbrev other : ℕ → List ℕ
other L = records_bytes L (added ∷ [])

abbrev third : List ℕ
third = replicate 160 9

-- the answer where a sheet is the first, before one of 24, and where it is the second, after one of 26
abbrev as_first : List ℕ → Outcome ℕ
as_first s = joined s (length s) (other 24) 40 third

abbrev as_second : List ℕ → Outcome ℕ
as_second s = joined (other 26) 42 s (length s) third

pub edges_joined : (map as_first (sheets reaching) ≡ each 108 154) × (map as_second (sheets reaching) ≡ each 108 154)
    × (map as_first (sheets leaving) ≡ replicate 16 (refused 2)) × (map as_second (sheets leaving) ≡ replicate 16 (refused 2))
unfolding joined joining united conflict merged same_record same_outline records_bytes parsed inspected framed stated trailer_at plots_from surveyed judged map_limit traced_in layout_of decoded encoded trailer signed twos traced closes placed is_on_map drawn bounds_at vertex
edges_joined = (refl, refl, refl, refl)

-- where it is refused, the third buffer is as it was
pub edges_after_join : (map (λ s. after_join s (length s) (other 24) 40 third) (sheets leaving) ≡ replicate 16 third)
    × (map (λ s. after_join (other 26) 42 s (length s) third) (sheets leaving) ≡ replicate 16 third)
unfolding after_join joining united conflict merged same_record same_outline records_bytes parsed inspected framed stated trailer_at plots_from surveyed judged map_limit traced_in layout_of decoded encoded trailer signed twos traced closes placed is_on_map drawn bounds_at vertex
edges_after_join = (refl, refl)
