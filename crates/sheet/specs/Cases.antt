-- Each answer of `check`, `fetch` and `read` with what it says of the sheet, in the words of documents 01 and 02 (U2, U10). proofs/CheckCases.antt,
-- proofs/FetchCases.antt and proofs/ReadCases.antt show that each is given exactly where its case holds. Assumes nothing.
use Rattle.std.specs.Prelude.{◌≡◌, List, ◌∷◌, ℕ, ◌+◌, ◌-◌, ◌*◌, ◌≤◌, ◌<◌, length}
use Rattle.octagon.specs.Octagon.{Octagon}
use Rattle.octagon.specs.Outcome.{Outcome, accepted, refused, off_map}
use Rattle.octagon.specs.Cells.{Leaves}
use Rattle.outline.specs.Closing.{Closes}
use Rattle.outline.specs.Walk.{InsideWalk}
use Rattle.outline.specs.Tracing.{traced, traced_in, not_closed}
use Rattle.records.specs.Parts.{part}
use Rattle.sheet.specs.declared.Record.{Record}
use Rattle.sheet.specs.declared.trailer.Trailer.{Trailer}
use Rattle.sheet.specs.Answers.{bad_length, bad_trailer, bad_distance, bad_number, no_record}
use Rattle.sheet.specs.Layout.{IsRecordLength, map_limit}
use Rattle.sheet.specs.Trailer.{trailer_length, letters, trailer_at}
use Rattle.sheet.specs.Bytes.{RecordFields}
use Rattle.sheet.specs.Order.{Ascending}
use Rattle.sheet.specs.Sheets.{sheet_limit, first, sheet_of}
use Rattle.sheet.specs.Checking.{fetched}

-- ---- the frame: the length and the trailer

-- a length that a sheet may have in the buffer s
pub record GoodLength (s : List ℕ) (len : ℕ) : Type 0 where
  pub long : trailer_length ≤ len
  pub short : len ≤ sheet_limit
  pub within : len ≤ length s

-- a trailer's record length, zero bytes and letters are right
pub record GoodMarks (z : Trailer) : Type 0 where
  pub length_is : IsRecordLength z.length
  pub zeros_are : z.zeros ≡ 0
  pub letters_are : z.letters ≡ letters

-- its distance is that of its records, of the length that it names, and is at most the length less the trailer's
pub record GoodDistance (len : ℕ) (z : Trailer) : Type 0 where
  pub distance_is : z.distance ≡ z.length * z.count
  pub near : z.distance ≤ len - trailer_length

-- all three are right, and the trailer states the count c
pub record GoodFrame (s : List ℕ) (len c : ℕ) : Type 0 where
  pub size : GoodLength s len
  pub marks : GoodMarks (trailer_at s (len - trailer_length))
  pub distance : GoodDistance len (trailer_at s (len - trailer_length))
  pub count : (trailer_at s (len - trailer_length)).count ≡ c

-- what is wrong, the first in this order, and its refusal
pub data FrameFault (s : List ℕ) (len : ℕ) : ℕ → Type 0 where
  wrong_size : ¬ (GoodLength s len) → FrameFault s len bad_length
  unmarked : GoodLength s len → ¬ (GoodMarks (trailer_at s (len - trailer_length))) → FrameFault s len bad_trailer
  misplaced : GoodLength s len → GoodMarks (trailer_at s (len - trailer_length)) → ¬ (GoodDistance len (trailer_at s (len - trailer_length)))
      → FrameFault s len bad_distance

-- ---- the records

-- the records that the trailer states, right or wrong
abbrev pub stated_plots : List ℕ → ℕ → List Record
stated_plots s len = (sheet_of s len (trailer_at s (len - trailer_length))).plots

-- how many bytes stand before them: those of the heading
abbrev pub stated_heading : List ℕ → ℕ → ℕ
stated_heading s len = first len (trailer_at s (len - trailer_length)).distance

-- the limit of the map for the records of the length that the trailer names
abbrev pub stated_limit : List ℕ → ℕ → ℕ
stated_limit s len = map_limit (trailer_at s (len - trailer_length)).length

-- a record's outline has an octagon: it closes and lies on the map; and on the map from -m to m
abbrev pub HasOctagon : Record → Type 0
HasOctagon r = (o : Octagon) × (traced r.outline ≡ accepted o)

abbrev pub HasOctagonIn : ℕ → Record → Type 0
HasOctagonIn m r = (o : Octagon) × (traced_in m r.outline ≡ accepted o)

-- the first record that is refused, and its refusal: 11 when its plot number is 0 or not above the one before (`before` is that
-- one, or 0 at the first record), 3 when its outline does not close, 2 when some cell of the outline lies off the map from -m to m
pub data Faulty (m : ℕ) : ℕ → List Record → ℕ → Type 0 where
  wrong_number : {before : ℕ} {r : Record} {rs : List Record} → r.number ≤ before → Faulty m before (r ∷ rs) bad_number
  open_outline : {before : ℕ} {r : Record} {rs : List Record} → before < r.number → ¬ (Closes r.outline) → Faulty m before (r ∷ rs) not_closed
  off_outline : {before : ℕ} {r : Record} {rs : List Record} → before < r.number → Closes r.outline → Leaves m (InsideWalk r.outline)
      → Faulty m before (r ∷ rs) off_map
  later : {before e : ℕ} {r : Record} {rs : List Record} → before < r.number → HasOctagonIn m r → Faulty m r.number rs e → Faulty m before (r ∷ rs) e

-- ---- check a sheet

-- "8 when the length is below 16, above 65,536 or above the buffer's";
-- "9 when letters, record length or zero bytes are wrong" ("check 9 takes 24, 26 and 46");
-- "10 when the distance is not 24 times the count or exceeds the length less 16" ("check 10 multiplies by the one named");
-- "then per record: 11 when its number is 0 or not above the one before, 3, 2";
-- "it answers the count"
pub data CheckCase (s : List ℕ) (len : ℕ) : Outcome ℕ → Type 0 where
  frame_wrong : {e : ℕ} → FrameFault s len e → CheckCase s len (refused e)
  faulty : {c e : ℕ} → GoodFrame s len c → Faulty (stated_limit s len) 0 (stated_plots s len) e → CheckCase s len (refused e)
  right : {c : ℕ} → GoodFrame s len c → Ascending (HasOctagonIn (stated_limit s len)) 0 (stated_plots s len) → CheckCase s len (accepted c)

-- ---- fetch record k

-- record k of c records is r: its fields stand in the L bytes that are L times k past the first record, which stands L times the count
-- before the trailer, where L is the record length that the trailer names
abbrev pub RecordAt : List ℕ → ℕ → ℕ → ℕ → Record → Type 0
RecordAt s len c k r =
    let L = (trailer_at s (len - trailer_length)).length in
    RecordFields L (part s (len - trailer_length - L * c + L * k) L) r

-- "The check's refusals, then 13 when k is not below the count"; else "its plot number and outline", with its fee row
pub data FetchCase (s : List ℕ) (len k : ℕ) : Outcome Record → Type 0 where
  not_checked : {e : ℕ} → CheckCase s len (refused e) → FetchCase s len k (refused e)
  past_count : {c : ℕ} → CheckCase s len (accepted c) → c ≤ k → FetchCase s len k (refused no_record)
  fetches : {c : ℕ} {r : Record} → CheckCase s len (accepted c) → k < c → RecordAt s len c k r → FetchCase s len k (accepted r)

-- q is one of the records that are fetched
abbrev pub IsFetched : List ℕ → ℕ → Record → Type 0
IsFetched s len q = (k : ℕ) × (fetched s len k ≡ accepted q)

-- ---- read record k of a sheet that was checked

-- 8, 9 and 10 as above; "13 when k is not below the count"; else the record of the bytes at its place, right or wrong
pub data ReadCase (s : List ℕ) (len k : ℕ) : Outcome Record → Type 0 where
  not_framed : {e : ℕ} → FrameFault s len e → ReadCase s len k (refused e)
  past_last : {c : ℕ} → GoodFrame s len c → c ≤ k → ReadCase s len k (refused no_record)
  there : {c : ℕ} {r : Record} → GoodFrame s len c → k < c → RecordAt s len c k r → ReadCase s len k (accepted r)
