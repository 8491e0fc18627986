-- Each answer of `start` and of `insert` with what it says of the arguments, in the words and the order of documents 01 and 02 (U2).
-- proofs/Starts.antt and proofs/InsertCases.antt show that each is given exactly where its case holds. Assumes nothing.
use Rattle.std.specs.Prelude.{◌≡◌, ◌⊎◌, List, ℕ, ◌+◌, ◌≤◌, ◌<◌, length}
use Rattle.octagon.specs.Outcome.{Outcome, accepted, refused, off_map}
use Rattle.octagon.specs.Cells.{◌⊆◌, OnMap, LeavesMap}
use Rattle.outline.specs.declared.Outline.{Outline}
use Rattle.outline.specs.Closing.{Closes}
use Rattle.outline.specs.Walk.{InsideWalk}
use Rattle.outline.specs.Tracing.{not_closed}
use Rattle.sheet.specs.declared.Record.{Record}
use Rattle.sheet.specs.Answers.{bad_length, bad_number, no_room}
use Rattle.sheet.specs.Trailer.{trailer_length}
use Rattle.sheet.specs.Order.{Present}
use Rattle.sheet.specs.Sheets.{sheet_limit}
use Rattle.sheet.specs.Cases.{stated_plots, CheckCase}
use Rattle.sheet.specs.Writing.{grown_length}

-- the length n "exceeds the buffer or 65,536"
abbrev pub Exceeds : List ℕ → ℕ → Type 0
Exceeds s n = (length s < n) ⊎ (sheet_limit < n)

-- ---- start a sheet

-- "8 when h+16 exceeds 65,536. 12 when it exceeds the buffer. .. It answers h+16."
pub data StartCase (s : List ℕ) (h : ℕ) : Outcome ℕ → Type 0 where
  above_limit : sheet_limit < h + trailer_length → StartCase s h (refused bad_length)
  above_buffer : h + trailer_length ≤ sheet_limit → length s < h + trailer_length → StartCase s h (refused no_room)
  starts : h + trailer_length ≤ sheet_limit → h + trailer_length ≤ length s → StartCase s h (accepted (h + trailer_length))

-- ---- insert a plot

-- neither of the outline's refusals holds: it closes, and its cells are on the map
pub record GoodOutline (o : Outline) : Type 0 where
  pub closed : Closes o
  pub on_the_map : InsideWalk o ⊆ OnMap

-- the outline is good, and the sheet checks with c records
pub record GoodSheet (s : List ℕ) (len : ℕ) (r : Record) (c : ℕ) : Type 0 where
  pub outline : GoodOutline r.outline
  pub sheet : CheckCase s len (accepted c)

-- "the number is 0 or present"
abbrev pub BadNumber : List ℕ → ℕ → Record → Type 0
BadNumber s len r = (r.number ≡ 0) ⊎ Present r.number (stated_plots s len)

-- "Insert's 12 now goes by the new length"
abbrev pub NoRoom : List ℕ → ℕ → ℕ → Type 0
NoRoom s len c = Exceeds s (grown_length s len c)

-- "The outline's 3 and 2, the check's refusals, 11 when the number is 0 or present, 12 ..
-- .. the answer is the new length."
pub data InsertCase (s : List ℕ) (len : ℕ) (r : Record) : Outcome ℕ → Type 0 where
  plot_open : ¬ (Closes r.outline) → InsertCase s len r (refused not_closed)
  plot_off : Closes r.outline → LeavesMap (InsideWalk r.outline) → InsertCase s len r (refused off_map)
  sheet_refused : {e : ℕ} → GoodOutline r.outline → CheckCase s len (refused e) → InsertCase s len r (refused e)
  number_bad : {c : ℕ} → GoodSheet s len r c → BadNumber s len r → InsertCase s len r (refused bad_number)
  sheet_full : {c : ℕ} → GoodSheet s len r c → ¬ (BadNumber s len r) → NoRoom s len c → InsertCase s len r (refused no_room)
  inserts : {c : ℕ} → GoodSheet s len r c → ¬ (BadNumber s len r) → ¬ (NoRoom s len c) → InsertCase s len r (accepted (grown_length s len c))
