-- What `start` and `insert` answer and leave in the buffer: definitions that compute, and for each call what documents 01 and 02 (U2) say
-- of an accepted one (`StartedSheet`, `GrownSheet`), which proofs/Starts.antt and proofs/Grown.antt show of them; and how a record stands
-- in a sheet that is rewritten at 46 bytes a record (`Rewritten`), of which proofs/KeptValues.antt speaks. Assumes nothing.
use Rattle.std.specs.Prelude.{◌≡◌, Bool, cond, ◌||◌, List, [], ℕ, suc, ◌+◌, ◌-◌, ◌*◌, ◌≤◌, ◌<◌, length, take, drop, ltb, eqb}
use Rattle.octagon.specs.Outcome.{Outcome, accepted, refused, then, left}
use Rattle.outline.specs.Tracing.{traced}
use Rattle.records.specs.Parts.{part, splice}
use Rattle.sheet.specs.declared.Record.{Record}
use Rattle.sheet.specs.Answers.{bad_length, bad_number, no_room}
use Rattle.sheet.specs.Layout.{record_length}
use Rattle.sheet.specs.Trailer.{trailer_length, trailer_at}
use Rattle.sheet.specs.Bytes.{TrailerOf, RecordFields}
use Rattle.sheet.specs.Order.{present, put_in_order}
use Rattle.sheet.specs.Sheets.{sheet_limit, Sheet, sheet_bytes, sheet_length}
use Rattle.sheet.specs.Checking.{parsed, checked, fetched}
use Rattle.sheet.specs.Cases.{stated_heading}

-- a buffer s with a sheet written at its start, whose records have L bytes each: what follows the sheet stays
unfoldable pub laid_over : ℕ → List ℕ → Sheet → List ℕ
laid_over L s z = splice s 0 (sheet_bytes L z)

-- with those that are written
abbrev pub written_over : List ℕ → Sheet → List ℕ
written_over = laid_over record_length

-- how long it then is
abbrev pub written_length : Sheet → ℕ
written_length z = sheet_length record_length z

-- the length n exceeds the buffer or the limit
abbrev pub has_no_room : List ℕ → ℕ → Bool
has_no_room s n = ltb (length s) n || ltb sheet_limit n

-- a sheet that is to be written in s with records of L bytes: 12 by the new length
abbrev pub roomed : ℕ → List ℕ → Sheet → Outcome Sheet
roomed L s z = cond (has_no_room s (sheet_length L z)) (refused no_room) (accepted z)

-- ---- start a sheet

-- the length of an empty sheet after h heading bytes: 8 when it exceeds the limit, 12 when it exceeds the buffer
unfoldable pub started : List ℕ → ℕ → Outcome ℕ
started s h =
    cond (ltb sheet_limit (h + trailer_length)) (refused bad_length)
    (cond (ltb (length s) (h + trailer_length)) (refused no_room) (accepted (h + trailer_length)))

-- the heading stays, and no record follows it
unfoldable pub after_start : List ℕ → ℕ → List ℕ
after_start s h = left s (started s h) (λ _. written_over s (record { heading = take h s; plots = [] }))

-- what an accepted start that answers n leaves in s, which is then s'
pub record StartedSheet (s s' : List ℕ) (h n : ℕ) : Type 0 where
  -- it answers h + 16, and the sheet checks with no records
  pub length_is : n ≡ h + trailer_length
  pub checks : checked s' n ≡ accepted 0
  -- only the trailer's bytes are written, after the heading, "with distance and count 0"
  pub trailer_is : TrailerOf record_length 0 (part s' h trailer_length)
  pub heading : take h s' ≡ take h s
  pub past : drop n s' ≡ drop n s
  pub same_length : length s' ≡ length s

-- ---- insert a plot

-- a sheet with one record more
abbrev pub with_plot : Record → Sheet → Sheet
with_plot r z = record { heading = z.heading; plots = put_in_order r z.plots }

-- the number v is 0, or one of the records has it
abbrev pub is_bad_number : ℕ → List Record → Bool
is_bad_number v rs = eqb v 0 || present v rs

-- the sheet z with r, where r may go in: 11, then 12 by the new length
unfoldable pub admitted : List ℕ → Record → Sheet → Outcome Sheet
admitted s r z = cond (is_bad_number r.number z.plots) (refused bad_number) (roomed record_length s (with_plot r z))

-- the sheet that an insert makes: the outline's refusals, the check's, 11 and 12
unfoldable pub insertion : List ℕ → ℕ → Record → Outcome Sheet
insertion s len r = then (traced r.outline) (λ _. then (parsed s len) (admitted s r))

-- what `insert` answers: the new length
unfoldable pub inserted : List ℕ → ℕ → Record → Outcome ℕ
inserted s len r = then (insertion s len r) (λ z. accepted (written_length z))

-- what `insert` leaves
unfoldable pub after_insert : List ℕ → ℕ → Record → List ℕ
after_insert s len r = left s (insertion s len r) (written_over s)

-- how long a sheet of len bytes and c records, of any length, is with one more: every record has 46 bytes
abbrev pub grown_length : List ℕ → ℕ → ℕ → ℕ
grown_length s len c = stated_heading s len + record_length * (c + 1) + trailer_length

-- what an accepted insert of the record r that answers n leaves in s, a sheet of len bytes and c records, which is then s'
pub record GrownSheet (s s' : List ℕ) (len c : ℕ) (r : Record) (n : ℕ) : Type 0 where
  -- it answers the new length, and the sheet checks with one record more
  pub length_is : n ≡ grown_length s len c
  pub counted : checked s len ≡ accepted c
  pub checks : checked s' n ≡ accepted (c + 1)
  -- the new record is fetched at its place, the old ones before and after it in their order
  pub at : ℕ
  pub before : (k : ℕ) → k < at → fetched s' n k ≡ fetched s len k
  pub here : fetched s' n at ≡ accepted r
  pub after : (k : ℕ) → at ≤ k → fetched s' n (suc k) ≡ fetched s len k
  -- "with the trailer brought up to date"
  pub trailer_is : TrailerOf record_length (c + 1) (part s' (n - trailer_length) trailer_length)
  -- heading and bytes past the new length keep their values
  pub heading : take (stated_heading s len) s' ≡ take (stated_heading s len) s
  pub past : drop n s' ≡ drop n s
  pub same_length : length s' ≡ length s

-- ---- a record that a call keeps

-- the record q is one of those of the sheet in the first n bytes of v, whose trailer names 46: its fields stand in the 46 bytes at its place
pub record Rewritten (v : List ℕ) (n : ℕ) (q : Record) : Type 0 where
  pub count : ℕ
  pub counted : checked v n ≡ accepted count
  pub names : (trailer_at v (n - trailer_length)).length ≡ record_length
  pub index : ℕ
  pub below : index < count
  pub fetch : fetched v n index ≡ accepted q
  pub fields : RecordFields record_length (part v (n - trailer_length - record_length * count + record_length * index) record_length) q
