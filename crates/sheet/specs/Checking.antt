-- What `check`, `fetch` and `read` answer: definitions that compute. proofs/CheckCases.antt, proofs/FetchCases.antt and
-- proofs/ReadCases.antt say exactly when each answer is given. Assumes nothing.
use Rattle.std.specs.Prelude.{◌≡◌, Bool, cond, not, ◌||◌, List, [], ◌∷◌, ℕ, ◌-◌, ◌*◌, length, ltb, eqb}
use Rattle.octagon.specs.Outcome.{Outcome, accepted, refused, then, left}
use Rattle.outline.specs.Tracing.{traced_in}
use Rattle.sheet.specs.declared.Record.{Record}
use Rattle.sheet.specs.declared.trailer.Trailer.{Trailer}
use Rattle.sheet.specs.Answers.{bad_length, bad_trailer, bad_distance, bad_number}
use Rattle.sheet.specs.Layout.{is_record_length, map_limit}
use Rattle.sheet.specs.Trailer.{trailer_length, letters, trailer_at}
use Rattle.sheet.specs.Order.{nth}
use Rattle.sheet.specs.Sheets.{sheet_limit, Sheet, sheet_of}

-- ---- the frame: the length and the trailer

-- the length is below the trailer's, above the limit or above the buffer's
abbrev pub is_bad_length : List ℕ → ℕ → Bool
is_bad_length s len = ltb len trailer_length || ltb sheet_limit len || ltb (length s) len

-- record length, zero bytes or letters are wrong
abbrev pub has_bad_marks : Trailer → Bool
has_bad_marks z = not (is_record_length z.length) || not (eqb z.zeros 0) || not (eqb z.letters letters)

-- the distance is not that of the records, or exceeds the length less the trailer's
abbrev pub is_bad_distance : ℕ → Trailer → Bool
is_bad_distance len z = not (eqb z.distance (z.length * z.count)) || ltb (len - trailer_length) z.distance

-- the trailer of a sheet of len bytes: 9, then 10
unfoldable pub stated : ℕ → Trailer → Outcome Trailer
stated len z = cond (has_bad_marks z) (refused bad_trailer) (cond (is_bad_distance len z) (refused bad_distance) (accepted z))

-- and 8 first
unfoldable pub framed : List ℕ → ℕ → Outcome Trailer
framed s len = cond (is_bad_length s len) (refused bad_length) (stated len (trailer_at s (len - trailer_length)))

-- ---- the records

-- a record's plot number, where the map runs from -m to m and the record before it has the number `before` (0 for the first): 11 when it is
-- 0 or not above that, then the outline's refusals
unfoldable pub judged : ℕ → ℕ → Record → Outcome ℕ
judged m before r = cond (ltb before r.number) (then (traced_in m r.outline) (λ _. accepted r.number)) (refused bad_number)

-- each record in order, and then a
unfoldable pub surveyed : {A : Type 0} → ℕ → A → ℕ → List Record → Outcome A
surveyed m a before [] = accepted a
surveyed m a before (r ∷ rs) = then (judged m before r) (λ v. surveyed m a v rs)

-- all of them from the first on, with no answer, and that none is refused
abbrev pub all_judged : ℕ → List Record → Outcome (Unit {0})
all_judged m rs = surveyed m tt 0 rs

abbrev pub Surveyed : ℕ → List Record → Type 0
Surveyed m rs = all_judged m rs ≡ accepted tt

-- ---- the sheet

-- its trailer, where the frame and every record are right
unfoldable pub inspected : List ℕ → ℕ → Outcome Trailer
inspected s len = then (framed s len) (λ z. surveyed (map_limit z.length) z 0 (sheet_of s len z).plots)

-- what it then says
unfoldable pub parsed : List ℕ → ℕ → Outcome Sheet
parsed s len = then (inspected s len) (λ z. accepted (sheet_of s len z))

-- its records, and none where it is refused
unfoldable pub plots : List ℕ → ℕ → List Record
plots s len = left [] (parsed s len) (λ z. z.plots)

-- what `check` answers: the count
unfoldable pub checked : List ℕ → ℕ → Outcome ℕ
checked s len = then (parsed s len) (λ z. accepted (length z.plots))

-- what `fetch` answers: 13 when k is not below the count
unfoldable pub fetched : List ℕ → ℕ → ℕ → Outcome Record
fetched s len k = then (parsed s len) (λ z. nth z.plots k)

-- what `read` answers: the frame's refusals, and 13 when k is not below the count. No record is checked.
unfoldable pub read : List ℕ → ℕ → ℕ → Outcome Record
read s len k = then (framed s len) (λ z. nth (sheet_of s len z).plots k)
