-- What `check`, `fetch` and `read` answer by the rules of sheets of 24 and of 26 bytes a record alone, which know no other record and no map but
-- the old one: definitions that compute. proofs/OldSheets.antt shows that such a sheet has these answers. Assumes nothing.
use Rattle.std.specs.Prelude.{Bool, cond, not, ◌||◌, List, [], ◌∷◌, ℕ, ◌-◌, length, ltb, eqb}
use Rattle.octagon.specs.Octagon.{Octagon}
use Rattle.octagon.specs.Outcome.{Outcome, accepted, refused, then, off_map}
use Rattle.octagon.specs.NormalForm.{is_within}
use Rattle.outline.specs.declared.Outline.{Outline}
use Rattle.outline.specs.Closing.{closes}
use Rattle.outline.specs.Tracing.{not_closed, drawn}
use Rattle.sheet.specs.declared.Record.{Record}
use Rattle.sheet.specs.declared.trailer.Trailer.{Trailer}
use Rattle.sheet.specs.Answers.{bad_length, bad_trailer, bad_distance, bad_number}
use Rattle.sheet.specs.Layout.{base_length, fee_length, old_limit}
use Rattle.sheet.specs.Trailer.{trailer_length, letters, trailer_at}
use Rattle.sheet.specs.Order.{nth}
use Rattle.sheet.specs.Sheets.{Sheet, sheet_of}
use Rattle.sheet.specs.Checking.{is_bad_length, is_bad_distance}

-- the octagon of an outline: 3 where it does not close, 2 where some cell lies off the old map
unfoldable pub old_traced : Outline → Outcome Octagon
old_traced o = cond (closes o) (cond (is_within old_limit (drawn o)) (accepted (drawn o)) (refused off_map)) (refused not_closed)

-- each record in order: 11, and then its outline's refusals
unfoldable pub old_judged : ℕ → Record → Outcome ℕ
old_judged before r = cond (ltb before r.number) (then (old_traced r.outline) (λ _. accepted r.number)) (refused bad_number)

unfoldable pub old_surveyed : ℕ → List Record → Outcome (Unit {0})
old_surveyed before [] = accepted tt
old_surveyed before (r ∷ rs) = then (old_judged before r) (λ v. old_surveyed v rs)

-- record length, zero bytes or letters are wrong
abbrev pub has_bad_old_marks : Trailer → Bool
has_bad_old_marks z = not (eqb z.length base_length || eqb z.length fee_length) || not (eqb z.zeros 0) || not (eqb z.letters letters)

-- the frame: 8, 9 and 10
unfoldable pub old_framed : List ℕ → ℕ → Outcome Trailer
old_framed s len =
    let z = trailer_at s (len - trailer_length) in
    cond (is_bad_length s len) (refused bad_length)
    (cond (has_bad_old_marks z) (refused bad_trailer) (cond (is_bad_distance len z) (refused bad_distance) (accepted z)))

-- what the sheet says
unfoldable pub old_parsed : List ℕ → ℕ → Outcome Sheet
old_parsed s len = then (old_framed s len) (λ z. then (old_surveyed 0 (sheet_of s len z).plots) (λ _. accepted (sheet_of s len z)))

-- what `check`, `fetch` and `read` answer
unfoldable pub old_checked : List ℕ → ℕ → Outcome ℕ
old_checked s len = then (old_parsed s len) (λ z. accepted (length z.plots))

unfoldable pub old_fetched : List ℕ → ℕ → ℕ → Outcome Record
old_fetched s len k = then (old_parsed s len) (λ z. nth z.plots k)

unfoldable pub old_read : List ℕ → ℕ → ℕ → Outcome Record
old_read s len k = then (old_framed s len) (λ z. nth (sheet_of s len z).plots k)
