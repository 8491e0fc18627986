-- What `convert` answers and leaves in the second buffer: definitions that compute, and what document 02 (U10) says of an accepted conversion
-- (`ConvertedSheet`), which proofs/ConvertedSheets.antt shows of them. Assumes nothing.
use Rattle.std.specs.Prelude.{◌≡◌, Bool, true, false, cond, ◌||◌, List, [], ◌∷◌, ℕ, ◌+◌, ◌-◌, ◌*◌, length, take, drop}
use Rattle.octagon.specs.Outcome.{Outcome, accepted, refused, then, left}
use Rattle.outline.specs.Tracing.{traced_in}
use Rattle.records.specs.Parts.{part}
use Rattle.sheet.specs.declared.Record.{Record}
use Rattle.sheet.specs.Answers.{off_old_map}
use Rattle.sheet.specs.Layout.{old_limit, fee_length}
use Rattle.sheet.specs.Bytes.{TrailerOf}
use Rattle.sheet.specs.Sheets.{Sheet, sheet_length}
use Rattle.sheet.specs.Trailer.{trailer_length}
use Rattle.sheet.specs.Checking.{parsed, checked}
use Rattle.sheet.specs.Cases.{stated_heading}
use Rattle.sheet.specs.Writing.{laid_over, roomed}
use Rattle.sheet.specs.Joining.{SameRecords}

-- "a plot to be written back leaves the old map": the old map refuses its outline; and one of these does
unfoldable pub is_stray : Record → Bool
is_stray r = left true (traced_in old_limit r.outline) (λ _. false)

abbrev pub strays : List Record → Bool
strays [] = false
strays (r ∷ rs) = is_stray r || strays rs

-- a sheet that is to be written at 26 in u: 21, then 12
unfoldable pub narrowed : List ℕ → Sheet → Outcome Sheet
narrowed u z = cond (strays z.plots) (refused off_old_map) (roomed fee_length u z)

-- the sheet that a conversion of the first len bytes of s makes: the check's refusals, 21 and 12
unfoldable pub conversion : List ℕ → ℕ → List ℕ → Outcome Sheet
conversion s len u = then (parsed s len) (narrowed u)

-- what `convert` answers, the new length, and what it leaves in u
unfoldable pub converted : List ℕ → ℕ → List ℕ → Outcome ℕ
converted s len u = then (conversion s len u) (λ z. accepted (sheet_length fee_length z))

unfoldable pub after_convert : List ℕ → ℕ → List ℕ → List ℕ
after_convert s len u = left u (conversion s len u) (laid_over fee_length u)

-- how long a sheet of len bytes and c records is when it is written back: every record has 26 bytes
abbrev pub converted_length : List ℕ → ℕ → ℕ → ℕ
converted_length s len c = stated_heading s len + fee_length * c + trailer_length

-- what an accepted conversion of a sheet of c records in s leaves in u, which is then u', where it answers n
pub record ConvertedSheet (s : List ℕ) (len : ℕ) (u u' : List ℕ) (c n : ℕ) : Type 0 where
  -- it answers the new length, and the sheet checks, with the same records in the same order
  pub counted : checked s len ≡ accepted c
  pub length_is : n ≡ converted_length s len c
  pub checks : checked u' n ≡ accepted c
  pub records : SameRecords u' n s len
  pub trailer_is : TrailerOf fee_length c (part u' (n - trailer_length) trailer_length)
  -- the heading is the first sheet's, and bytes past the new length keep their values
  pub heading : take (stated_heading s len) u' ≡ take (stated_heading s len) s
  pub past : drop n u' ≡ drop n u
  pub same_length : length u' ≡ length u
