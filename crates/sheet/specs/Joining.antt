-- What `join` answers and leaves in the third buffer: definitions that compute, and what document 02 (U6) says of an accepted join
-- (`JoinedSheet`), which proofs/Joins.antt shows of them. Assumes nothing.
use Rattle.std.specs.Prelude.{◌≡◌, cond, ◌↔◌, ◌⊎◌, List, ℕ, suc, ◌+◌, ◌-◌, ◌*◌, ◌<◌, length, take, drop}
use Rattle.octagon.specs.Outcome.{Outcome, accepted, refused, then, left}
use Rattle.records.specs.Parts.{part}
use Rattle.sheet.specs.declared.Record.{Record}
use Rattle.sheet.specs.Answers.{two_records}
use Rattle.sheet.specs.Layout.{record_length}
use Rattle.sheet.specs.Trailer.{trailer_length}
use Rattle.sheet.specs.Bytes.{TrailerOf}
use Rattle.sheet.specs.Merging.{conflict, merged, in_both}
use Rattle.sheet.specs.Sheets.{Sheet}
use Rattle.sheet.specs.Checking.{parsed, checked, fetched}
use Rattle.sheet.specs.Cases.{stated_plots, stated_heading, IsFetched}
use Rattle.sheet.specs.Writing.{written_over, written_length, roomed}

-- a heading, and records
abbrev pub sheet_under : List ℕ → List Record → Sheet
sheet_under h rs = record { heading = h; plots = rs }

-- the first sheet's heading, and the records of both
abbrev pub union : Sheet → Sheet → Sheet
union y z = sheet_under y.heading (merged y.plots z.plots)

-- the two as one sheet in a buffer u: 18, then 12 by the new length
unfoldable pub united : List ℕ → Sheet → Sheet → Outcome Sheet
united u y z = cond (conflict y.plots z.plots) (refused two_records) (roomed record_length u (union y z))

-- the sheet that a join makes of the first m bytes of s and the first n of t: the first sheet's refusals, the second's, 18 and 12
unfoldable pub joining : List ℕ → ℕ → List ℕ → ℕ → List ℕ → Outcome Sheet
joining s m t n u = then (parsed s m) (λ y. then (parsed t n) (united u y))

-- what `join` answers: the new length
unfoldable pub joined : List ℕ → ℕ → List ℕ → ℕ → List ℕ → Outcome ℕ
joined s m t n u = then (joining s m t n u) (λ z. accepted (written_length z))

-- what `join` leaves in u
unfoldable pub after_join : List ℕ → ℕ → List ℕ → ℕ → List ℕ → List ℕ
after_join s m t n u = left u (joining s m t n u) (written_over u)

-- how many records a sheet of c and one of d have together, one that is in both counted once, and how long the sheet of them is under the
-- first's heading: every record has 46 bytes
abbrev pub joined_count : List ℕ → ℕ → List ℕ → ℕ → ℕ → ℕ → ℕ
joined_count s m t n c d = c + d - in_both (stated_plots s m) (stated_plots t n)

abbrev pub joined_length : List ℕ → ℕ → ℕ → ℕ
joined_length s m k = stated_heading s m + record_length * k + trailer_length

-- what an accepted join of a sheet of c records in s and one of d in t leaves in u, which is then u', where it answers l
pub record JoinedSheet (s : List ℕ) (m : ℕ) (t : List ℕ) (n : ℕ) (u u' : List ℕ) (c d l : ℕ) : Type 0 where
  -- it answers the new length, and the sheet checks
  pub first_counted : checked s m ≡ accepted c
  pub second_counted : checked t n ≡ accepted d
  pub length_is : l ≡ joined_length s m (joined_count s m t n c d)
  pub checks : checked u' l ≡ accepted (joined_count s m t n c d)
  -- its records are those of either sheet, by rising number
  pub records : (q : Record) → IsFetched u' l q ↔ (IsFetched s m q ⊎ IsFetched t n q)
  pub rising : (k : ℕ) (a b : Record) → fetched u' l k ≡ accepted a → fetched u' l (suc k) ≡ accepted b → a.number < b.number
  pub trailer_is : TrailerOf record_length (joined_count s m t n c d) (part u' (l - trailer_length) trailer_length)
  -- "under the first sheet's heading"; "Bytes of the third past the new length keep their values"
  pub heading : take (stated_heading s m) u' ≡ take (stated_heading s m) s
  pub past : drop l u' ≡ drop l u
  pub same_length : length u' ≡ length u

-- two sheets have the same records, in the same order
abbrev pub SameRecords : List ℕ → ℕ → List ℕ → ℕ → Type 0
SameRecords s m t n = (k : ℕ) → fetched s m k ≡ fetched t n k
