-- The records of two sheets together: whether one plot number stands for two differing records, the records of both by number, and which of
-- them comes first. proofs/Agreement.antt and proofs/Merging.antt say what they mean. Assumes nothing.
use Rattle.std.specs.Prelude.{ℕ, ◌+◌, ◌≡◌, Bool, true, false, cond, not, ◌&&◌, ◌||◌, List, [], ◌∷◌, length, drop, leb, eqb}
use Rattle.octagon.specs.Outcome.{Outcome, accepted, refused}
use Rattle.outline.specs.Sameness.{same_outline}
use Rattle.sheet.specs.declared.Record.{Record}
use Rattle.sheet.specs.Answers.{two_records}
use Rattle.sheet.specs.Order.{nth, present, put_in_order}

-- ---- records that differ

-- whether two records have the same number, outline and fee row
unfoldable pub same_record : Record → Record → Bool
same_record r t = eqb r.number t.number && same_outline r.outline t.outline && eqb r.fee_row t.fee_row

-- whether two records have one number, and differ
abbrev pub differ : Record → Record → Bool
differ r t = eqb r.number t.number && not (same_record r t)

-- whether some record of ts has the number of r, and differs from it
abbrev pub contradicted : Record → List Record → Bool
contradicted r [] = false
contradicted r (t ∷ ts) = differ r t || contradicted r ts

-- "one plot number stands for two differing records": one of rs, and one of ts
unfoldable pub conflict : List Record → List Record → Bool
conflict [] ts = false
conflict (r ∷ rs) ts = contradicted r ts || conflict rs ts

-- q is one of the records rs
abbrev pub Among : Record → List Record → Type 0
Among q rs = (k : ℕ) × (nth rs k ≡ accepted q)

-- two lists agree where no number stands for two differing records: of one number the records of rs and of ts are one
abbrev pub Agree : List Record → List Record → Type 0
Agree rs ts = (r t : Record) → Among r rs → Among t ts → r.number ≡ t.number → r ≡ t

-- ---- the records of both

-- rs with t in its place, unless a record of rs has its number
abbrev pub put_once : Record → List Record → List Record
put_once t rs = cond (present t.number rs) rs (put_in_order t rs)

-- those of rs, and each of ts whose number is not among theirs, by number
unfoldable pub merged : List Record → List Record → List Record
merged rs [] = rs
merged rs (t ∷ ts) = put_once t (merged rs ts)

-- how many of ts have a number that a record of rs has
abbrev pub in_both : List Record → List Record → ℕ
in_both rs [] = 0
in_both rs (t ∷ ts) = cond (present t.number rs) 1 0 + in_both rs ts

-- how many they are: 18 where two differ
abbrev pub tallied : List Record → List Record → Outcome ℕ
tallied rs ts = cond (conflict rs ts) (refused two_records) (accepted (length (merged rs ts)))

-- ---- which comes first, where both are in order

-- whether the first of rs does: there is one, and the first of ts, if there is one, has no lower number
abbrev pub leads : List Record → List Record → Bool
leads [] ts = false
leads (r ∷ rs) [] = true
leads (r ∷ rs) (t ∷ ts) = leb r.number t.number

-- whether the first of each have one number, and differ
abbrev pub heads_differ : List Record → List Record → Bool
heads_differ [] ts = false
heads_differ (r ∷ rs) [] = false
heads_differ (r ∷ rs) (t ∷ ts) = differ r t

-- the records without the first, where it is taken
abbrev pub without_head : Bool → List Record → List Record
without_head taken rs = cond taken (drop 1 rs) rs
