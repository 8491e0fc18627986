-- Records by their plot numbers: their order, whether a number is present, a record's place among others, and one record more.
-- Assumes nothing.
use Rattle.std.specs.Prelude.{ℕ, zero, suc, ◌<◌, ◌≡◌, Bool, false, cond, ◌||◌, List, [], ◌∷◌, ltb, eqb}
use Rattle.octagon.specs.Outcome.{Outcome, accepted, refused}
use Rattle.sheet.specs.declared.Record.{Record}
use Rattle.sheet.specs.Answers.{no_record}

-- record k, counted from 0: 13 when k is not below the count
abbrev pub nth : List Record → ℕ → Outcome Record
nth [] k = refused no_record
nth (r ∷ rs) zero = accepted r
nth (r ∷ rs) (suc k) = nth rs k

-- P holds of each record
pub data All (P : Record → Type 0) : List Record → Type 0 where
  none : All P []
  more : {r : Record} {rs : List Record} → P r → All P rs → All P (r ∷ rs)

-- the numbers rise from above v, and P holds of each record
pub data Ascending (P : Record → Type 0) : ℕ → List Record → Type 0 where
  last : {v : ℕ} → Ascending P v []
  next : {v : ℕ} {r : Record} {rs : List Record} → v < r.number → P r → Ascending P r.number rs → Ascending P v (r ∷ rs)

-- some record has the number v, and the test of it
pub record Present (v : ℕ) (rs : List Record) : Type 0 where
  pub place : ℕ
  pub plot : Record
  pub there : nth rs place ≡ accepted plot
  pub same : plot.number ≡ v

abbrev pub present : ℕ → List Record → Bool
present v [] = false
present v (r ∷ rs) = eqb r.number v || present v rs

-- how many records stand before the first whose number is not below v
abbrev pub rank : ℕ → List Record → ℕ
rank v [] = 0
rank v (r ∷ rs) = cond (ltb r.number v) (suc (rank v rs)) 0

-- the records with r put before the first whose number is not below its own
abbrev pub put_in_order : Record → List Record → List Record
put_in_order r [] = r ∷ []
put_in_order r (a ∷ rs) = cond (ltb a.number r.number) (a ∷ put_in_order r rs) (r ∷ a ∷ rs)
