-- Each answer of `join` with what it says of the arguments, in the words and the order of document 02 (U6). proofs/JoinCases.antt shows that
-- each is given exactly where its case holds. Assumes nothing.
use Rattle.std.specs.Prelude.{◌≡◌, List, ℕ}
use Rattle.octagon.specs.Outcome.{Outcome, accepted, refused}
use Rattle.sheet.specs.declared.Record.{Record}
use Rattle.sheet.specs.Answers.{no_room, two_records}
use Rattle.sheet.specs.Cases.{CheckCase, IsFetched}
use Rattle.sheet.specs.WritingCases.{Exceeds}
use Rattle.sheet.specs.Joining.{joined_count, joined_length}

-- both sheets check, with c and d records
pub record GoodSheets (s : List ℕ) (m : ℕ) (t : List ℕ) (n c d : ℕ) : Type 0 where
  pub first_good : CheckCase s m (accepted c)
  pub second_good : CheckCase t n (accepted d)

-- "one plot number stands for two differing records"
pub record TwoRecords (s : List ℕ) (m : ℕ) (t : List ℕ) (n : ℕ) : Type 0 where
  pub one : Record
  pub other : Record
  pub in_first : IsFetched s m one
  pub in_second : IsFetched t n other
  pub same_number : one.number ≡ other.number
  pub differing : ¬ (one ≡ other)

-- "the first is checked before the second"; "18 when one plot number stands for two differing records, after both checks and before 12, which
-- is given when the new length exceeds the third buffer or 65,536"; else "the new length"
pub data JoinCase (s : List ℕ) (m : ℕ) (t : List ℕ) (n : ℕ) (u : List ℕ) : Outcome ℕ → Type 0 where
  first_refused : {e : ℕ} → CheckCase s m (refused e) → JoinCase s m t n u (refused e)
  second_refused : {c e : ℕ} → CheckCase s m (accepted c) → CheckCase t n (refused e) → JoinCase s m t n u (refused e)
  two_differ : {c d : ℕ} → GoodSheets s m t n c d → TwoRecords s m t n → JoinCase s m t n u (refused two_records)
  too_long : {c d : ℕ} → GoodSheets s m t n c d → ¬ (TwoRecords s m t n) → Exceeds u (joined_length s m (joined_count s m t n c d))
      → JoinCase s m t n u (refused no_room)
  joins : {c d : ℕ} → GoodSheets s m t n c d → ¬ (TwoRecords s m t n) → ¬ (Exceeds u (joined_length s m (joined_count s m t n c d)))
      → JoinCase s m t n u (accepted (joined_length s m (joined_count s m t n c d)))
