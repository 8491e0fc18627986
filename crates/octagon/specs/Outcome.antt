-- What a call that may refuse hands back: a value, or one refusal number of the documents. Assumes nothing.
use Rattle.std.specs.Prelude.{ℕ}

pub data Outcome (A : Type 0) : Type 0 where
  accepted : A → Outcome A
  refused : ℕ → Outcome A

-- a step that is made where the one before it is accepted; a refusal is the answer of both
abbrev pub then : {A B : Type 0} → Outcome A → (A → Outcome B) → Outcome B
then (accepted a) f = f a
then (refused n) f = refused n

-- what a call leaves of m, which it was lent: what f makes of its value where it is accepted, and m itself where it is refused
abbrev pub left : {A B : Type 0} → B → Outcome A → (A → B) → B
left m (accepted a) f = f a
left m (refused n) f = m

-- the refusal numbers of this crate: the bounds hold no cell; some cell lies off the map
abbrev pub no_cell : ℕ
no_cell = 1

abbrev pub off_map : ℕ
off_map = 2
