-- Marks: an octagon that a call hands back exact or filled (document 02's U4), and each case of `Spread`. Assumes nothing.
use Rattle.std.specs.Prelude.{Bool, true, false, Result, Ok, Err}
use Rattle.octagon.specs.Octagon.{Octagon}
use Rattle.octagon.specs.declared.refusal.Refusal.{Refusal}
use Rattle.octagon.specs.Outcome.{Outcome, accepted, refused, then}
use Rattle.octagon.specs.Answers.{refusal_number}
use Rattle.morphology.specs.declared.Spread.{Spread}
use Rattle.morphology.specs.declared.Spread.TheVariants.{Exact, Filled}

-- an octagon and its mark
pub record Marked : Type 0 where
  pub is_filled : Bool
  pub octagon : Octagon

-- "exact"
abbrev pub exact : Octagon → Marked
exact a = record { is_filled = false; octagon = a }

-- "filled"
abbrev pub filled : Octagon → Marked
filled a = record { is_filled = true; octagon = a }

-- the octagon of each case of `Spread`, with its mark
abbrev pub marked_of : Spread → Marked
marked_of (Exact a) = exact a
marked_of (Filled a) = filled a

-- what a call that spreads answers: the octagon with its mark, or the number of its refusal
abbrev pub spread_outcome : Result Spread Refusal → Outcome Marked
spread_outcome (Ok s) = accepted (marked_of s)
spread_outcome (Err e) = refused (refusal_number e)

-- an answer with a mark; a refusal has none
abbrev pub marked : Bool → Outcome Octagon → Outcome Marked
marked t o = then o (λ a. accepted (record { is_filled = t; octagon = a }))

-- an answer without its mark
abbrev pub unmarked : Outcome Marked → Outcome Octagon
unmarked o = then o (λ m. accepted m.octagon)

-- whether an answer is an octagon that is filled
abbrev pub fills : Outcome Marked → Bool
fills (accepted m) = m.is_filled
fills (refused k) = false
