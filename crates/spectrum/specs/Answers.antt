-- Document 02's values for each case of `Spectrum`, and its numbers of the refusals. Assumes nothing.
use Rattle.std.specs.Prelude.{Bool, true, false, ℕ, Result, Ok, Err}
use Rattle.octagon.specs.declared.refusal.Refusal.{Refusal}
use Rattle.octagon.specs.Outcome.{Outcome, accepted, refused, then}
use Rattle.octagon.specs.Answers.{refusal_number}
use Rattle.spectrum.specs.declared.Spectrum.{Spectrum}
use Rattle.spectrum.specs.declared.Spectrum.TheVariants.{Finished, Spent}
use Rattle.spectrum.specs.Walks.{Walk}

-- "how many trims were made, and 'finished' or 'spent'"
pub record Ending : Type 0 where
  pub trims : ℕ
  pub is_finished : Bool

abbrev pub ending_of : Spectrum → Ending
ending_of (Finished n) = record { trims = n; is_finished = true }
ending_of (Spent n) = record { trims = n; is_finished = false }

abbrev pub outcome : Result Spectrum Refusal → Outcome Ending
outcome (Ok s) = accepted (ending_of s)
outcome (Err e) = refused (refusal_number e)

-- how a walk ended
abbrev pub ending : Walk → Ending
ending w = record { trims = w.trims; is_finished = w.is_finished }

abbrev pub ended : Outcome Walk → Outcome Ending
ended o = then o (λ w. accepted (ending w))
