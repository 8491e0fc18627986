-- A spectrum in a lent list, and the call. Assumes nothing.
use Rattle.std.specs.Prelude.{ℕ, Bool, cond, ◌&&◌, List, ℤ, length}
use Rattle.octagon.specs.Outcome.{Outcome}
use Rattle.spectrum.specs.Spectra.{spectrum, after_spectrum}
use Rattle.spectrum.specs.Answers.{Ending, ended}
use Rattle.koxirmeta_c.specs.Calls.{fitted, is_eight, octagon_in}

-- how a spectrum ended, as a number: 0 for spent, 1 for finished
abbrev pub ending_number : Bool → ℕ
ending_number t = cond t 1 0

-- the trims, and how it ended
abbrev pub ending_parts : Ending → ℕ × ℕ
ending_parts e = (e.trims, ending_number e.is_finished)

-- the call, and what it leaves in the list
abbrev pub breaking_up : List ℤ → List ℤ → List ℕ → Outcome Ending
breaking_up p f l = fitted (is_eight p && is_eight f) (ended (spectrum (octagon_in p) (octagon_in f) (length l)))

abbrev pub after_breaking_up : List ℤ → List ℤ → List ℕ → List ℕ
after_breaking_up p f l = cond (is_eight p && is_eight f) (after_spectrum (octagon_in p) (octagon_in f) l) l
