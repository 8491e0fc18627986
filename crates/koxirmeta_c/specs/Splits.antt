-- Splits in slices, and the call on them. Assumes nothing.
use Rattle.std.specs.Prelude.{ℕ, Bool, ◌&&◌, List, eqb, ℤ, length}
use Rattle.octagon.specs.Outcome.{Outcome}
use Rattle.decomposition.specs.declared.Split.{Split}
use Rattle.decomposition.specs.Pieces.{listed}
use Rattle.decomposition.specs.Splitting.{decomposition}
use Rattle.koxirmeta_c.specs.Calls.{fitted, is_eight, octagon_in}
use Rattle.koxirmeta_c.specs.Outlines.{is_pair, start}

-- the slices of a start and of thirteen counts
abbrev pub holds_split : List ℤ → List ℕ → Bool
holds_split from counts = is_pair from && eqb (length counts) 13

-- the start of a split, and its counts in the pieces' order
abbrev pub split_parts : Split → List ℤ × List ℕ
split_parts s = (start s.start.i s.start.j, listed s.counts)

-- the call
abbrev pub splitting : List ℤ → List ℤ → List ℕ → Outcome Split
splitting s from counts = fitted (is_eight s && holds_split from counts) (decomposition (octagon_in s))
