-- `write_all`: what is gone from the text was written, and what is left of it, with the tries, falls. Assumes nothing.
use Rattle.std.proofs.Common.{◌≡◌, List, ℕ, length, ◌++◌, ◌+◌}
use Rattle.std.specs.Io.KnownBytes.{Appends}
use Rattle.listing_io.proofs.output.write_all.Given as goal

abbrev pub invariant-loop-rest : goal.invariant-loop-rest
invariant-loop-rest g l =
    (written : List ℕ) × (l.initial.rest ≡ written ++ l.rest) × Appends (g.W.Write.contents l.initial.to) (g.W.Write.contents l.to) written

abbrev pub decreases-loop-rest : goal.decreases-loop-rest
decreases-loop-rest g l = length l.rest + l.tries.left
