-- The loop of `gather`: the points that are left decide. Assumes nothing.
use Rattle.std.proofs.Common.{◌≡◌, drop}
use Rattle.tape.specs.Enclosing.{gathered, paired}
use Rattle.tape.proofs.gather.Given as goal

abbrev pub invariant-loop-pair : goal.invariant-loop-pair
invariant-loop-pair l = gathered l.initial.all (paired l.pairs) ≡ gathered l.all (paired (drop l.pair-index l.pairs))
