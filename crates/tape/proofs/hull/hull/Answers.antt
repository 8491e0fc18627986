-- `hull` meets its contract: std's greater of two, bound by bound. Assumes nothing.
use borrow.Author.Rules.{rules}
use Rattle.integers.specs.Minimum as minimum
use Rattle.tape.specs.Hull.{hull}
use Rattle.tape.proofs.hull.hull.Goals as goal

pub returns : goal.returns
unfolding hull minimum.max_ℤ
returns c = search rules
