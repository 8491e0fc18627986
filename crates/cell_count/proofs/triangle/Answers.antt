-- `triangle` meets its contract: the product fits. Assumes nothing.
use borrow.Author.Rules.{rules}
use Rattle.cell_count.specs.Area.{triangle}
use Rattle.cell_count.proofs.triangle.Goals as goal

pub returns : goal.returns
unfolding triangle
returns c = search rules
