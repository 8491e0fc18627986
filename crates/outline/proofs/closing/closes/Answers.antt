-- `closes` meets its contract: four sums and two tests. Assumes nothing.
use Rattle.outline.specs.Closing.{closes}
use Rattle.outline.proofs.closing.closes.Goals as goal

pub returns : goal.returns
unfolding closes
returns c = cc
