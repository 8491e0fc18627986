-- `sides` meets its contract: the definition's table is the one that document 01 prints. Assumes nothing.
use Rattle.outline.specs.Tables.{pieces, piece_sides}
use Rattle.cases.proofs.numbers.sides.Goals as goal

pub returns : goal.returns
unfolding piece_sides pieces
returns c = c.piece_sides.ensures
