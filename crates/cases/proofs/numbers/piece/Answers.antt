-- `piece` meets its contract: the definition's table is the one that document 01 prints. Assumes nothing.
use Rattle.outline.specs.Tables.{pieces, piece_sides}
use Rattle.decomposition.specs.Pieces.{piece_of}
use Rattle.cases.proofs.numbers.piece.Goals as goal

pub returns : goal.returns
unfolding piece_of piece_sides pieces
returns c = c.piece.ensures
