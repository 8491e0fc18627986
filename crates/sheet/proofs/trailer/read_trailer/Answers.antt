-- `read_trailer` meets its contract. Assumes nothing.
use Rattle.sheet.specs.Trailer.{trailer_at}
use Rattle.sheet.proofs.trailer.read_trailer.Goals as goal

pub returns : goal.returns
unfolding trailer_at
returns c = rw c.unpack-v.ensures.values
