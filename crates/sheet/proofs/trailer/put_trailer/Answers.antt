-- `put_trailer` meets its contract. Assumes nothing.
use Rattle.sheet.specs.Trailer.{trailer}
use Rattle.sheet.proofs.trailer.put_trailer.Goals as goal

pub returns : goal.returns
unfolding trailer
returns c = c.pack.ensures
