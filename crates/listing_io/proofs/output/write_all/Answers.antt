-- `write_all`: what one more write took follows what was written before. Assumes nothing.
use Rattle.listing_io.proofs.Moves.{writes_more}
use Rattle.listing_io.proofs.output.write_all.Goals as goal

pub loop-rest-preserved-in-Ok : goal.loop-rest-preserved-in-Ok
loop-rest-preserved-in-Ok g c = writes_more _ _ _ _ c.loop-rest.rest.now c.in-Ok.n c.loop-rest.invariant c.in-Ok.ensures.bytes
