-- `kx_to_octagon` meets its contract. Assumes nothing.
use Rattle.koxirmeta_c.proofs.Fitting.{wrong}
use Rattle.koxirmeta_c.proofs.outlines.kx_to_octagon.Goals as goal

pub returns : goal.returns
returns c = wrong _ (rw c.if-start-sides.false)
