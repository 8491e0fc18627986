-- `quarter` meets its contract: the cast is exact, and so is the product with 0.25. Assumes nothing.
use lib.Ieee.{of_bits}
use mir.Facts.{to_z-of_z}
use Rattle.outline.proofs.Over.{over_mul}
use Rattle.outline.proofs.place.quarter.Goals as goal

pub returns : goal.returns
unfolding of_bits
returns c = let s = c.before in simp (to_z-of_z s.ranges.n) (over_mul s.args.n 1 s.ranges.n.sfits)
