-- `place_of` meets its contract: two calls. Assumes nothing.
use mir.Facts.{to_z-of_z}
use Rattle.outline.proofs.place.place_of.Goals as goal

pub returns : goal.returns
returns c =
    let s = c.before.before in
    rw (c.quarter.ensures, c.quarter-2.ensures, to_z-of_z s.ranges.x, to_z-of_z s.ranges.y)
