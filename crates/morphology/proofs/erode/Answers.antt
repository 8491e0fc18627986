-- `erode` meets its contract: the differences of normal forms fit. Assumes nothing.
use Rattle.morphology.proofs.Widths.{differences_held}
use Rattle.morphology.proofs.erode.Goals as goal

pub differences-requires : goal.differences-requires
differences-requires c = differences_held (record { of_p = c.in_ok-a.a.is_normal; of_f = c.in_ok-b.b.is_normal })
