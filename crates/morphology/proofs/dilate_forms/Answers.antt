-- `dilate_forms` meets its contract: the sums of normal forms fit. Assumes nothing.
use Rattle.morphology.proofs.Widths.{sums_held}
use Rattle.morphology.proofs.dilate_forms.Goals as goal

pub sums-requires : goal.sums-requires
sums-requires c = sums_held (record { of_p = c.args.a.is_normal; of_f = c.args.b.is_normal })
