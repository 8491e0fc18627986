-- `erode_n` meets its contract: the differences with few enough multiples fit. Assumes nothing.
use Rattle.octagon.proofs.Ranges.{roomy_held}
use Rattle.octagon.specs.Widths.{Roomy}
use Rattle.morphology.specs.Operations.{differences}
use Rattle.morphology.specs.Folds.{multiples}
use Rattle.morphology.proofs.Widths.{differences_folded_roomy}
use Rattle.morphology.proofs.folds.erode_n.Goals.{After-multiples}
use Rattle.morphology.proofs.folds.erode_n.Goals as goal

room : (c : After-multiples) → Roomy 3 (differences c.in_ok-a.a.bounds (multiples c.args.n c.in_ok-b.b.bounds))
room c = differences_folded_roomy (record { of_p = c.in_ok-a.a.is_normal; of_f = c.in_ok-b.b.is_normal }) _ c.if-n-gt-FOLD_LIMIT.false

pub wide_differences-requires : goal.wide_differences-requires
wide_differences-requires c = rw (c.multiples.ensures, c.widen.ensures) (roomy_held (room c))

pub fit_wide-requires : goal.fit_wide-requires
fit_wide-requires c = rw (c.wide_differences.ensures, c.multiples.ensures, c.widen.ensures) (room c.before)
