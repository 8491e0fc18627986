-- `dilate_n` meets its contract: the sums with few enough multiples fit. Assumes nothing.
use Rattle.octagon.proofs.Ranges.{roomy_held}
use Rattle.morphology.proofs.Widths.{sums_folded_roomy, sums_folded_held}
use Rattle.morphology.proofs.folds.dilate_n.Goals as goal

pub wide_sums-requires : goal.wide_sums-requires
wide_sums-requires c =
    rw (c.multiples.ensures, c.widen.ensures)
    (roomy_held (sums_folded_roomy (record { of_p = c.in_ok-a.a.is_normal; of_f = c.in_ok-b.b.is_normal }) _ c.if-n-gt-FOLD_LIMIT.false))

pub place_wide-requires : goal.place_wide-requires
place_wide-requires c =
    rw (c.wide_sums.ensures, c.multiples.ensures, c.widen.ensures)
    (sums_folded_held (record { of_p = c.in_ok-a.a.is_normal; of_f = c.in_ok-b.b.is_normal }) _ c.if-n-gt-FOLD_LIMIT.false)
