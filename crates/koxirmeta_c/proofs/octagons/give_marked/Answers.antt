-- `give_marked` meets its contract: an octagon and its mark, or a refusal. Assumes nothing.
use mathlib.Core.Path.{refl, ap}
use mathlib.Core.Bool.{true}
use Rattle.morphology.specs.Marks.{spread_outcome}
use Rattle.koxirmeta_c.specs.Calls.{fitted}
use Rattle.koxirmeta_c.proofs.Fitting.{gives, keeps}
use Rattle.koxirmeta_c.proofs.octagons.give_marked.Goals as goal

pub returns-then-is_filled : goal.returns-then-is_filled
unfolding fitted
returns-then-is_filled c =
    gives {t = true} refl (ap spread_outcome c.in-Ok.is) (rw (c.copy_from_slice.ensures.after, c.bounds_of.ensures, c.octagon.ensures, ← c.if-is_filled.ensures))

pub returns-else-is_filled : goal.returns-else-is_filled
unfolding fitted
returns-else-is_filled c =
    gives {t = true} refl (ap spread_outcome c.in-Ok.is) (rw (c.copy_from_slice.ensures.after, c.bounds_of.ensures, c.octagon.ensures, ← c.if-is_filled.ensures))

pub returns-in-Err : goal.returns-in-Err
unfolding fitted
returns-in-Err c = rw c.number.ensures (keeps {t = true} refl (ap spread_outcome c.in-Err.is))
