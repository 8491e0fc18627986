-- `NormalForm::of` hands back a normal form: its bounds, normalised again, stay as they are. Assumes nothing.
use mathlib.Core.Path.{sym}
use Rattle.octagon.proofs.NormalForms.{normalised_again}
use Rattle.octagon.proofs.form.NormalForm.of.Goals as goal

pub invariant_of-result : goal.invariant_of-result
invariant_of-result c = record { is_normal = normalised_again _ _ (sym c.in_ok-bounds.ensures) }
