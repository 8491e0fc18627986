-- `closing` meets its contract: what the dilation gave is its own normal form. Assumes nothing.
use mathlib.Core.Path.{sym}
use borrow.Author.Rules.{rules}
use Rattle.morphology.proofs.Operands.{Accepted}
use Rattle.morphology.proofs.Forms.{dilated_form, closed_forms}
use Rattle.morphology.proofs.Widths.{differences_held}
use Rattle.morphology.proofs.closing.Goals.{In_ok-b}
use Rattle.morphology.proofs.closing.Goals as goal

operands : (c : In_ok-b) → Accepted c.args.plot c.args.element c.in_ok-a.a.bounds c.in_ok-b.b.bounds
operands c = record { of_p = sym c.in_ok-a.ensures; of_f = sym c.in_ok-b.ensures }

pub differences-requires : goal.differences-requires
differences-requires c = rw c.octagon.ensures (differences_held (dilated_form (operands (search)) (sym c.in_ok-spread.ensures)))

pub returns-in_err-closed : goal.returns-in_err-closed
returns-in_err-closed c = rw (closed_forms (operands (search))) (search rules)

pub returns : goal.returns
returns c = rw (closed_forms (operands (search))) (search rules)
