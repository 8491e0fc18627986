-- `same_outline` meets its contract. Assumes nothing.
use mathlib.Core.Path.{◌∙◌}
use Rattle.outline.proofs.Derived.{derived_same}
use Rattle.outline.proofs.comparing.same_outline.Goals as goal

pub returns : goal.returns
returns c = c.eq.ensures ∙ derived_same c.args.o c.args.p
