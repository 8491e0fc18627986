-- `odd_bound` meets its contract: the sum fits by what it requires. Assumes nothing.
use mathlib.Core.Path.{◌∙◌}
use mir.Syntax.{w64}
use Rattle.integers.specs.Minimum as minimum
use Rattle.integers.proofs.Range.{signs, kept}
use Rattle.octagon.specs.NormalForm.{odd_bound}
use Rattle.octagon.proofs.bounds.odd_bound.Goals as goal

pub returns : goal.returns
unfolding odd_bound minimum.min_ℤ
returns c = kept w64 c.min.type_inv ∙ c.min.ensures.value ∙ search signs depth 8
