-- `even_bound` meets its contract: the sums fit by what it requires, and each call gives what its contract says. Assumes nothing.
use mathlib.Core.Path.{◌∙◌}
use mir.Syntax.{w64}
use Rattle.integers.specs.Minimum as minimum
use Rattle.integers.proofs.Range.{signs, kept}
use Rattle.octagon.specs.NormalForm.{even_bound}
use Rattle.octagon.proofs.bounds.even_bound.Goals as goal

pub returns : goal.returns
unfolding even_bound minimum.min_ℤ
returns c =
    let r = c.before in
    let h = r.before in
    let l = h.before in
    kept w64 c.min-3.type_inv ∙ c.min-3.ensures.value ∙
    simp (kept w64 l.min.type_inv ∙ l.min.ensures.value, kept w64 r.min-2.type_inv ∙ r.min-2.ensures.value, kept w64 h.half.type_inv ∙ h.half.ensures) (search signs depth 8)
