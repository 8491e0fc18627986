-- `tighten_even` meets its contract: four calls, and four bounds as they were. Assumes nothing.
use mathlib.Core.Path.{◌≡◌, ◌∙◌, ap, sym}
use mir.Syntax.{w64}
use Rattle.octagon.specs.NormalForm.{tight_even}
use Rattle.octagon.specs.Answers.{octagon_of}
use Rattle.octagon.specs.Widths.{Held}
use Rattle.octagon.proofs.Fields.{back, back_is, stored}
use Rattle.octagon.proofs.Ranges.{roomy_held, roomy_even}
use Rattle.octagon.proofs.bounds.tighten_even.Goals.{Start}
use Rattle.octagon.proofs.bounds.tighten_even.Goals as goal

same : (c : Start) → back w64 (octagon_of c.args.b) ≡ octagon_of c.args.b
same c = back_is w64 (octagon_of c.args.b) (roomy_held c.requires)

fits : (c : Start) → Held w64 (tight_even (back w64 (octagon_of c.args.b)))
fits c = rw (same c) (roomy_held (roomy_even (octagon_of c.args.b) c.requires))

pub returns : goal.returns
unfolding tight_even
returns c =
    let e2 = c.before in
    let e1 = e2.before in
    let e0 = e1.before in
    let s = e0.before.before.before.before.before.before.before.before.before in
    let e = same s in
    stored w64 (fits s)
    e0.even_bound.ensures (ap (λ o. o.c1) (sym e)) e1.even_bound-2.ensures (ap (λ o. o.c3) (sym e))
    e2.even_bound-3.ensures (ap (λ o. o.c5) (sym e)) c.even_bound-4.ensures (ap (λ o. o.c7) (sym e))
    ∙ ap tight_even e
