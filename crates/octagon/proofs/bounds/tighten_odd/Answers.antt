-- `tighten_odd` meets its contract: four calls, and four bounds as they were. Assumes nothing.
use mathlib.Core.Path.{◌≡◌, ◌∙◌, ap, sym}
use mir.Syntax.{w64}
use Rattle.octagon.specs.NormalForm.{tight_odd}
use Rattle.octagon.specs.Answers.{octagon_of}
use Rattle.octagon.specs.Widths.{Held}
use Rattle.octagon.proofs.Fields.{back, back_is, stored}
use Rattle.octagon.proofs.Ranges.{roomy_held, roomy_odd}
use Rattle.octagon.proofs.bounds.tighten_odd.Goals.{Start}
use Rattle.octagon.proofs.bounds.tighten_odd.Goals as goal

same : (c : Start) → back w64 (octagon_of c.args.b) ≡ octagon_of c.args.b
same c = back_is w64 (octagon_of c.args.b) (roomy_held c.requires)

fits : (c : Start) → Held w64 (tight_odd (back w64 (octagon_of c.args.b)))
fits c = rw (same c) (roomy_held (roomy_odd (octagon_of c.args.b) c.requires))

pub returns : goal.returns
unfolding tight_odd
returns c =
    let o3 = c.before in
    let o2 = o3.before in
    let o1 = o2.before in
    let s = o1.before.before.before.before.before.before.before.before.before in
    let e = same s in
    stored w64 (fits s)
    (ap (λ o. o.c0) (sym e)) o1.odd_bound.ensures (ap (λ o. o.c2) (sym e)) o2.odd_bound-2.ensures
    (ap (λ o. o.c4) (sym e)) o3.odd_bound-3.ensures (ap (λ o. o.c6) (sym e)) c.odd_bound-4.ensures
    ∙ ap tight_odd e
