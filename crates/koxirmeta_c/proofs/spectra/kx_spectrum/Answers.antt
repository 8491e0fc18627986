-- `kx_spectrum` meets its contract. Assumes nothing.
use mathlib.Core.Path.{◌∙◌, ap₂}
use lib.ListN.{length}
use Rattle.spectrum.specs.Spectra.{spectrum, after_spectrum}
use Rattle.spectrum.specs.Answers.{ended}
use Rattle.koxirmeta_c.proofs.Fitting.{right, wrong}
use Rattle.koxirmeta_c.proofs.spectra.kx_spectrum.Goals as goal

pub returns-then-plot-frame : goal.returns-then-plot-frame
returns-then-plot-frame c =
    let l = c.args.list.now in
    let e = c.octagon_in.ensures in
    let f = c.octagon_in-then-plot-frame.ensures in (
      right c.if-plot-frame.true (c.pattern_spectrum.ensures.result_value ∙ ap₂ (λ p q. ended (spectrum p q (length l))) e f) c.give_ending.ensures,
      rw c.if-plot-frame.true (c.pattern_spectrum.ensures.list_after ∙ ap₂ (λ p q. after_spectrum p q l) e f),
    )

pub returns : goal.returns
returns c = (wrong _ c.if-plot-frame.false, rw c.if-plot-frame.false)
