-- `kx_to_outline` meets its contract. Assumes nothing.
use mathlib.Core.Path.{◌∙◌, ap}
use Rattle.outline.specs.Outlining.{outlined}
use Rattle.koxirmeta_c.specs.Outlines.{outline_parts}
use Rattle.koxirmeta_c.proofs.Fitting.{same_fitted}
use Rattle.koxirmeta_c.proofs.Mapped.{hands_mapped}
use Rattle.koxirmeta_c.proofs.outlines.kx_to_outline.Goals as goal

pub returns : goal.returns
returns c =
    let e = c.to_outline.ensures ∙ ap outlined c.octagon_in.ensures in
    same_fitted _ e (hands_mapped outline_parts _ c.to_outline.result c.map.result c.map.ensures.cases c.give_start_and.ensures)
