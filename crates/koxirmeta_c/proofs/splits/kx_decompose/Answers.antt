-- `kx_decompose` meets its contract. Assumes nothing.
use mathlib.Core.Path.{◌∙◌, ap}
use Rattle.decomposition.specs.Splitting.{decomposition}
use Rattle.koxirmeta_c.specs.Splits.{split_parts}
use Rattle.koxirmeta_c.proofs.Fitting.{same_fitted}
use Rattle.koxirmeta_c.proofs.Mapped.{hands_mapped}
use Rattle.koxirmeta_c.proofs.splits.kx_decompose.Goals as goal

pub returns : goal.returns
returns c =
    let e = c.decompose.ensures ∙ ap decomposition c.octagon_in.ensures in
    same_fitted _ e (hands_mapped split_parts _ c.decompose.result c.map.result c.map.ensures.cases c.give_start_and.ensures)
