-- `kx_vertex_place` meets its contract. Assumes nothing.
use mathlib.Core.Path.{◌∙◌, ap}
use Rattle.outline.specs.Places.{located}
use Rattle.koxirmeta_c.specs.Outlines.{metres_of}
use Rattle.koxirmeta_c.proofs.Fitting.{same_fitted}
use Rattle.koxirmeta_c.proofs.Mapped.{hands_mapped}
use Rattle.koxirmeta_c.proofs.outlines.kx_vertex_place.Goals as goal

pub returns : goal.returns
returns c =
    let e = c.vertex_place.ensures ∙ ap (λ o. located o c.args.k) c.octagon_in.ensures in
    same_fitted _ e (hands_mapped metres_of _ c.vertex_place.result c.map.result c.map.ensures.cases c.give_array.ensures)
