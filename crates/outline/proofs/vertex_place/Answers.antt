-- `vertex_place` meets its contract: the vertices of an octagon's outline fit. Assumes nothing.
use mathlib.Core.Path.{sym}
use Rattle.outline.proofs.Metres.{vertex_fits}
use Rattle.outline.proofs.vertex_place.Goals as goal

pub place_of_vertex-requires : goal.place_of_vertex-requires
place_of_vertex-requires c = vertex_fits c.args.o _ (sym c.in_ok-to_outline.ensures)
