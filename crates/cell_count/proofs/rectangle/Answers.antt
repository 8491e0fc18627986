-- `rectangle` meets its contract: the product of two lengths fits. Assumes nothing.
use mathlib.Core.Path.{◌≡◌, ◌∙◌, ap, ap₂}
use Prim.Native.Nat.{◌*◌}
use mir.Syntax.{w32}
use Rattle.integers.proofs.Range.{signs}
use Rattle.octagon.specs.Widths.{Held}
use Rattle.octagon.proofs.Fields.{back, back_is}
use Rattle.cell_count.specs.Area.{rectangle}
use Rattle.cell_count.proofs.Lengths.{Lengths, lengths}
use Rattle.cell_count.proofs.rectangle.Goals.{After-extent-2, Start}
use Rattle.cell_count.proofs.rectangle.Goals as goal

held : (c : Start) → Held w32 c.args.a.bounds
held c = search signs

-- the bounds as they are read back
sized : (c : Start) → Lengths (back w32 c.args.a.bounds)
sized c = rw (back_is w32 c.args.a.bounds (held c)) (lengths c.args.a.bounds c.args.a.is_normal)

-- what the two calls give
product : (c : After-extent-2) → c.extent.result * c.extent-2.result ≡
    rectangle (back w32 c.args.a.bounds)
unfolding rectangle
product c = ap₂ ◌*◌ c.extent.ensures c.extent-2.ensures

pub extent-requires : goal.extent-requires
extent-requires c = (sized (search)).height

pub extent-requires-2 : goal.extent-requires-2
extent-requires-2 c = (sized (search)).width

pub returns : goal.returns
returns c = let s : Start = search in product c ∙ ap rectangle (back_is w32 _ (held s))
