-- `cut` meets its contract: the sum of three i32 fits an i64, and the side is a length. Assumes nothing.
use mathlib.Core.Path.{◌≡◌, ◌∙◌, ap}
use lib.IntN.{nat_abs}
use Rattle.integers.proofs.Range.{signs}
use Rattle.octagon.specs.NormalForm.{odd_side}
use Rattle.cell_count.specs.Area.{triangle}
use Rattle.cell_count.proofs.cut.Goals.{After-unsigned}
use Rattle.cell_count.proofs.cut.Goals as goal

-- the side as it is computed
side : (c : After-unsigned) → c.unsigned.result ≡
    nat_abs (odd_side c.args.before c.args.own c.args.after)
side c = c.unsigned.ensures ∙ search signs depth 8

pub returns : goal.returns
returns c = c.triangle.ensures ∙ ap triangle (side c.before)
