-- `area` meets its contract: what is cut off is within the rectangle. Assumes nothing.
use mathlib.Core.Path.{ap₂}
use Prim.Native.Nat.{◌-◌}
use native.Mathlib.Omega.{arith}
use Rattle.cell_count.specs.Area.{area}
use Rattle.cell_count.proofs.Lengths.{cuts_most}
use Rattle.cell_count.proofs.area.Goals as goal

pub returns : goal.returns
unfolding area
returns c = ap₂ ◌-◌ c.rectangle.ensures c.cuts.ensures

pub overflow_sub-result : goal.overflow_sub-result
overflow_sub-result c = omega (arith, cuts_most _ c.args.a.is_normal)
