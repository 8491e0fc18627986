-- `moved` meets its contract: the product always fits, the sum by what is required. Assumes nothing.
use mathlib.Core.Path.{◌≡◌}
use lib.IntN.{pos, ◌+ℤ◌, ◌*ℤ◌}
use mir.Syntax.{w32, w64}
use mir.Val.{SFits, to_z, of_z}
use mir.Facts.{to_z-of_z, to_z_pos}
use native.Mathlib.Omega.{arith}
use Rattle.integers.proofs.Range.{widened}
use Rattle.outline.proofs.Range.{product_fits}
use Rattle.outline.proofs.walk.moved.Goals.{Start}
use Rattle.outline.proofs.walk.moved.Goals as goal

-- the factors as they are read back
product : (c : Start) → to_z w64 (of_z w64 (to_z w32 (of_z w32 c.args.d))) *ℤ to_z w64 c.args.n ≡ c.args.d *ℤ pos c.args.n
product c = rw (to_z-of_z (widened c.ranges.d), to_z-of_z c.ranges.d, to_z_pos w64 {n = c.args.n} (omega arith))

fits : (c : Start) → SFits w64 (c.args.d *ℤ pos c.args.n)
fits c = product_fits c.args.d c.args.n c.ranges.d c.ranges.n

sum : (c : Start) →
    to_z w64 (of_z w64 c.args.a) +ℤ to_z w64 (of_z w64 (to_z w64 (of_z w64 (to_z w32 (of_z w32 c.args.d))) *ℤ to_z w64 c.args.n))
    ≡ c.args.a +ℤ c.args.d *ℤ pos c.args.n
sum c = rw (product c, to_z-of_z (fits c), to_z-of_z c.ranges.a)

pub overflow_cast-result : goal.overflow_cast-result
overflow_cast-result c = widened c.ranges.d

pub overflow_mul-result : goal.overflow_mul-result
overflow_mul-result c = rw (product c) (fits c)

pub overflow_add-result : goal.overflow_add-result
overflow_add-result c = rw (sum c) c.requires

pub returns : goal.returns
returns c = rw (sum c) (to_z-of_z c.requires)
