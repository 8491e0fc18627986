-- `half` meets its contract: the shift is the library's, and its result fits. Assumes nothing.
use lib.Signed.{mag_shr}
use native.Mathlib.Nat.{lt_of_le_of_lt}
use mir.Syntax.{w64}
use mir.Facts.{to_z-of_z}
use Rattle.integers.specs.Minimum.{half_ℤ}
use Rattle.integers.proofs.Range.{kept}
use Rattle.integers.proofs.half.Goals as goal

pub returns : goal.returns
unfolding half_ℤ
returns c = rw (to_z-of_z c.ranges.a) (kept w64 (lt_of_le_of_lt (mag_shr c.args.a 2) c.ranges.a.sfits))
