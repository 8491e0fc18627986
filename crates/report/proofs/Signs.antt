-- A number that is not below nought has no sign, as the code reads it in 32 bits. Assumes nothing.
use mathlib.Core.Path.{◌≡◌, refl}
use mathlib.Core.Bool.{false}
use mathlib.Core.List.{[]}
use lib.IntN.{ℤ, pos, negsuc}
use lib.Signed.{lt_z}
use mir.Syntax.{w32}
use mir.Val.{SFits, to_z, of_z}
use mir.Facts.{to_z-of_z}
use Rattle.integers.proofs.Tests.{true_is_not_false}
use Rattle.report.specs.Decimal.{sign}

pub no_sign : (z : ℤ) → SFits w32 z → lt_z (to_z w32 (of_z w32 z)) (pos 0) ≡ false → sign z ≡ []
no_sign z f t = go z (rw (to_z-of_z f) at t)
  where
    go : (z : ℤ) → lt_z z (pos 0) ≡ false → sign z ≡ []
    go (pos n) t = refl
    go (negsuc n) t = absurd (true_is_not_false t)
