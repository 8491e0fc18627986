-- The lesser and the greater of two integers, and half of one rounded down. Assumes nothing.
use Rattle.std.specs.Prelude.{cond, ℤ}
use Rattle.std.specs.Int.Signed.{lt_z, shr_z}

-- the lesser of two
unfoldable pub min_ℤ : ℤ → ℤ → ℤ
min_ℤ a b = cond (lt_z b a) b a

-- the greater of two
unfoldable pub max_ℤ : ℤ → ℤ → ℤ
max_ℤ a b = cond (lt_z a b) b a

-- half, rounded down
unfoldable pub half_ℤ : ℤ → ℤ
half_ℤ z = shr_z z 2
