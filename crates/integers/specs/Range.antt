-- How far from 0 an integer may be so that sums of it still fit a machine's width. Assumes nothing.
use Rattle.std.specs.Prelude.{ℕ, zero, suc, ◌^◌, ◌/◌, ℤ, neg_ℤ, pos, ◌≤ℤ◌}

-- 2 ^ 62, halved n times
abbrev pub roof : ℕ → ℕ
roof zero = 2 ^ 62
roof (suc n) = roof n / 2

-- z is at most that far from 0: a sum of 2 ^ n such numbers fits an i64
pub record Room (n : ℕ) (z : ℤ) : Type 0 where
  pub over : z ≤ℤ pos (roof n)
  pub under : neg_ℤ z ≤ℤ pos (roof n)
