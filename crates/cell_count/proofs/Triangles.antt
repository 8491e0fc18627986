-- The triangular numbers are the sums of numbers that fall, or rise, by one from row to row. Assumes nothing.
use mathlib.Core.Path.{◌≡◌, refl, ap}
use Prim.Native.Nat.{ℕ, zero, suc, ◌+◌, ◌-◌, ◌*◌, ◌≤◌}
use native.Mathlib.Nat.{zero-mul, suc-mul, mul-suc}
use native.Mathlib.Omega.{arith}
use Rattle.cell_count.specs.Count.{sum}
use Rattle.cell_count.specs.Area.{triangle}
use Rattle.cell_count.proofs.Sums.{sum_ext}

twice : (n : ℕ) → 2 * sum n suc ≡ n * suc n
unfolding sum
twice zero = omega (arith, zero-mul 1)
twice (suc n) = omega (arith, twice n, mul-suc n (suc n), suc-mul n (suc (suc n)))

-- the formula n(n + 1)/2 is the sum 1 + 2 + .. + n
pub triangle_is : (n : ℕ) → triangle n ≡ sum n suc
unfolding triangle
triangle_is n =
    let e : n + 1 ≡ suc n = omega arith in
    rw e (omega (arith, twice n))

-- the last number of the sum
triangle_last : (n : ℕ) → triangle n ≡ triangle (n - 1) + n
unfolding sum
triangle_last n = omega (arith, triangle_is n, triangle_is (n - 1), last n)
  where
    last : (n : ℕ) → sum n suc ≡ sum (n - 1) suc + n
    last zero = refl
    last (suc n) = let e : suc n - 1 ≡ n = omega arith in rw e refl

triangle_zero : {n : ℕ} → n ≡ 0 → triangle n ≡ 0
unfolding triangle
triangle_zero e = rw e refl

-- n, n - 1, .. down to 1, then nought
falling_to : (n h : ℕ) → sum h (λ j. n - j) + triangle (n - h) ≡ triangle n
unfolding sum
falling_to n zero = let e : n - 0 ≡ n = omega arith in rw e (omega arith)
falling_to n (suc h) =
    let e : (n - h) - 1 ≡ n - suc h = omega arith in
    omega (arith, falling_to n h, triangle_last (n - h), ap triangle e)

pub falling : (n h : ℕ) → n ≤ h → sum h (λ j. n - j) ≡ triangle n
falling n h k = omega (arith, falling_to n h, triangle_zero {n = n - h} (omega arith))

-- nought, then 1, 2, .. up to n
rising_from : (d m : ℕ) → sum m (λ j. suc j - d) ≡ triangle (m - d)
unfolding sum
rising_from d zero = omega (arith, triangle_zero {n = 0 - d} (omega arith))
rising_from d (suc m) =
    let e : (suc m - d) - 1 ≡ m - d = omega arith in
    omega (arith, rising_from d m, triangle_last (suc m - d), ap triangle e)

pub rising : (n h : ℕ) → n ≤ h → sum h (λ j. n - (h - suc j)) ≡ triangle n
rising n h k =
    let e : h - (h - n) ≡ n = omega arith in
    omega (
      arith,
      rising_from (h - n) h,
      ap triangle e,
      sum_ext h {f = λ j. n - (h - suc j)} {g = λ j. suc j - (h - n)} (λ j q. omega arith),
    )
