-- Laws of finite sums. Assumes nothing.
use mathlib.Core.Path.{◌≡◌, refl, ap}
use mathlib.Core.Bool.{Bool, true}
use Prim.Native.Nat.{ℕ, zero, suc, ◌+◌, ◌-◌, ◌*◌, ◌<◌, ◌≤◌}
use native.Mathlib.Nat.{add-suc, add-zero, zero-mul, suc-mul}
use native.Mathlib.Decide.{ℕ_discrete}
use native.Mathlib.Omega.{arith}
use Rattle.integers.proofs.Tests.{cases}
use Rattle.cell_count.specs.Count.{sum, one}

-- equal terms
pub sum_ext : (n : ℕ) {f g : ℕ → ℕ} → ((i : ℕ) → i < n → f i ≡ g i) → sum n f ≡ sum n g
unfolding sum
sum_ext zero h = refl
sum_ext (suc n) h = omega (arith, sum_ext n (λ i k. h i (omega arith)), h n (omega arith))

-- lesser terms
pub sum_le : (n : ℕ) {f g : ℕ → ℕ} → ((i : ℕ) → i < n → f i ≤ g i) → sum n f ≤ sum n g
unfolding sum
sum_le zero h = omega arith
sum_le (suc n) h = omega (arith, sum_le n (λ i k. h i (omega arith)), h n (omega arith))

-- term by term
pub sum_add : (n : ℕ) (f g : ℕ → ℕ) → sum n (λ i. f i + g i) ≡ sum n f + sum n g
unfolding sum
sum_add zero f g = refl
sum_add (suc n) f g = omega (arith, sum_add n f g)

pub sum_const : (n k : ℕ) → sum n (λ i. k) ≡ n * k
unfolding sum
sum_const zero k = omega (arith, zero-mul k)
sum_const (suc n) k = omega (arith, sum_const n k, suc-mul n k)

pub sum_zero : (n : ℕ) {f : ℕ → ℕ} → ((i : ℕ) → i < n → f i ≡ 0) → sum n f ≡ 0
unfolding sum
sum_zero zero h = refl
sum_zero (suc n) h = omega (arith, sum_zero n (λ i k. h i (omega arith)), h n (omega arith))

-- one of the terms
pub sum_term : (n i : ℕ) (f : ℕ → ℕ) → i < n → f i ≤ sum n f
unfolding sum
sum_term zero i f h = absurd (omega arith)
sum_term (suc n) i f h = go (sum_term n i f) (ℕ_discrete i n)
  where
    go : (i < n → f i ≤ sum n f) → Dec (i ≡ n) → f i ≤ sum n f + f n
    go k (yes e) = omega (arith, ap f e)
    go k (no e) = omega (arith, k (omega arith))

-- the first m terms and the n after them
pub sum_split : (m n : ℕ) (f : ℕ → ℕ) → sum (m + n) f ≡ sum m f + sum n (λ i. f (m + i))
unfolding sum
sum_split m zero f = rw (add-zero m) (omega arith)
sum_split m (suc n) f = rw (add-suc m n) (omega (arith, sum_split m n f))

-- terms that are nought but for the h from place a on
pub sum_window : (n a h : ℕ) (f : ℕ → ℕ) → a + h ≤ n → ((i : ℕ) → i < a → f i ≡ 0) → ((i : ℕ) → a + h ≤ i → f i ≡ 0) →
    sum n f ≡ sum h (λ i. f (a + i))
sum_window n a h f k l u =
    let m : ℕ = n - (a + h) in
    let e : n ≡ (a + h) + m = omega arith in
    rw e (omega (arith, sum_split (a + h) m f, sum_split a h f, sum_zero a l, sum_zero m {f = λ i. f ((a + h) + i)} (λ i q. u ((a + h) + i) (omega arith))))

-- a test that exactly the m places from a on pass
pub sum_run : (n a m : ℕ) (t : ℕ → Bool) → a + m ≤ n →
    ((i : ℕ) → a ≤ i → i < a + m → t i ≡ true) → ((i : ℕ) → t i ≡ true → (a ≤ i) × (i < a + m)) → sum n (λ i. one (t i)) ≡ m
unfolding one
sum_run n a m t h f g =
    omega (
      arith,
      sum_const m 1,
      sum_window n a m (λ i. one (t i)) h (λ i q. out i (λ k. omega arith)) (λ i q. out i (λ k. omega arith)),
      sum_ext m {f = λ i. one (t (a + i))} {g = λ i. 1} (λ i q. ap one (f (a + i) (omega arith) (omega arith))),
    )
  where
    out : (i : ℕ) → ((a ≤ i) × (i < a + m) → ⊥) → one (t i) ≡ 0
    out i k = cases (t i) (λ e. absurd (k (g i e))) (λ e. ap one e)
