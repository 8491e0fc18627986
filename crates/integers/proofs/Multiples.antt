-- A natural multiple of an integer, by its parts. Assumes nothing.
use mathlib.Core.Path.{◌≡◌, refl}
use Prim.Native.Nat.{ℕ, zero, suc, ◌+◌, ◌*◌, ◌<◌, ◌≤◌}
use native.Mathlib.Nat.{zero-mul, mul-zero, suc-mul, mul-suc, add-mul, mul-le-mul_left, mul-le-mul}
use native.Mathlib.Omega.{arith}
use lib.IntN.{ℤ, pos, negsuc, ◌*ℤ◌}
use Rattle.integers.proofs.Parts.{up, dn, neg_up, neg_dn}
use Rattle.integers.proofs.Linear.{Diff, #, ◌⊕◌, neg, lit, ◌≼◌, ◌≈◌}
use Rattle.integers.proofs.Between.{decide}
use Rattle.integers.proofs.Range.{near_parts}

-- a multiple of a difference
abbrev pub mul : ℕ → Diff → Diff
mul n d = record { p = n * d.p; n = n * d.n }

pub times_parts : (n : ℕ) (z : ℤ) → # (pos n *ℤ z) ≈ mul n (# z)
unfolding up dn
times_parts n (pos m) = omega (arith, mul-zero n)
times_parts n (negsuc m) = omega (arith, mul-zero n, neg_up (pos (n * suc m)), neg_dn (pos (n * suc m)))

-- no multiple
pub times_zero : (z : ℤ) → # (pos 0 *ℤ z) ≈ lit 0
times_zero z = omega (arith, times_parts 0 z, zero-mul (up z), zero-mul (dn z))

-- one more multiple
pub times_suc : (n : ℕ) (z : ℤ) → # (pos (suc n) *ℤ z) ≈ # (pos n *ℤ z) ⊕ # z
times_suc n z = omega (arith, times_parts (suc n) z, times_parts n z, suc-mul n (up z), suc-mul n (dn z))

-- n times two numbers whose sum is at most 0, and whose sum is above 0
pub times_below : (n : ℕ) (x z : ℤ) → # x ⊕ # z ≼ lit 0 → # (pos n *ℤ x) ⊕ # (pos n *ℤ z) ≼ lit 0
times_below zero x z h = omega (arith, times_zero x, times_zero z)
times_below (suc n) x z h = omega (arith, times_below n x z h, times_suc n x, times_suc n z)

pub times_above : (n : ℕ) (x z : ℤ) → lit 1 ≼ # x ⊕ # z → lit n ≼ # (pos n *ℤ x) ⊕ # (pos n *ℤ z)
times_above zero x z h = omega (arith, times_zero x, times_zero z)
times_above (suc n) x z h = omega (arith, times_above n x z h, times_suc n x, times_suc n z)

-- at most m times a number that is at most k from 0
pub times_near : (n m k : ℕ) (z : ℤ) → n ≤ m → # z ≼ lit k → neg (# z) ≼ lit k → (# (pos n *ℤ z) ≼ lit (m * k)) × (neg (# (pos n *ℤ z)) ≼ lit (m * k))
times_near n m k z l h j =
    let p = near_parts k z h j in
    let u = mul-le-mul {n₁ = n} {m₁ = up z} {n₂ = m} {m₂ = k} l p.0 in
    let d = mul-le-mul {n₁ = n} {m₁ = dn z} {n₂ = m} {m₂ = k} l p.1 in
    (omega (arith, times_parts n z), omega (arith, times_parts n z))

-- a number that is at most k, and so with m + n multiples of another added, is so with m of them added
pub times_between : (m n k : ℕ) (x z : ℤ) → # x ≼ lit k → # x ⊕ # (pos (m + n) *ℤ z) ≼ lit k → # x ⊕ # (pos m *ℤ z) ≼ lit k
times_between m n k x z h j =
    decide (# z) (lit 0)
    (λ f. let u : m * up z ≤ m * dn z = mul-le-mul_left m (omega arith) in omega (arith, times_parts m z))
    (λ f.
    let u : n * dn z ≤ n * up z = mul-le-mul_left n (omega arith) in
    omega (arith, times_parts m z, times_parts (m + n) z, add-mul m n (up z), add-mul m n (dn z)))

-- a number whose multiple by n is nearer to 0 than n
pub times_small : (n k : ℕ) (z : ℤ) → k < n → # (pos n *ℤ z) ≼ lit k → neg (# (pos n *ℤ z)) ≼ lit k → z ≡ pos 0
unfolding up dn
times_small n k (pos zero) l h j = refl
times_small n k (pos (suc m)) l h j = absurd (omega (arith, times_parts n (pos (suc m)), mul-suc n m))
times_small n k (negsuc m) l h j = absurd (omega (arith, times_parts n (negsuc m), mul-suc n m))
