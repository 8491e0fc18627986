-- n-fold dilations and erosions of octagons by their bounds: n times the element's bounds, added or taken away. Assumes nothing.
use mathlib.Core.Path.{◌≡◌}
use Prim.Native.Nat.{ℕ, zero, suc, ◌+◌, ◌≤◌}
use native.Mathlib.Nat.{add-zero, add-suc}
use native.Mathlib.Omega.{arith}
use lib.IntN.{ℤ, pos, ◌*ℤ◌}
use Rattle.integers.proofs.Linear.{#, ◌⊕◌, ◌≈◌}
use Rattle.integers.proofs.Multiples.{times_zero, times_suc}
use Rattle.octagon.specs.Octagon.{Octagon}
use Rattle.octagon.specs.Cells.{◌≐◌, In}
use Rattle.octagon.proofs.Within.{Normal}
use Rattle.morphology.specs.Sets.{DilatedTimes, ErodedTimes}
use Rattle.morphology.specs.Operations.{sums, differences}
use Rattle.morphology.specs.Folds.{multiples}
use Rattle.morphology.proofs.Meet.{Opposed}
use Rattle.morphology.proofs.Sums.{Summed, summed, summed_same, addend_same, summed_normal, sums_exact}
use Rattle.morphology.proofs.Differences.{differing, differences_exact}
use Rattle.morphology.proofs.SetLaws.{same_refl, same_trans, dilated_same, eroded_same}

-- ---- multiples of bounds

-- n + 1 times bounds are n times the bounds, and the bounds
multiples_suc : (n : ℕ) (b : Octagon) → Summed (multiples n b) b (multiples (suc n) b)
unfolding multiples
multiples_suc n b = record {
  s0 = times_suc n b.c0;
  s1 = times_suc n b.c1;
  s2 = times_suc n b.c2;
  s3 = times_suc n b.c3;
  s4 = times_suc n b.c4;
  s5 = times_suc n b.c5;
  s6 = times_suc n b.c6;
  s7 = times_suc n b.c7;
}

pub multiples_next : (n : ℕ) (b : Octagon) → sums b (multiples n b) ≡ multiples (suc n) b
multiples_next n b =
    summed_same b (multiples n b) (sums b (multiples n b)) (multiples (suc n) b) (summed b (multiples n b)) (let h = multiples_suc n b in omega arith)

-- no times bounds are nothing to add
multiples_zero : (a b : Octagon) → Summed a (multiples 0 b) a
unfolding multiples
multiples_zero a b = record {
  s0 = none a.c0 b.c0;
  s1 = none a.c1 b.c1;
  s2 = none a.c2 b.c2;
  s3 = none a.c3 b.c3;
  s4 = none a.c4 b.c4;
  s5 = none a.c5 b.c5;
  s6 = none a.c6 b.c6;
  s7 = none a.c7 b.c7;
}
  where
    none : (x z : ℤ) → # x ≈ # x ⊕ # (pos 0 *ℤ z)
    none x z = omega (arith, times_zero z)

pub sums_zero : (a b : Octagon) → sums a (multiples 0 b) ≡ a
sums_zero a b = summed_same a (multiples 0 b) (sums a (multiples 0 b)) a (summed a (multiples 0 b)) (multiples_zero a b)

pub differences_zero : (a b : Octagon) → differences a (multiples 0 b) ≡ a
differences_zero a b = addend_same (differences a (multiples 0 b)) (multiples 0 b) a a (differing a (multiples 0 b)) (multiples_zero a b)

-- with m + b = n: a + n is (a + m) + b, and a - n is (a - m) - b
summed_more : (a m b n s t : Octagon) → Summed a m s → Summed m b n → Summed a n t → Summed s b t
summed_more a m b n s t h k l = omega arith

summed_less : (a m b n d e : Octagon) → Summed d m a → Summed m b n → Summed e b d → Summed e n a
summed_less a m b n d e h k l = omega arith

-- the sums after one more fold are the sums of one more dilation, and the differences those of one more erosion
module _ (n : ℕ) (a b : Octagon) where
  abbrev m : Octagon
  m = multiples n b

  abbrev m' : Octagon
  m' = multiples (suc n) b

  pub sums_suc : sums a m' ≡ sums (sums a m) b
  sums_suc =
      let s = sums a m in
      summed_same s b (sums a m') (sums s b) (summed_more a m b m' s (sums a m') (summed a m) (multiples_suc n b) (summed a m')) (summed s b)

  pub differences_suc : differences a m' ≡ differences (differences a m) b
  differences_suc =
      let d = differences a m in
      addend_same (differences a m') m' (differences d b) a (differing a m') (summed_less a m b m' d (differences d b) (differing a m) (multiples_suc n b) (differing d b))

-- m folds and then n are m + n folds
pub sums_add : (m n : ℕ) (a b : Octagon) → sums (sums a (multiples m b)) (multiples n b) ≡ sums a (multiples (m + n) b)
sums_add m zero a b = rw (add-zero m, sums_zero (sums a (multiples m b)) b)
sums_add m (suc n) a b = rw (add-suc m n, sums_suc n (sums a (multiples m b)) b, sums_add m n a b, ← sums_suc (m + n) a b)

-- ---- sets

-- one dilation more: after the first no rows are opposed
never_opposed : (a b s : Octagon) → Normal a → Normal b → Summed a b s → (Opposed s b → ⊥) × (Opposed b s → ⊥)
never_opposed a b s n k h = (λ o. omega arith, λ o. omega arith)

pub multiples_normal : (n : ℕ) (a b : Octagon) → Normal a → Normal b → Normal (sums a (multiples n b))
multiples_normal zero a b h k = rw (sums_zero a b) h
multiples_normal (suc n) a b h k =
    let s = sums a (multiples n b) in
    rw (sums_suc n a b) (summed_normal s b (sums s b) (summed s b) (multiples_normal n a b h k) k)

pub opposed_after : (n : ℕ) (a b : Octagon) → Normal a → Normal b → 1 ≤ n →
    ¬ (Opposed (sums a (multiples n b)) b) × ¬ (Opposed b (sums a (multiples n b)))
opposed_after zero a b h k l = absurd (omega arith)
opposed_after (suc n) a b h k l =
    let s = sums a (multiples n b) in
    rw (sums_suc n a b) (never_opposed s b (sums s b) (multiples_normal n a b h k) k (summed s b))

-- after n folds the octagon is not opposed to the element, if it was not so before
opposed_later : (n : ℕ) (a b : Octagon) → Normal a → Normal b → ¬ (Opposed a b) → ¬ (Opposed b a) →
    ¬ (Opposed (sums a (multiples n b)) b) × ¬ (Opposed b (sums a (multiples n b)))
opposed_later zero a b h k o o' = rw (sums_zero a b) (o, o')
opposed_later (suc n) a b h k o o' = opposed_after (suc n) a b h k (omega arith)

-- the n-fold dilation of normal bounds that are not opposed, and of any where n is 0
pub multiples_dilate : (n : ℕ) (a b : Octagon) → Normal a → Normal b → (1 ≤ n → ¬ (Opposed a b) × ¬ (Opposed b a)) →
    In (sums a (multiples n b)) ≐ DilatedTimes n (In a) (In b)
multiples_dilate zero a b h k o = rw (sums_zero a b) (same_refl (In a))
multiples_dilate (suc n) a b h k o =
    let s = sums a (multiples n b) in
    let p = o (omega arith) in
    let q = opposed_later n a b h k p.0 p.1 in
    rw (sums_suc n a b)
    (same_trans (sums_exact s b (multiples_normal n a b h k) k q.0 q.1)
    (dilated_same (multiples_dilate n a b h k (λ _. p)) (same_refl (In b))))

-- the n-fold erosion by normal bounds
pub multiples_erode : (n : ℕ) (a b : Octagon) → Normal b → In (differences a (multiples n b)) ≐ ErodedTimes n (In a) (In b)
multiples_erode zero a b k = rw (differences_zero a b) (same_refl (In a))
multiples_erode (suc n) a b k =
    let d = differences a (multiples n b) in
    rw (differences_suc n a b) (same_trans (differences_exact d b k) (eroded_same (multiples_erode n a b k) (same_refl (In b))))
