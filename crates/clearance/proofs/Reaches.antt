-- The slant reach that is computed meets the rule of squares, and no other number does; and a table that meets it at each entry gives it.
-- Assumes nothing.
use mathlib.Core.Path.{◌≡◌, subst}
use mathlib.Core.Bool.{true}
use mathlib.Core.List.{List, [], ◌∷◌}
use mathlib.Core.Logic.{◌↔◌}
use Prim.Native.Nat.{ℕ, zero, suc, ◌+◌, ◌*◌, ◌≤◌, ◌<◌}
use native.Mathlib.Nat.{zero-add, mul-le-mul_left, suc-mul}
use native.Mathlib.Omega.{arith}
use lib.Dec.{leb, ltb, leb→le, nleb→lt, ltb→lt}
use lib.ListN.{length, get_or}
use Rattle.integers.proofs.Parts.{cond_ind}
use Rattle.integers.proofs.Tests.{true_T, both_true}
use Rattle.clearance.specs.Disc.{SlantReach, is_slant_reach, are_slant_reaches}
use Rattle.clearance.specs.Clearing.{root_up_to, slant_reach}
use Rattle.clearance.proofs.Squares.{below_root}

-- ---- the rule has one answer

abbrev Root : ℕ → ℕ → Type 0
Root n s = (s * s ≤ n) × (n < (s + 1) * (s + 1))

root_meets : (k n : ℕ) → n < (k + 1) * (k + 1) → Root n (root_up_to k n)
root_meets zero n h = (omega arith, h)
root_meets (suc k) n h =
    cond_ind (leb (suc k * suc k) n) (suc k) (root_up_to k n) (Root n)
    (λ t. (leb→le (suc k * suc k) n t, h))
    (λ t. root_meets k n (subst (λ (z : ℕ). n < z * z) (omega arith) (nleb→lt (suc k * suc k) n t)))

-- the square of 2 × r + 1 is above 2 × r × r
far_enough : (r : ℕ) → 2 * r * r < (2 * r + 1) * (2 * r + 1)
far_enough r = omega (arith, suc-mul (2 * r) (2 * r + 1), mul-le-mul_left {m = r} {n = 2 * r + 1} (2 * r) (omega arith))

pub reach_meets : (r : ℕ) → SlantReach r (slant_reach r)
unfolding slant_reach
reach_meets r = let m = root_meets (2 * r) (2 * r * r) (far_enough r) in record { reached = m.0; passed = m.1 }

-- of two numbers that meet the rule neither is above the other
no_further : (r s t : ℕ) → SlantReach r s → SlantReach r t → s < t + 1
no_further r s t h k = below_root s (t + 1) (omega (arith, h.reached, k.passed))

pub reach_only : (r s : ℕ) → SlantReach r s → s ≡ slant_reach r
reach_only r s h =
    let m = reach_meets r in
    omega (arith, no_further r s (slant_reach r) h m, no_further r (slant_reach r) s m h)

-- "the s with s × s at most 2 × r × r and (s+1) × (s+1) above it"
pub reach_exactly : (r s : ℕ) → (s ≡ slant_reach r) ↔ SlantReach r s
reach_exactly r s = (λ e. rw e (reach_meets r), reach_only r s)

-- ---- a table's rule, tested once for all entries

is_slant_reach_means : (r s : ℕ) → is_slant_reach r s ≡ true → SlantReach r s
is_slant_reach_means r s h =
    let p = both_true (leb (s * s) (2 * r * r)) (ltb (2 * r * r) ((s + 1) * (s + 1))) h in
    record { reached = leb→le (s * s) (2 * r * r) (true_T p.0); passed = ltb→lt (2 * r * r) ((s + 1) * (s + 1)) (true_T p.1) }

-- the test of a whole table tells the rule of each entry
entry_from : (l : List ℕ) (r k : ℕ) → are_slant_reaches r l ≡ true → k < length l → SlantReach (r + k) (get_or l k 0)
entry_from [] r k h i = absurd (omega arith)
entry_from (s ∷ l) r zero h i = subst (λ (z : ℕ). SlantReach z s) (omega arith) (is_slant_reach_means r s (both_true (is_slant_reach r s) (are_slant_reaches (suc r) l) h).0)
entry_from (s ∷ l) r (suc k) h i =
    subst (λ (z : ℕ). SlantReach z (get_or l k 0)) (omega arith) (entry_from l (suc r) k (both_true (is_slant_reach r s) (are_slant_reaches (suc r) l) h).1 (omega arith))

-- so entry r of a table that passes is the slant reach of r
pub entry_is : (l : List ℕ) (r : ℕ) → are_slant_reaches 0 l ≡ true → r < length l → get_or l r 0 ≡ slant_reach r
entry_is l r h i = reach_only r (get_or l r 0) (rw zero-add at (entry_from l 0 r h i))
