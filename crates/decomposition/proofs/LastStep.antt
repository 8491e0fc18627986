-- The last step of the counts: the test that the code makes says what document 01 says, and all sides stay. Assumes nothing.
use mathlib.Core.Path.{◌≡◌, sym, ◌∙◌}
use mathlib.Core.Bool.{true, false, cond, ◌&&◌}
use mathlib.Core.Logic.{◌↔◌}
use native.Mathlib.Omega.{arith}
use lib.Dec.{ltb, eqb}
use borrow.Author.Tests.{ltb-true, eqb-true, lt-ltb, eq-eqb}
use Rattle.integers.proofs.Tests.{cases, both_true, and_true, true_is_not_false}
use Rattle.outline.specs.Sameness.{SameSides}
use Rattle.outline.proofs.Sameness.{same_self}
use Rattle.decomposition.specs.declared.Counts.{Counts}
use Rattle.decomposition.specs.Rule.{others, Crossed, exchanged, Last, exchange, keep}
use Rattle.decomposition.specs.Pairs.{made}
use Rattle.decomposition.specs.Splitting.{is_crossed, with_k13}

pub test_crossed : (k : Counts) → is_crossed k ≡ true → Crossed k
unfolding is_crossed
test_crossed k h =
    let p = both_true (ltb 0 k.k2 && ltb 0 k.k4) (eqb (others k) 0) h in
    let q = both_true (ltb 0 k.k2) (ltb 0 k.k4) p.0 in
    record {
      some_k2 = ltb-true 0 k.k2 q.0;
      some_k4 = ltb-true 0 k.k4 q.1;
      no_others = eqb-true (others k) 0 p.1;
    }

pub crossed_test : (k : Counts) → Crossed k → is_crossed k ≡ true
unfolding is_crossed
crossed_test k h =
    and_true (and_true (lt-ltb 0 k.k2 h.some_k2) (lt-ltb 0 k.k4 h.some_k4)) (eq-eqb (others k) 0 h.no_others)

-- the last step leaves `with_k13`, and nothing else
pub last_with_k13 : (m k : Counts) → Last m k ↔ (k ≡ with_k13 m)
unfolding with_k13
last_with_k13 m k = cases (is_crossed m) yes no
  where
    yes : is_crossed m ≡ true → Last m k ↔ (k ≡ cond (is_crossed m) (exchanged m) m)
    yes t = rw t (to, exchange (test_crossed m t))
      where
        to : Last m k → k ≡ exchanged m
        to (exchange c e) = e
        to (keep h e) = absurd (h (test_crossed m t))

    no : is_crossed m ≡ false → Last m k ↔ (k ≡ cond (is_crossed m) (exchanged m) m)
    no f = rw f (to, keep (λ c. true_is_not_false (sym (crossed_test m c) ∙ f)))
      where
        to : Last m k → k ≡ m
        to (exchange c e) = absurd (true_is_not_false (sym (crossed_test m c) ∙ f))
        to (keep h e) = e

-- the last step leaves all sides as they were
exchanged_made : (k : Counts) → Crossed k → k.k13 ≡ 0 → SameSides (made (exchanged k)) (made k)
exchanged_made k c z = omega arith

pub with_k13_made : (k : Counts) → k.k13 ≡ 0 → SameSides (made (with_k13 k)) (made k)
unfolding with_k13
with_k13_made k z = cases (is_crossed k) (λ t. rw t (exchanged_made k (test_crossed k t) z)) (λ f. rw f (same_self (made k)))
