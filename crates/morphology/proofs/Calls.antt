-- The answers of calls, as their definitions compute them from the answers of their steps. Assumes nothing.
use mathlib.Core.Path.{◌≡◌}
use Prim.Native.Nat.{ℕ, ◌≤◌}
use borrow.Author.Tests.{le-ltb}
use Rattle.octagon.specs.Octagon.{Octagon}
use Rattle.octagon.specs.Outcome.{Outcome}
use Rattle.morphology.specs.Operations.{with_both}
use Rattle.morphology.specs.Folds.{fold_limit, within_folds}
use Rattle.morphology.proofs.Operands.{Accepted}

-- two operands that are both accepted: the answer x is that of the call on their normal forms
pub both_accepted : {R : Type 0} {p f a b : Octagon} {x : Outcome R} (g : Octagon → Octagon → Outcome R) → Accepted p f a b → x ≡ g a b → x ≡ with_both p f g
both_accepted g h d = rw (h.of_p, h.of_f) d

-- few enough folds: the answer x is that of the call itself
pub folds_taken : {R : Type 0} {x : Outcome R} (n : ℕ) (o : Outcome R) → n ≤ fold_limit → x ≡ o → x ≡ within_folds n o
folds_taken n o l d = rw (le-ltb fold_limit n l) d
