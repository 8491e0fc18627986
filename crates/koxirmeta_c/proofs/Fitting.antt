-- What a call hands over, by the lengths of its slices and the case of its answer. Assumes nothing.
use mathlib.Core.Path.{◌≡◌, refl, ap}
use mathlib.Core.Bool.{Bool, true, false, ◌&&◌}
use Prim.Native.Nat.{ℕ}
use lib.Dec.{eqb}
use borrow.Author.Tests.{eqb-true}
use Rattle.integers.proofs.Tests.{both_true}
use Rattle.octagon.specs.Outcome.{Outcome, accepted, refused}
use Rattle.koxirmeta_c.specs.Calls.{wrong_length, fitted, status, Hands}

-- two lengths that were tested together
pub sized : (m n : ℕ) {j k : ℕ} → (eqb m j && eqb n k) ≡ true → (m ≡ j) × (n ≡ k)
sized m n {j} {k} e = let t = both_true (eqb m j) (eqb n k) e in (eqb-true m j t.0, eqb-true n k t.1)

module _ {A B : Type 0} {f : A → B} {m m' : B} {r : ℕ} where
  -- the same, by the name of its outcome
  pub same : {o p : Outcome A} → o ≡ p → Hands o f m m' r → Hands p f m m' r
  same e g = rw (← e) g

  -- the same where the lengths of slices are tested
  pub same_fitted : (t : Bool) {o p : Outcome A} → o ≡ p → Hands (fitted t o) f m m' r → Hands (fitted t p) f m m' r
  same_fitted t e g = same (ap (fitted t) e) g

  -- where the lengths are right
  pub right : {t : Bool} {o p : Outcome A} → t ≡ true → o ≡ p → Hands o f m m' r → Hands (fitted t p) f m m' r
  unfolding fitted
  right h e g = rw h (same e g)

module _ {A B : Type 0} {f : A → B} {m : B} where
  -- where they are not
  pub wrong : {t : Bool} (o : Outcome A) → t ≡ false → Hands (fitted t o) f m m wrong_length
  unfolding fitted status
  wrong o h = rw h (record { answers = refl; leaves = refl })

  -- what an accepted call writes, and a refused one leaves
  pub gives : {t : Bool} {o : Outcome A} {a : A} {m' : B} → t ≡ true → o ≡ accepted a → m' ≡ f a → Hands (fitted t o) f m m' 0
  unfolding fitted status
  gives h e w = rw (h, e) (record { answers = refl; leaves = w })

  pub keeps : {t : Bool} {o : Outcome A} {k : ℕ} → t ≡ true → o ≡ refused k → Hands (fitted t o) f m m k
  unfolding fitted status
  keeps h e = rw (h, e) (record { answers = refl; leaves = refl })
