-- Outcomes are told apart by their cases, and a step after another is taken apart. Assumes nothing.
use mathlib.Core.Path.{◌≡◌, refl, sym, ap}
use mathlib.Core.Logic.{◌↔◌, ◌⊎◌, inl, inr}
use mathlib.Core.Bool.{Bool, true, false, cond}
use Prim.Native.Nat.{ℕ}
use native.Mathlib.Omega.{arith}
use Rattle.octagon.specs.Outcome.{Outcome, accepted, refused, then}

pub accepted_same : {A : Type 0} {a b : A} → accepted a ≡ accepted b → a ≡ b
accepted_same e = cc

pub refused_same : {A : Type 0} {m n : ℕ} → ◌≡◌ {A = Outcome A} (refused m) (refused n) → m ≡ n
refused_same e = cc

pub accepted_not_refused : {A : Type 0} {a : A} {n : ℕ} → accepted a ≡ refused n → ⊥
accepted_not_refused e = let z : ◌≡◌ {A = ℕ} 0 1 = cc in omega arith

-- what is accepted after a test is not refused by it
pub past_test : {A : Type 0} (t : Bool) (k : ℕ) (o : Outcome A) (a : A) → cond t (refused k) o ≡ accepted a → (t ≡ false) × (o ≡ accepted a)
past_test true k o a e = absurd (accepted_not_refused (sym e))
past_test false k o a e = (refl, e)

-- two steps that are both accepted
pub record Through {A B : Type 0} (o : Outcome A) (f : A → Outcome B) (b : B) : Type 0 where
  pub between : A
  pub first : o ≡ accepted between
  pub second : f between ≡ accepted b

pub then_accepted : {A B : Type 0} (o : Outcome A) (f : A → Outcome B) (b : B) → then o f ≡ accepted b → Through o f b
then_accepted (accepted a) f b q = record { between = a; first = refl; second = q }
then_accepted (refused k) f b q = absurd (accepted_not_refused (sym q))

-- a refusal of two steps is the first's, or the second's after an accepted first
pub then_refused : {A B : Type 0} (o : Outcome A) (f : A → Outcome B) (k : ℕ) → then o f ≡ refused k →
    (o ≡ refused k) ⊎ ((a : A) × (o ≡ accepted a) × (f a ≡ refused k))
then_refused (accepted a) f k q = inr (a, refl, q)
then_refused (refused n) f k q = inl (ap refused (refused_same q))

-- a step that never refuses: two steps are accepted with its value, and refused exactly as the first is
pub map_accepted : {A B : Type 0} (o : Outcome A) (f : A → B) (b : B) → then o (λ a. accepted (f a)) ≡ accepted b →
    (a : A) × (o ≡ accepted a) × (f a ≡ b)
map_accepted (accepted a) f b e = (a, refl, accepted_same e)
map_accepted (refused k) f b e = absurd (accepted_not_refused (sym e))

pub map_refused : {A B : Type 0} (o : Outcome A) (f : A → B) (k : ℕ) → (then o (λ a. accepted (f a)) ≡ refused k) ↔ (o ≡ refused k)
map_refused (accepted a) f k = (λ e. absurd (accepted_not_refused e), λ e. absurd (accepted_not_refused e))
map_refused (refused m) f k = (λ e. ap refused (refused_same e), λ e. ap refused (refused_same e))
