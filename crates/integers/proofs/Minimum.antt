-- What holds of the lesser and the greater of two integers, and of half of one. Assumes nothing.
use mathlib.Core.Path.{◌≡◌}
use native.Mathlib.Omega.{arith}
use lib.IntN.{ℤ, pos, negsuc}
use lib.Signed.{lt_z}
use Rattle.integers.specs.Minimum.{min_ℤ, max_ℤ, half_ℤ}
use Rattle.integers.proofs.Parts.{up, dn, cond_ind}
use Rattle.integers.proofs.Linear.{#, ◌⊕◌, lit, ◌≼◌}
use Rattle.integers.proofs.Tests.{lt_told, not_lt_told}

-- what holds of each where it is the lesser holds of the lesser
pub min_ind : (P : ℤ → Type 0) (a b : ℤ) → (# a ≼ # b → P a) → (# b ≼ # a → P b) → P (min_ℤ a b)
unfolding min_ℤ
min_ind P a b f g =
    cond_ind (lt_z b a) b a P (λ t. g (let h : # b ⊕ lit 1 ≼ # a = lt_told b a t in omega arith)) (λ t. f (not_lt_told b a t))

pub min_left : (a b : ℤ) → # (min_ℤ a b) ≼ # a
min_left a b = min_ind (λ z. # z ≼ # a) a b (λ h. omega arith) (λ h. omega arith)

pub min_right : (a b : ℤ) → # (min_ℤ a b) ≼ # b
min_right a b = min_ind (λ z. # z ≼ # b) a b (λ h. omega arith) (λ h. omega arith)

-- the same of the greater
pub max_ind : (P : ℤ → Type 0) (a b : ℤ) → (# b ≼ # a → P a) → (# a ≼ # b → P b) → P (max_ℤ a b)
unfolding max_ℤ
max_ind P a b f g =
    cond_ind (lt_z a b) b a P (λ t. g (let h : # a ⊕ lit 1 ≼ # b = lt_told a b t in omega arith)) (λ t. f (not_lt_told a b t))

pub max_left : (a b : ℤ) → # a ≼ # (max_ℤ a b)
max_left a b = max_ind (λ z. # a ≼ # z) a b (λ h. omega arith) (λ h. omega arith)

pub max_right : (a b : ℤ) → # b ≼ # (max_ℤ a b)
max_right a b = max_ind (λ z. # b ≼ # z) a b (λ h. omega arith) (λ h. omega arith)

-- twice the half is the number or one less
pub record Halved (z h : ℤ) : Type 0 where
  pub low : # h ⊕ # h ≼ # z
  pub high : # z ≼ # h ⊕ # h ⊕ lit 1

pub halved : (z : ℤ) → Halved z (half_ℤ z)
unfolding half_ℤ up dn
halved (pos n) = omega arith
halved (negsuc n) = omega arith

-- equal arguments
pub min_is : {a b x y : ℤ} → a ≡ x → b ≡ y → min_ℤ a b ≡ min_ℤ x y
min_is p q = rw (p, q)
