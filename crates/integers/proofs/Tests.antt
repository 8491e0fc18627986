-- Tests of integers that compute, and the linear facts that they tell. Assumes nothing.
use mathlib.Core.Path.{◌≡◌, refl, sym, ◌∙◌}
use mathlib.Core.Logic.{◌⊎◌, inl, inr}
use mathlib.Core.Bool.{Bool, true, false, not, ◌&&◌, ◌||◌}
use native.Mathlib.Omega.{arith}
use lib.Dec.{T, ltb→lt, nltb→le}
use lib.IntN.{ℤ, pos, negsuc}
use lib.Signed.{lt_z, le_z, ◌<ℤ◌}
use Rattle.integers.proofs.Parts.{up, dn, le_parts, parts_le}
use Rattle.integers.proofs.Linear.{#, ◌⊕◌, lit, ◌≼◌}

-- ---- truth values

pub T_true : (t : Bool) → T t → t ≡ true
T_true true h = refl
T_true false h = absurd h

pub true_T : {t : Bool} → t ≡ true → T t
true_T e = rw e tt

pub true_is_not_false : true ≡ false → ⊥
true_is_not_false e = true_T {t = false} (rw e refl)

-- the two cases of a test, each with what it says
pub cases : {R : Type 0} (b : Bool) → (b ≡ true → R) → (b ≡ false → R) → R
cases true f g = f refl
cases false f g = g refl

pub both_true : (a b : Bool) → (a && b) ≡ true → (a ≡ true) × (b ≡ true)
both_true true b h = (refl, h)
both_true false b h = absurd (true_T h)

pub or_false : (a b : Bool) → (a || b) ≡ false → (a ≡ false) × (b ≡ false)
or_false true b h = absurd (true_is_not_false h)
or_false false b h = (refl, h)

pub or_either : (a b : Bool) → (a || b) ≡ true → (a ≡ true) ⊎ (b ≡ true)
or_either true b h = inl refl
or_either false b h = inr h

pub either_or : (a b : Bool) → (a ≡ true) ⊎ (b ≡ true) → (a || b) ≡ true
either_or a b (inl p) = rw p refl
either_or a b (inr q) = rw q (true_right a)
  where
    true_right : (a : Bool) → (a || true) ≡ true
    true_right true = refl
    true_right false = refl

-- two tests that pass together are equal
pub both_or_neither : (a b : Bool) → (T a → T b) → (T b → T a) → a ≡ b
both_or_neither true true f g = refl
both_or_neither true false f g = absurd (f tt)
both_or_neither false true f g = absurd (g tt)
both_or_neither false false f g = refl

pub and_true : {a b : Bool} → a ≡ true → b ≡ true → (a && b) ≡ true
and_true p q = rw (p, q)

-- ---- orders

pub lt_told : (a b : ℤ) → T (lt_z a b) → # a ⊕ lit 1 ≼ # b
unfolding up dn
lt_told (pos a) (pos b) t = omega (arith, ltb→lt a b t)
lt_told (pos a) (negsuc b) t = absurd t
lt_told (negsuc a) (pos b) t = omega arith
lt_told (negsuc a) (negsuc b) t = omega (arith, ltb→lt b a t)

pub not_lt_told : (a b : ℤ) → T (not (lt_z a b)) → # b ≼ # a
unfolding up dn
not_lt_told (pos a) (pos b) t = omega (arith, nltb→le a b t)
not_lt_told (pos a) (negsuc b) t = omega arith
not_lt_told (negsuc a) (pos b) t = absurd t
not_lt_told (negsuc a) (negsuc b) t = omega (arith, nltb→le b a t)

pub test_le : (a b : ℤ) → le_z a b ≡ true → # a ≼ # b
test_le a b h = le_parts (record { le = true_T h })

pub le_test : (a b : ℤ) → # a ≼ # b → le_z a b ≡ true
le_test a b h = T_true (le_z a b) (parts_le a b h).le

pub not_le_told : (a b : ℤ) → le_z a b ≡ false → # b ⊕ lit 1 ≼ # a
not_le_told a b h =
    cases (lt_z b a)
    (λ e. lt_told b a (true_T e))
    (λ e. absurd (true_is_not_false (sym (le_test a b (not_lt_told b a (rw e tt))) ∙ h)))

-- the library's strict order, by the parts
pub lt_parts : {a b : ℤ} → a <ℤ b → # a ⊕ lit 1 ≼ # b
lt_parts {a} {b} h = lt_told a b h.lt

pub not_le_lt : (a b : ℤ) → ¬ (# b ≼ # a) → a <ℤ b
not_le_lt a b f = cases (lt_z a b) (λ e. record { lt = true_T e }) (λ e. absurd (f (not_lt_told a b (rw e tt))))

pub parts_lt : (a b : ℤ) → # a ⊕ lit 1 ≼ # b → a <ℤ b
parts_lt a b h = not_le_lt a b (λ (r : # b ≼ # a). omega arith)

-- a conjunction whose last test is of an order
pub and_le : (t : Bool) (a b : ℤ) → (t && le_z a b) ≡ true → (t ≡ true) × (# a ≼ # b)
and_le t a b h = let p = both_true t (le_z a b) h in (p.0, test_le a b p.1)
