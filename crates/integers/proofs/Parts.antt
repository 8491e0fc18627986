-- An integer as its two natural parts: z is `up z` less `dn z`, and one of the two is 0.
-- Each operation and the order of the integers is a linear fact about the parts. Assumes nothing.
use mathlib.Core.Path.{◌≡◌, refl, ap}
use mathlib.Core.Bool.{Bool, true, false, not, cond}
use Prim.Native.Nat.{ℕ, zero, suc, ◌+◌, ◌-◌, ◌<◌, ◌≤◌}
use native.Mathlib.Omega.{arith}
use lib.Dec.{T, ltb, ltb→lt, nltb→le, leb→le, le→leb}
use lib.IntN.{ℤ, pos, negsuc, ◌+ℤ◌, ◌-ℤ◌, neg_ℤ, sub_ℕ}
use lib.Signed.{◌≤ℤ◌, le_z}

-- the part above 0
unfoldable pub up : ℤ → ℕ
up (pos n) = n
up (negsuc n) = 0

-- the part below 0
unfoldable pub dn : ℤ → ℕ
dn (pos n) = 0
dn (negsuc n) = suc n

-- what holds of either choice holds of the choice
pub cond_ind : {A : Type 0} (c : Bool) (x y : A) (P : A → Type 0) → (T c → P x) → (T (not c) → P y) → P (cond c x y)
cond_ind true x y P f g = f tt
cond_ind false x y P f g = g tt

-- ---- the parts of a difference of naturals

pub sub_ℕ_parts : (a b : ℕ) → up (sub_ℕ a b) + b ≡ a + dn (sub_ℕ a b)
unfolding up dn
sub_ℕ_parts a b =
    cond_ind (ltb a b) (negsuc (b - suc a)) (pos (a - b)) (λ z. up z + b ≡ a + dn z) (λ t. less a b (ltb→lt a b t)) (λ t. more a b (nltb→le a b t))
  where
    less : (a b : ℕ) → a < b → 0 + b ≡ a + suc (b - suc a)
    less a b h = omega arith

    more : (a b : ℕ) → b ≤ a → (a - b) + b ≡ a + 0
    more a b h = omega arith

sub_ℕ_up : (a b : ℕ) → up (sub_ℕ a b) ≤ a
unfolding up
sub_ℕ_up a b = cond_ind (ltb a b) (negsuc (b - suc a)) (pos (a - b)) (λ z. up z ≤ a) (λ t. omega arith) (λ t. omega arith)

sub_ℕ_dn : (a b : ℕ) → dn (sub_ℕ a b) ≤ b
unfolding dn
sub_ℕ_dn a b = cond_ind (ltb a b) (negsuc (b - suc a)) (pos (a - b)) (λ z. dn z ≤ b) (λ t. less a b (ltb→lt a b t)) (λ t. omega arith)
  where
    less : (a b : ℕ) → a < b → suc (b - suc a) ≤ b
    less a b h = omega arith

-- ---- the parts of a sum, a negation and a difference

pub sum_parts : (a b : ℤ) → up (a +ℤ b) + (dn a + dn b) ≡ (up a + up b) + dn (a +ℤ b)
unfolding up dn
sum_parts (pos a) (pos b) = omega arith
sum_parts (pos a) (negsuc b) = let h : up (sub_ℕ a (suc b)) + suc b ≡ a + dn (sub_ℕ a (suc b)) = sub_ℕ_parts a (suc b) in omega arith
sum_parts (negsuc a) (pos b) = let h : up (sub_ℕ b (suc a)) + suc a ≡ b + dn (sub_ℕ b (suc a)) = sub_ℕ_parts b (suc a) in omega arith
sum_parts (negsuc a) (negsuc b) = omega arith

pub sum_up : (a b : ℤ) → up (a +ℤ b) ≤ up a + up b
unfolding up dn
sum_up (pos a) (pos b) = omega arith
sum_up (pos a) (negsuc b) = let h : up (sub_ℕ a (suc b)) ≤ a = sub_ℕ_up a (suc b) in omega arith
sum_up (negsuc a) (pos b) = let h : up (sub_ℕ b (suc a)) ≤ b = sub_ℕ_up b (suc a) in omega arith
sum_up (negsuc a) (negsuc b) = omega arith

pub sum_dn : (a b : ℤ) → dn (a +ℤ b) ≤ dn a + dn b
unfolding up dn
sum_dn (pos a) (pos b) = omega arith
sum_dn (pos a) (negsuc b) = let h : dn (sub_ℕ a (suc b)) ≤ suc b = sub_ℕ_dn a (suc b) in omega arith
sum_dn (negsuc a) (pos b) = let h : dn (sub_ℕ b (suc a)) ≤ suc a = sub_ℕ_dn b (suc a) in omega arith
sum_dn (negsuc a) (negsuc b) = omega arith

pub neg_up : (a : ℤ) → up (neg_ℤ a) ≡ dn a
unfolding up dn
neg_up (pos zero) = refl
neg_up (pos (suc n)) = refl
neg_up (negsuc n) = refl

pub neg_dn : (a : ℤ) → dn (neg_ℤ a) ≡ up a
unfolding up dn
neg_dn (pos zero) = refl
neg_dn (pos (suc n)) = refl
neg_dn (negsuc n) = refl

pub diff_parts : (a b : ℤ) → up (a -ℤ b) + (dn a + up b) ≡ (up a + dn b) + dn (a -ℤ b)
diff_parts a b = omega (arith, sum_parts a (neg_ℤ b), neg_up b, neg_dn b)

-- ---- order and equality

pub le_parts : {a b : ℤ} → a ≤ℤ b → up a + dn b ≤ up b + dn a
unfolding up dn
le_parts {a} {b} h = go a b h.le
  where
    go : (a b : ℤ) → T (le_z a b) → up a + dn b ≤ up b + dn a
    go (pos a) (pos b) t = let h : a ≤ b = leb→le a b t in omega arith
    go (pos a) (negsuc b) t = absurd t
    go (negsuc a) (pos b) t = omega arith
    go (negsuc a) (negsuc b) t = let h : b ≤ a = leb→le b a t in omega arith

pub parts_le : (a b : ℤ) → up a + dn b ≤ up b + dn a → a ≤ℤ b
unfolding up dn
parts_le a b h = record { le = go a b h }
  where
    go : (a b : ℤ) → up a + dn b ≤ up b + dn a → T (le_z a b)
    go (pos a) (pos b) h = le→leb a b (omega arith)
    go (pos a) (negsuc b) h = absurd (bad a b h)
      where
        bad : (a b : ℕ) → a + suc b ≤ 0 + 0 → ⊥
        bad a b h = omega arith
    go (negsuc a) (pos b) h = tt
    go (negsuc a) (negsuc b) h = le→leb b a (omega arith)

pub parts_eq : (a b : ℤ) → up a + dn b ≡ up b + dn a → a ≡ b
unfolding up dn
parts_eq (pos a) (pos b) h = ap pos (omega arith)
parts_eq (pos a) (negsuc b) h = absurd (omega arith)
parts_eq (negsuc a) (pos b) h = absurd (omega arith)
parts_eq (negsuc a) (negsuc b) h = ap negsuc (omega arith)

pub eq_parts : {a b : ℤ} → a ≡ b → up a + dn b ≡ up b + dn a
eq_parts {a} {b} e = rw e refl
