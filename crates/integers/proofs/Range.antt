-- When a sum of a few signed numbers fits its width: rules that `search signs` applies backwards, from the sum to its terms.
-- Assumes nothing.
use mathlib.Core.Path.{◌≡◌, sym, ◌∙◌}
use mathlib.Core.Bool.{Bool, ◌&&◌, ◌||◌}
use Prim.Native.Nat.{ℕ, zero, suc, ◌^◌, ◌<◌, ◌≤◌}
use native.Mathlib.Omega.{arith}
use lib.Dec.{T, leb, leb→le}
use lib.IntN.{ℤ, pos, negsuc, ◌+ℤ◌, neg_ℤ, +ℤ_idl}
use lib.Signed.{mag, shr_z}
use borrow.Author.Rules.{rules}
use mir.Syntax.{Width, w32, w64}
use mir.Val.{SFits, to_z, of_z, hbits}
use mir.Facts.{to_z-of_z, sfits_widen}
use Rattle.integers.proofs.Parts.{up, dn, sum_up, sum_dn, neg_up, neg_dn, le_parts, parts_le}
use Rattle.integers.proofs.Linear.{#, lit, neg, ◌≼◌}
use Rattle.integers.specs.Minimum.{min_ℤ, half_ℤ}
use Rattle.integers.specs.Range.{roof, Room}
use Rattle.integers.proofs.Minimum.{min_ind}

-- room, as bounds on the two parts
pub room_parts : {n : ℕ} {z : ℤ} → Room n z → (up z ≤ roof n) × (dn z ≤ roof n)
unfolding up dn
room_parts {n} {z} f = go z (le_parts f.over) (le_parts f.under)
  where
    go : (z : ℤ) → # z ≼ lit (roof n) → # (neg_ℤ z) ≼ lit (roof n) → (up z ≤ roof n) × (dn z ≤ roof n)
    go (pos m) h l = omega (arith, neg_up (pos m), neg_dn (pos m))
    go (negsuc m) h l = omega (arith, neg_up (negsuc m), neg_dn (negsuc m))

pub room : (n : ℕ) {z : ℤ} → up z ≤ roof n → dn z ≤ roof n → Room n z
unfolding up dn
room n {z} h l = record {
  over = parts_le z (pos (roof n)) (omega arith);
  under = parts_le (neg_ℤ z) (pos (roof n)) (omega (arith, neg_up z, neg_dn z));
}

roof_top : (n : ℕ) → roof n ≤ 2 ^ 62
roof_top zero = omega arith
roof_top (suc n) = omega (arith, roof_top n)

-- ---- from room to a width

pub parts_mag : (z : ℤ) (k : ℕ) → up z < k → dn z ≤ k → mag z < k
unfolding up dn
parts_mag (pos n) k h l = omega arith
parts_mag (negsuc n) k h l = omega arith

pub room_fits : {n : ℕ} {z : ℤ} → Room n z → SFits w64 z
room_fits {n} {z} f = record { sfits = parts_mag z (2 ^ 63) (omega (arith, room_parts f, roof_top n)) (omega (arith, room_parts f, roof_top n)) }

-- more room is room enough
pub room_less : {n : ℕ} {z : ℤ} → Room (suc n) z → Room n z
room_less {n} {z} f = let p = room_parts f in room n (omega arith) (omega arith)

pub room_fits64 : {z : ℤ} → Room 0 z → SFits w64 z
room_fits64 f = room_fits f

pub room_fits32 : {z : ℤ} → Room 32 z → SFits w32 z
room_fits32 {z} f = record { sfits = parts_mag z (2 ^ 31) (omega (arith, room_parts f)) (omega (arith, room_parts f)) }

pub wide_fits : {z : ℤ} → SFits w32 z → SFits w64 z
wide_fits f = sfits_widen tt f

-- ---- from a width, or a literal, to room

pub mag_parts : (z : ℤ) (k : ℕ) → mag z < k → (up z ≤ k) × (dn z ≤ k)
unfolding up dn
mag_parts (pos n) k h = omega arith
mag_parts (negsuc n) k h = omega arith

pub room_i32 : (n : ℕ) {z : ℤ} → T (leb 2147483648 (roof n)) → SFits w32 z → Room n z
room_i32 n {z} t f =
    let m = mag_parts z (2 ^ 31) f.sfits in
    let l = leb→le 2147483648 (roof n) t in
    room n (omega arith) (omega arith)

pub room_pos : (n k : ℕ) → T (leb k (roof n)) → Room n (pos k)
unfolding up dn
room_pos n k t = room n (leb→le k (roof n) t) (omega arith)

pub room_negsuc : (n k : ℕ) → T (leb (suc k) (roof n)) → Room n (negsuc k)
unfolding up dn
room_negsuc n k t = room n (omega arith) (leb→le (suc k) (roof n) t)

-- a number that is at most k from 0
pub near_parts : (k : ℕ) (z : ℤ) → # z ≼ lit k → neg (# z) ≼ lit k → (up z ≤ k) × (dn z ≤ k)
unfolding up dn
near_parts k (pos m) h l = omega arith
near_parts k (negsuc m) h l = omega arith

pub room_near : (n k : ℕ) (z : ℤ) → T (leb k (roof n)) → # z ≼ lit k → neg (# z) ≼ lit k → Room n z
room_near n k z t h l =
    let p = near_parts k z h l in
    let q = leb→le k (roof n) t in
    room n (omega arith) (omega arith)

-- a number that is at most k from 0, and k within the width's range
pub near_fits : (w : Width) (k : ℕ) (z : ℤ) → k < 2 ^ hbits w → # z ≼ lit k → neg (# z) ≼ lit k → SFits w z
near_fits w k z l h m = let p = near_parts k z h m in record { sfits = parts_mag z (2 ^ hbits w) (omega arith) (omega arith) }

-- ---- the operations

pub room_add : {n : ℕ} {a b : ℤ} → Room (suc n) a → Room (suc n) b → Room n (a +ℤ b)
room_add {n} {a} {b} f g =
    let p = room_parts f in
    let q = room_parts g in
    room n (omega (arith, sum_up a b)) (omega (arith, sum_dn a b))

pub room_neg : {n : ℕ} {a : ℤ} → Room n a → Room n (neg_ℤ a)
room_neg {n} {a} f = let p = room_parts f in room n (omega (arith, neg_up a)) (omega (arith, neg_dn a))

shr_parts : (z : ℤ) → (up (shr_z z 2) ≤ up z) × (dn (shr_z z 2) ≤ dn z)
unfolding up dn
shr_parts (pos n) = omega arith
shr_parts (negsuc n) = omega arith

pub room_half : {n : ℕ} (a : ℤ) → Room n a → Room n (half_ℤ a)
unfolding half_ℤ
room_half {n} a f =
    let p = room_parts f in
    let q = shr_parts a in
    room n (omega arith) (omega arith)

pub room_min : {n : ℕ} (a b : ℤ) → Room n a → Room n b → Room n (min_ℤ a b)
room_min {n} a b f g = min_ind (Room n) a b (λ h. f) (λ h. g)

-- ---- a number read back from its bits

pub room_back : {n : ℕ} {z : ℤ} → Room n z → Room n (to_z w64 (of_z w64 z))
room_back {n} {z} f = rw (to_z-of_z (room_fits f)) f

pub room_back32 : (n : ℕ) {z : ℤ} → T (leb 2147483648 (roof n)) → SFits w32 z → Room n (to_z w32 (of_z w32 z))
room_back32 n {z} t f = rw (to_z-of_z f) (room_i32 n t f)

-- an i32 as it is read back, in 64 bits
pub widened : {z : ℤ} → SFits w32 z → SFits w64 (to_z w32 (of_z w32 z))
widened f = rw (to_z-of_z f) (wide_fits f)

-- what a call returned, whose range is `c.f.type_inv`
pub kept : (w : Width) {z : ℤ} → mag z < 2 ^ hbits w → to_z w (of_z w z) ≡ z
kept w h = to_z-of_z (record { sfits = h })

-- a negated number is a difference from 0, and a difference may follow it
pub minus : {w : Width} {z : ℤ} → SFits w z → SFits w (pos 0 +ℤ z)
minus f = rw +ℤ_idl f

pub negated : {w : Width} {z : ℤ} → SFits w z → to_z w (of_z w (pos 0 +ℤ z)) ≡ z
negated {z = z} f = to_z-of_z (minus f) ∙ +ℤ_idl z

pub minus_both : {w : Width} {y : ℤ} (z : ℤ) → SFits w y → SFits w (y +ℤ z) → SFits w (to_z w (of_z w (pos 0 +ℤ y)) +ℤ z)
minus_both z f g = rw (negated f) g

pub negated_both : {w : Width} {y : ℤ} (z : ℤ) → SFits w y → SFits w (y +ℤ z) → to_z w (of_z w (to_z w (of_z w (pos 0 +ℤ y)) +ℤ z)) ≡ y +ℤ z
negated_both z f g = rw (negated f) (to_z-of_z g)

pub ruleset signs = (rules, wide_fits, room_fits64, room_fits32, room_i32, room_pos, room_negsuc, room_add, room_neg, room_half, room_min, room_back, room_back32, +ℤ_idl)

-- ---- tests that come back from calls

-- a test that a call made, as the test that its contract names
pub told : {x y t : Bool} → x ≡ t → x ≡ y → y ≡ t
told p q = sym q ∙ p

pub and_is : {a b x y : Bool} → a ≡ x → b ≡ y → (a && b) ≡ (x && y)
and_is p q = rw (p, q)

pub or_is : {a b x y : Bool} → a ≡ x → b ≡ y → (a || b) ≡ (x || y)
or_is p q = rw (p, q)
