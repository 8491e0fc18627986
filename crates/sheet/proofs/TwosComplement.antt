-- Two's complement of 0 to 4 bytes, as the code computes it in 64 bits. Assumes nothing.
use mathlib.Core.Path.{◌≡◌, refl, ◌∙◌}
use mathlib.Core.Bool.{true, false, cond}
use mathlib.Core.List.{[], ◌∷◌}
use Prim.Native.Nat.{ℕ, zero, suc, ◌+◌, ◌-◌, ◌*◌, ◌/◌, ◌%◌, ◌^◌, ◌≤◌, ◌<◌}
use native.Mathlib.Omega.{arith}
use native.Mathlib.Nat.{mod-lt, mod-eq_of_lt, mod-eq-sub-mod, pow-le-pow_right}
use lib.ListN.{get_or}
use lib.Dec.{ltb}
use lib.IntN.{ℤ, pos, negsuc, ◌+ℤ◌, ◌-ℤ◌}
use lib.Signed.{mag, lt_z}
use mir.Syntax.{w32, w64}
use mir.Val.{SFits, to_z, of_z}
use mir.Facts.{to_z-of_z}
use borrow.Author.Tests.{ltb-true, ltb-false}
use Rattle.integers.proofs.Parts.{up, dn, sum_parts, diff_parts, parts_eq}
use Rattle.integers.proofs.Tests.{cases, true_is_not_false}
use Rattle.integers.proofs.Range.{kept, widened}
use Rattle.records.specs.Numbers.{signed, twos}
use Rattle.records.proofs.Numbers.{signed_is}

-- ---- how many numbers there are of w bytes

-- the table that the code has
pub power_table : (w : ℕ) → w ≤ 4 → get_or (1 ∷ 256 ∷ 65536 ∷ 16777216 ∷ 4294967296 ∷ []) w 0 ≡ 256 ^ w
power_table zero h = refl
power_table (suc zero) h = refl
power_table (suc (suc zero)) h = refl
power_table (suc (suc (suc zero))) h = refl
power_table (suc (suc (suc (suc zero)))) h = refl
power_table (suc (suc (suc (suc (suc w))))) h = absurd (omega arith)

pub power_top : (w : ℕ) → w ≤ 4 → 256 ^ w ≤ 2 ^ 32
power_top w h = pow-le-pow_right {n = 256} (omega arith) {i = w} {j = 4} h

-- a number below 2 ^ 63, read from its bits
pub pos_bits : (v : ℕ) → v < 2 ^ 63 → to_z w64 v ≡ pos v
pos_bits v h = kept w64 {z = pos v} h

-- ---- from bytes to a signed number

-- a number below f, turned half way round
abbrev pub turned : ℕ → ℕ → ℕ
turned f v = (v + f / 2) % f

turned_low : (f v : ℕ) → 2 * v < f → turned f v ≡ v + f / 2
turned_low f v h = mod-eq_of_lt {n = v + f / 2} {m = f} (omega arith)

turned_high : (f v : ℕ) → v < f → f ≤ 2 * v → turned f v ≡ v + f / 2 - f
turned_high f v h l =
    mod-eq-sub-mod {n = v + f / 2} {m = f} (omega arith) ∙ mod-eq_of_lt {n = v + f / 2 - f} {m = f} (omega arith)

-- and back: the number itself where it is below half of f, and f less where it is not
back : (f v : ℕ) → v < f → pos (turned f v) -ℤ pos (f / 2) ≡ cond (ltb (2 * v) f) (pos v) (pos v -ℤ pos f)
unfolding up dn
back f v h =
    let d = diff_parts (pos (turned f v)) (pos (f / 2)) in
    cases (ltb (2 * v) f)
    (λ b.
    let t = turned_low f v (ltb-true (2 * v) f b) in
    rw b (parts_eq (pos (turned f v) -ℤ pos (f / 2)) (pos v) (omega arith)))
    (λ b.
    let l = ltb-false (2 * v) f b in
    let t = turned_high f v h l in
    let e = diff_parts (pos v) (pos f) in
    rw b (parts_eq (pos (turned f v) -ℤ pos (f / 2)) (pos v -ℤ pos f) (omega arith)))

-- what the code computes of a number of w bytes: f is what `power` gives
module _ {w v f : ℕ} (n : w ≤ 4) (h : v < 256 ^ w) (e : f ≡ 256 ^ w) where
  turned_below : turned f v < f
  turned_below = mod-lt (v + f / 2) (omega arith)

  pub turned_fits : SFits w64 (pos (turned f v))
  turned_fits = record { sfits = omega (arith, turned_below, power_top w n) }

  pub turned_back : to_z w64 (turned f v) -ℤ to_z w64 (f / 2) ≡ signed w v
  unfolding signed
  turned_back =
      rw (pos_bits (turned f v) turned_fits.sfits, pos_bits (f / 2) (omega (arith, power_top w n)))
      (back f v (omega arith) ∙ rw e)

-- the signed number fits 32 bits
pub signed_fits : (w v : ℕ) → w ≤ 4 → v < 256 ^ w → SFits w32 (signed w v)
unfolding signed
signed_fits zero v n h = let e : v ≡ 0 = omega arith in rw e (record { sfits = omega arith })
signed_fits (suc w) v n h = record { sfits = omega (arith, (signed_is w v h).1, power_top (suc w) n) }

-- ---- from a signed number to bytes

-- a number of 32 bits, widened to 64 and read from its bits
pub read_back : (x : ℤ) → SFits w32 x → to_z w64 (of_z w64 (to_z w32 (of_z w32 x))) ≡ x
read_back x f = to_z-of_z (widened f) ∙ to_z-of_z f

-- a number of w bytes is one of 32 bits
pub narrow_kept : (w : ℕ) (x : ℤ) → w ≤ 4 → mag x < 256 ^ w / 2 → to_z w32 (of_z w32 x) ≡ x
narrow_kept w x n h = kept w32 (omega (arith, power_top w n))

-- the sum with 256 ^ w of a number below 0
pub lifted : (w : ℕ) (x : ℤ) → mag x < 256 ^ w / 2 → lt_z x (pos 0) ≡ true → x +ℤ pos (256 ^ w) ≡ pos (twos w x)
unfolding twos up dn
lifted w (pos n) h t = absurd (let l = ltb-true n 0 t in omega arith)
lifted w (negsuc n) h t =
    let d = sum_parts (negsuc n) (pos (256 ^ w)) in
    parts_eq (negsuc n +ℤ pos (256 ^ w)) (pos (256 ^ w - suc n)) (omega arith)

-- any other is the number itself
pub as_it_is : (w : ℕ) (x : ℤ) → lt_z x (pos 0) ≡ false → x ≡ pos (twos w x)
unfolding twos
as_it_is w (pos n) t = refl
as_it_is w (negsuc n) t = absurd (true_is_not_false t)
