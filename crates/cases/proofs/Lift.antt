-- Signed numbers counted from 2 ^ 32: the sum fits, and is no less than 0. Assumes nothing.
use Rattle.std.proofs.Common.{◌≡◌, ℕ, suc, ◌-◌, T, ltb, ℤ, pos, negsuc, ◌+ℤ◌, nat_abs, ◌∙◌, arith, ltb→lt, to_z-of_z, w32, w64, Fits, SFits, to_z, of_z}
use lib.Signed.{non_neg}
use Rattle.integers.proofs.Parts.{cond_ind}
use Rattle.integers.proofs.Range.{widened, signs}

-- what a number is counted from
abbrev lift : ℕ
lift = 4294967296

-- a number in 64 bits, as it is read back
pub wide : {z : ℤ} → SFits w32 z → to_z w64 (of_z w64 (to_z w32 (of_z w32 z))) ≡ z
wide f = to_z-of_z (widened f) ∙ to_z-of_z f

pub sum_fits : (z : ℤ) → SFits w32 z → SFits w64 (z +ℤ pos lift)
sum_fits z f = search signs depth 8

pub sum_natural : (z : ℤ) → SFits w32 z → T (non_neg (z +ℤ pos lift)) × Fits w64 (nat_abs (z +ℤ pos lift))
sum_natural (pos n) f = (tt, record { fits = omega (arith, f.sfits) })
sum_natural (negsuc n) f =
    cond_ind (ltb lift (suc n)) (negsuc (suc n - suc lift)) (pos (lift - suc n)) (λ z. T (non_neg z) × Fits w64 (nat_abs z))
    (λ t. let h = ltb→lt lift (suc n) t in absurd (omega (arith, h, f.sfits)))
    (λ t. (tt, record { fits = omega arith }))
