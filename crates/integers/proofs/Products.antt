-- The product of a u32 and an i32 fits an i64. Assumes nothing.
use Prim.Native.Nat.{ℕ, zero, suc, ◌-◌, ◌*◌, ◌^◌, ◌<◌, ◌≤◌}
use native.Mathlib.Nat.{mul-le-mul}
use native.Mathlib.Omega.{arith}
use lib.IntN.{ℤ, pos, negsuc, neg_ℤ, ◌*ℤ◌}
use lib.Signed.{mag}
use mir.Syntax.{w32, w64}
use mir.Val.{Fits, SFits}
use Rattle.integers.proofs.Parts.{up, dn}
use Rattle.integers.proofs.Range.{mag_parts}

-- a product whose parts fit is in range
product_mag : (n : ℕ) (a : ℤ) → n * up a < 2 ^ 63 → n * dn a ≤ 2 ^ 63 → mag (pos n *ℤ a) < 2 ^ 63
unfolding up dn
product_mag n (pos m) h k = h
product_mag n (negsuc m) h k = go (n * suc m) k
  where
    go : (l : ℕ) → l ≤ 2 ^ 63 → mag (neg_ℤ (pos l)) < 2 ^ 63
    go zero k = omega arith
    go (suc l) k = omega arith

pub product_fits : (n : ℕ) (a : ℤ) → Fits w32 n → SFits w32 a → SFits w64 (pos n *ℤ a)
product_fits n a f g =
    let b = mag_parts a (2 ^ 31) g.sfits in
    let u = mul-le-mul {n₁ = n} {m₁ = up a} {n₂ = 2 ^ 32 - 1} {m₂ = 2 ^ 31} (omega (arith, f.fits)) b.0 in
    let d = mul-le-mul {n₁ = n} {m₁ = dn a} {n₂ = 2 ^ 32 - 1} {m₂ = 2 ^ 31} (omega (arith, f.fits)) b.1 in
    record { sfits = product_mag n a (omega (arith, u)) (omega (arith, d)) }
