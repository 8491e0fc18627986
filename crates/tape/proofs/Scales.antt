-- Integers taken a natural number of times: by their parts, and that this keeps their order both ways. Assumes nothing.
use mathlib.Core.Path.{◌≡◌, refl, sym, ap, ◌∙◌}
use mathlib.Core.Bool.{Bool, true, false}
use Prim.Native.Nat.{ℕ, zero, suc, ◌+◌, ◌*◌, ◌<◌}
use native.Mathlib.Nat.{mul-add, mul-one, mul_left_comm, zero-mul, le_of_mul-le-mul_left, mul-le-mul_left}
use native.Mathlib.Omega.{arith}
use lib.IntN.{ℤ, pos, ◌+ℤ◌, ◌-ℤ◌, ◌*ℤ◌, *ℤ_comm}
use Rattle.integers.proofs.Parts.{up, dn, sum_parts, diff_parts, parts_eq}
use Rattle.integers.proofs.Linear.{Diff, #, ◌⊕◌, neg, lit, ◌≼◌, ◌≈◌}
use Rattle.integers.proofs.Multiples.{mul, times_parts}
use Rattle.tape.specs.Snapping.{with_sign}

pub scaled_parts : (z : ℤ) (d : ℕ) → # (z *ℤ pos d) ≈ mul d (# z)
scaled_parts z d = rw (*ℤ_comm z (pos d)) (times_parts d z)

-- equal differences, d times
alike : (d : ℕ) (a b : Diff) → a ≈ b → mul d a ≈ mul d b
alike d a b h = sym (mul-add d a.p b.n) ∙ ap (λ (k : ℕ). d * k) h ∙ mul-add d b.p a.n

-- 2 × n - 1 and 2 × n + 1, d times
pub twice_less : (n : ℤ) (d : ℕ) → # (((n +ℤ n) -ℤ pos 1) *ℤ pos d) ≈ mul d (# n) ⊕ mul d (# n) ⊕ neg (lit d)
unfolding up dn
twice_less n d =
    let z = (n +ℤ n) -ℤ pos 1 in
    let same : # z ≈ # n ⊕ # n ⊕ neg (lit 1) = omega (arith, diff_parts (n +ℤ n) (pos 1), sum_parts n n) in
    omega (
      arith,
      scaled_parts z d,
      alike d (# z) (# n ⊕ # n ⊕ neg (lit 1)) same,
      mul-add d (up n + up n) 0,
      mul-add d (up n) (up n),
      mul-add d (dn n + dn n) 1,
      mul-add d (dn n) (dn n),
      mul-one d,
    )

pub twice_more : (n : ℤ) (d : ℕ) → # (((n +ℤ n) +ℤ pos 1) *ℤ pos d) ≈ mul d (# n) ⊕ mul d (# n) ⊕ lit d
unfolding up dn
twice_more n d =
    let z = (n +ℤ n) +ℤ pos 1 in
    let same : # z ≈ # n ⊕ # n ⊕ lit 1 = omega (arith, sum_parts (n +ℤ n) (pos 1), sum_parts n n) in
    omega (
      arith,
      scaled_parts z d,
      alike d (# z) (# n ⊕ # n ⊕ lit 1) same,
      mul-add d (up n + up n) 1,
      mul-add d (up n) (up n),
      mul-add d (dn n + dn n) 0,
      mul-add d (dn n) (dn n),
      mul-one d,
    )

-- ---- the order

pub scaled_le : (d : ℕ) (a b : ℤ) → # a ≼ # b → # (a *ℤ pos d) ≼ # (b *ℤ pos d)
scaled_le d a b h =
    omega (
      arith,
      scaled_parts a d,
      scaled_parts b d,
      mul-le-mul_left d h,
      mul-add d (up a) (dn b),
      mul-add d (up b) (dn a),
    )

pub unscaled_le : (d : ℕ) (a b : ℤ) → 0 < d → # (a *ℤ pos d) ≼ # (b *ℤ pos d) → # a ≼ # b
unscaled_le d a b l h =
    le_of_mul-le-mul_left {k = d}
    (omega (
      arith,
      scaled_parts a d,
      scaled_parts b d,
      mul-add d (up a) (dn b),
      mul-add d (up b) (dn a),
    ))
    l

-- d times and then e times, in either order
turned : (z : ℤ) (d e : ℕ) → # (z *ℤ pos d *ℤ pos e) ≈ mul e (mul d (# z))
turned z d e = omega (arith, scaled_parts (z *ℤ pos d) e, alike e (# (z *ℤ pos d)) (mul d (# z)) (scaled_parts z d))

pub either_order : (z : ℤ) (d e : ℕ) → z *ℤ pos d *ℤ pos e ≡ z *ℤ pos e *ℤ pos d
either_order z d e =
    parts_eq (z *ℤ pos d *ℤ pos e) (z *ℤ pos e *ℤ pos d)
    (omega (arith, turned z d e, turned z e d, mul_left_comm d e (up z), mul_left_comm d e (dn z)))

-- u / d and v / e are one number: a z that is at most the one is at most the other
pub at_most_either : (z u v : ℤ) (d e : ℕ) → 0 < d → v *ℤ pos d ≡ u *ℤ pos e → # (z *ℤ pos d) ≼ # u → # (z *ℤ pos e) ≼ # v
at_most_either z u v d e l q h = unscaled_le d (z *ℤ pos e) v l (rw (either_order z e d, q) (scaled_le e (z *ℤ pos d) u h))

-- a number with its sign, d times
pub sign_scaled : (s : Bool) (n d : ℕ) → with_sign s n *ℤ pos d ≡ with_sign s (n * d)
sign_scaled false n d = refl
sign_scaled true zero d = rw zero-mul refl
sign_scaled true (suc n) d = refl
