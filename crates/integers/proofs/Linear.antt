-- Linear facts on integers, in a form that `omega` reads: a sum of integers is a pair of sums of their natural parts.
-- `# x ⊕ # y ≼ # z` says that x + y is at most z; `le` and `same` are the ways to the library's order and equality.
-- Assumes nothing.
use mathlib.Core.Path.{◌≡◌}
use Prim.Native.Nat.{ℕ, ◌+◌, ◌≤◌}
use native.Mathlib.Omega.{arith}
use lib.IntN.{ℤ, pos, negsuc, nat_abs, sub_ℕ}
use lib.Signed.{◌≤ℤ◌}
use Rattle.integers.proofs.Parts.{up, dn, sub_ℕ_parts, parts_le, parts_eq}

-- a difference of two naturals, p less n
pub record Diff : Type 0 where
  pub p : ℕ
  pub n : ℕ

infixl 70 ◌⊕◌
infix 50 ◌≼◌
infix 50 ◌≈◌
-- an integer as a difference
abbrev pub # : ℤ → Diff
# z = record { p = up z; n = dn z }

abbrev pub ◌⊕◌ : Diff → Diff → Diff
a ⊕ b = record { p = a.p + b.p; n = a.n + b.n }

abbrev pub neg : Diff → Diff
neg a = record { p = a.n; n = a.p }

abbrev pub lit : ℕ → Diff
lit k = record { p = k; n = 0 }

abbrev pub ◌≼◌ : Diff → Diff → Type 0
a ≼ b = a.p + b.n ≤ b.p + a.n

abbrev pub ◌≈◌ : Diff → Diff → Type 0
a ≈ b = a.p + b.n ≡ b.p + a.n

-- the integer that a difference is
pub int : Diff → ℤ
int d = sub_ℕ d.p d.n

pub int_parts : (d : Diff) → # (int d) ≈ d
unfolding int
int_parts d = sub_ℕ_parts d.p d.n

-- an order of integers that are equal to two differences
pub le : {a b : ℤ} (d e : Diff) → # a ≈ d → # b ≈ e → d ≼ e → a ≤ℤ b
le {a} {b} d e p q h = parts_le a b (omega arith)

-- two integers that are equal to one difference
pub same : {a b : ℤ} (d : Diff) → # a ≈ d → # b ≈ d → a ≡ b
same {a} {b} d p q = parts_eq a b (omega arith)

-- an integer of nought or more, as a natural number
pub natural : (z : ℤ) → lit 0 ≼ # z → lit (nat_abs z) ≈ # z
unfolding up dn
natural (pos n) h = omega arith
natural (negsuc n) h = absurd (omega arith)
