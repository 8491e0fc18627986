-- The test of a diagonal row, on the four bounds that it asks, as linear facts. Assumes nothing.
use mathlib.Core.Path.{◌≡◌}
use mathlib.Core.Bool.{true}
use native.Mathlib.Omega.{arith}
use lib.IntN.{ℤ, pos, ◌+ℤ◌}
use lib.Signed.{le_z}
use Rattle.integers.proofs.Parts.{up, dn, sum_parts}
use Rattle.integers.proofs.Linear.{#, ◌⊕◌, lit, ◌≼◌}
use Rattle.integers.proofs.Tests.{both_true, and_true, test_le, le_test}
use Rattle.morphology.specs.Operations.{is_row}

pub record Line (p q s t : ℤ) : Type 0 where
  pub one_line : # p ⊕ # q ≼ lit 0
  pub many : lit 1 ≼ # s ⊕ # t

pub row_line : (p q s t : ℤ) → is_row p q s t ≡ true → Line p q s t
unfolding up dn
row_line p q s t h =
    let b = both_true (le_z (p +ℤ q) (pos 0)) (le_z (pos 1) (s +ℤ t)) h in
    let l = test_le (p +ℤ q) (pos 0) b.0 in
    let m = test_le (pos 1) (s +ℤ t) b.1 in
    record { one_line = omega (arith, l, sum_parts p q); many = omega (arith, m, sum_parts s t) }

pub line_row : (p q s t : ℤ) → Line p q s t → is_row p q s t ≡ true
unfolding up dn
line_row p q s t l =
    and_true (le_test (p +ℤ q) (pos 0) (omega (arith, l.one_line, sum_parts p q))) (le_test (pos 1) (s +ℤ t) (omega (arith, l.many, sum_parts s t)))
