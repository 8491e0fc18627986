-- An element spread with itself, once or more often (document 004's family nB): one call by what k folds of it with itself gave is k + 1 folds
-- of the element, up to the fold limit, with the same mark and the same refusals. Assumes nothing.
use mathlib.Core.Path.{◌≡◌, refl, sym, ◌∙◌, ap}
use Prim.Native.Nat.{ℕ, suc, ◌≤◌}
use native.Mathlib.Omega.{arith}
use lib.IntN.{ℤ, pos, ◌*ℤ◌}
use borrow.Author.Tests.{le-ltb, lt-ltb}
use Rattle.integers.proofs.Linear.{#, ◌⊕◌, lit}
use Rattle.integers.proofs.Between.{decide}
use Rattle.integers.proofs.Multiples.{times_below, times_above}
use Rattle.integers.proofs.Tests.{T_true, true_T, both_or_neither}
use Rattle.octagon.specs.Octagon.{Octagon}
use Rattle.octagon.specs.Outcome.{Outcome, accepted, refused, then}
use Rattle.octagon.specs.NormalForm.{normalised, placed}
use Rattle.octagon.proofs.Outcomes.{accepted_same}
use Rattle.morphology.specs.Marks.{Marked, marked}
use Rattle.morphology.specs.Operations.{sums, is_row, is_rising, is_falling, are_opposed, dilation, erosion, opened}
use Rattle.morphology.specs.Folds.{multiples, fold_limit, are_opposed_in, dilation_n, erosion_n}
use Rattle.morphology.specs.Premises.{opened_n}
use Rattle.morphology.proofs.RowTests.{Line, row_line, line_row}
use Rattle.morphology.proofs.Multiples.{multiples_next}
use Rattle.morphology.proofs.Handed.{own_form}
use Rattle.morphology.proofs.Dilations.{dilation_n_accepted, Sum, accepted_sum}

-- ---- multiples of rows

-- one time or more: a row is one in as many times its bounds
row_multiple : (n : ℕ) (p q s t : ℤ) → is_row (pos (suc n) *ℤ p) (pos (suc n) *ℤ q) (pos (suc n) *ℤ s) (pos (suc n) *ℤ t) ≡ is_row p q s t
row_multiple n p q s t = both_or_neither _ _
    (λ h. true_T (line_row p q s t (back (row_line _ _ _ _ (T_true _ h)))))
    (λ h. true_T (line_row _ _ _ _ (forth (row_line p q s t (T_true _ h)))))
  where
    forth : Line p q s t → Line (pos (suc n) *ℤ p) (pos (suc n) *ℤ q) (pos (suc n) *ℤ s) (pos (suc n) *ℤ t)
    forth l = record { one_line = times_below (suc n) p q l.one_line; many = omega (arith, times_above (suc n) s t l.many) }

    back : Line (pos (suc n) *ℤ p) (pos (suc n) *ℤ q) (pos (suc n) *ℤ s) (pos (suc n) *ℤ t) → Line p q s t
    back l = record {
      one_line = decide (lit 1) (# p ⊕ # q) (λ h. absurd (omega (arith, times_above (suc n) p q h, l.one_line))) (λ h. omega arith);
      many = decide (lit 1) (# s ⊕ # t) (λ h. h) (λ h. absurd (omega (arith, times_below (suc n) s t (omega arith), l.many)));
    }

opposed_multiple : (n : ℕ) (a b : Octagon) → are_opposed a (multiples (suc n) b) ≡ are_opposed a b
unfolding are_opposed is_rising is_falling multiples
opposed_multiple n a b = rw (row_multiple n b.c1 b.c5 b.c3 b.c7, row_multiple n b.c3 b.c7 b.c1 b.c5) refl

-- ---- the calls

-- of an octagon h whose normal form is so many times that of f, one time or more
module _ (p f h b : Octagon) (k : ℕ) (l : suc k ≤ fold_limit) (q : normalised f ≡ accepted b) (r : normalised h ≡ accepted (multiples (suc k) b)) where
  dilation_times : dilation p h ≡ dilation_n p f (suc k)
  unfolding dilation dilation_n
  dilation_times = rw (q, r, le-ltb fold_limit (suc k) l) (go (normalised p))
    where
      go : (o : Outcome Octagon) →
          then o (λ a. marked (are_opposed a (multiples (suc k) b)) (placed (sums a (multiples (suc k) b)))) ≡ then o (λ a. marked (are_opposed_in (suc k) a b) (placed (sums a (multiples (suc k) b))))
      go (accepted a) = rw (opposed_multiple k a b, lt-ltb 0 (suc k) (omega arith)) refl
      go (refused j) = refl

  erosion_times : erosion p h ≡ erosion_n p f (suc k)
  unfolding erosion erosion_n
  erosion_times = rw (q, r, le-ltb fold_limit (suc k) l) refl

-- of what k folds of f with itself gave
module _ (f : Octagon) (k : ℕ) (d : Marked) (q : dilation_n f f k ≡ accepted d) (l : suc k ≤ fold_limit) where
  sum : Sum f f k d.octagon
  sum = accepted_sum f f k d q

  times : normalised d.octagon ≡ accepted (multiples (suc k) sum.b)
  times =
      own_form (dilation_n_accepted f f k d q).covers
      ∙ ap accepted (sum.is_sums ∙ ap (λ a. sums a (multiples k sum.b)) (accepted_same (sym sum.operands.of_p ∙ sum.operands.of_f)) ∙ multiples_next k sum.b)

  pub dilation_by_folds : (p : Octagon) → dilation p d.octagon ≡ dilation_n p f (suc k)
  dilation_by_folds p = dilation_times p f d.octagon sum.b k l sum.operands.of_f times

  pub erosion_by_folds : (p : Octagon) → erosion p d.octagon ≡ erosion_n p f (suc k)
  erosion_by_folds p = erosion_times p f d.octagon sum.b k l sum.operands.of_f times

  pub opening_by_folds : (p : Octagon) → opened p d.octagon ≡ opened_n p f (suc k)
  unfolding opened
  opening_by_folds p = rw (erosion_by_folds p) (go (erosion_n p f (suc k)))
    where
      go : (o : Outcome Octagon) → then o (λ e. dilation e d.octagon) ≡ then o (λ e. dilation_n e f (suc k))
      go (accepted e) = dilation_by_folds e
      go (refused j) = refl
