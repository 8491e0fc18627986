-- The marks of spreads that add up (document 02's U7): the call of m + n folds says filled exactly where one of the two calls does, and the
-- second call differs from it where that was the first. Assumes nothing.
use mathlib.Core.Path.{◌≡◌, sym, ◌∙◌, ap}
use mathlib.Core.Logic.{◌↔◌, ◌⊎◌, inl, inr}
use mathlib.Core.Bool.{true, ◌||◌}
use Prim.Native.Nat.{ℕ, ◌+◌, ◌≤◌}
use native.Mathlib.Omega.{arith}
use Rattle.integers.proofs.Between.{if_any}
use Rattle.integers.proofs.Tests.{T_true, true_T, cases, or_either, either_or, both_or_neither}
use Rattle.octagon.specs.Octagon.{Octagon}
use Rattle.octagon.specs.Outcome.{accepted}
use Rattle.octagon.specs.Cells.{◌≐◌, In}
use Rattle.octagon.proofs.NormalForms.{accepted_means, accepted_normal}
use Rattle.morphology.specs.Sets.{OpposedRows}
use Rattle.morphology.specs.Marks.{Marked}
use Rattle.morphology.specs.Operations.{sums}
use Rattle.morphology.specs.Folds.{multiples, dilation_n}
use Rattle.morphology.proofs.SetLaws.{same_refl, same_sym, same_trans}
use Rattle.morphology.proofs.Multiples.{sums_zero, multiples_normal, opposed_after}
use Rattle.morphology.proofs.DiagonalRows.{not_opposed_rows}
use Rattle.morphology.proofs.Pairings.{opposed_same}
use Rattle.morphology.proofs.Dilations.{dilation_n_accepted, Sum, accepted_sum}

same_bounds : (a b : Octagon) → a ≡ b → In a ≐ In b
same_bounds a b e = rw e (same_refl (In b))

-- of m folds, then n of what came of them, and m + n, all accepted
module _ (p f : Octagon) (m n : ℕ) (d e w : Marked)
    (q : dilation_n p f m ≡ accepted d) (r : dilation_n d.octagon f n ≡ accepted e) (u : dilation_n p f (m + n) ≡ accepted w) where
  sum : Sum p f m d.octagon
  sum = accepted_sum p f m d q

  -- what no folds gave has the cells of p
  as_before : m ≡ 0 → In d.octagon ≐ In p
  as_before z =
      same_trans (same_bounds d.octagon sum.a (sum.is_sums ∙ none sum.a sum.b m z)) (accepted_means p sum.a sum.operands.of_p).cells
    where
      none : (a b : Octagon) (k : ℕ) → k ≡ 0 → sums a (multiples k b) ≡ a
      none a b k e = rw (e, sums_zero a b)

  -- what one fold or more gave is not opposed to the element
  apart : 1 ≤ m → ¬ (OpposedRows (In d.octagon) (In f))
  apart l o =
      let a = sum.a in
      let b = sum.b in
      let h = accepted_normal p a sum.operands.of_p in
      let k = accepted_normal f b sum.operands.of_f in
      let c = (accepted_means f b sum.operands.of_f).cells in
      let z = opposed_after m a b h k l in
      not_opposed_rows (sums a (multiples m b)) b (multiples_normal m a b h k) k z.0 z.1
      (opposed_same (same_bounds d.octagon (sums a (multiples m b)) sum.is_sums) (same_sym c) o)

  first_when : (d.is_filled ≡ true) ↔ ((1 ≤ m) × OpposedRows (In p) (In f))
  first_when = (dilation_n_accepted p f m d q).filled_where

  at_once_when : (w.is_filled ≡ true) ↔ ((1 ≤ m + n) × OpposedRows (In p) (In f))
  at_once_when = (dilation_n_accepted p f (m + n) w u).filled_where

  -- the second call says filled exactly where the first made no fold, it makes one, and the operands are opposed rows
  pub second_filled : (e.is_filled ≡ true) ↔ ((m ≡ 0) × (1 ≤ n) × OpposedRows (In p) (In f))
  second_filled = (
    λ t. let h = own.0 t in if_any m (λ l. absurd (apart l h.1)) (λ z. (z, h.0, opposed_same (as_before z) (same_refl (In f)) h.1)),
    λ h. own.1 (h.1, opposed_same (same_sym (as_before h.0)) (same_refl (In f)) h.2),
  )
    where
      own : (e.is_filled ≡ true) ↔ ((1 ≤ n) × OpposedRows (In d.octagon) (In f))
      own = (dilation_n_accepted d.octagon f n e r).filled_where

  -- m + n folds say filled exactly where one of the two calls does
  pub marks_together : w.is_filled ≡ (d.is_filled || e.is_filled)
  marks_together =
      both_or_neither w.is_filled (d.is_filled || e.is_filled)
      (λ t. true_T (either_or d.is_filled e.is_filled (to_either (at_once_when.0 (T_true w.is_filled t)))))
      (λ t. true_T (at_once_when.1 (of_either (or_either d.is_filled e.is_filled (T_true (d.is_filled || e.is_filled) t)))))
    where
      to_either : (1 ≤ m + n) × OpposedRows (In p) (In f) → (d.is_filled ≡ true) ⊎ (e.is_filled ≡ true)
      to_either h = if_any m (λ l. inl (first_when.1 (l, h.1))) (λ z. inr (second_filled.1 (z, omega (arith, z, h.0), h.1)))

      of_either : (d.is_filled ≡ true) ⊎ (e.is_filled ≡ true) → (1 ≤ m + n) × OpposedRows (In p) (In f)
      of_either (inl t) = let h = first_when.0 t in (omega (arith, h.0), h.1)
      of_either (inr t) = let h = second_filled.0 t in (omega (arith, h.1), h.2)

  -- "the filled mark may differ": it does exactly where the first call makes a fold of opposed rows, which says filled there
  pub marks_differ : ¬ (e.is_filled ≡ w.is_filled) ↔ ((1 ≤ m) × OpposedRows (In p) (In f))
  marks_differ = (
    λ x. cases d.is_filled (λ t. first_when.0 t) (λ t. absurd (x (sym (marks_together ∙ ap (λ b. b || e.is_filled) t)))),
    λ h x. apart' h.0 (x ∙ at_once_when.1 (omega (arith, h.0), h.1)),
  )
    where
      apart' : 1 ≤ m → ¬ (e.is_filled ≡ true)
      apart' l t = let z = (second_filled.0 t).0 in omega (arith, z, l)
