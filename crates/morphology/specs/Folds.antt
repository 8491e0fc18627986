-- The answers of `dilate_n`, `erode_n` and `closing`: definitions that compute. proofs/ says what they mean in sets. Assumes nothing.
use Rattle.std.specs.Prelude.{Bool, cond, ◌&&◌, ℕ, ltb, pos, ◌*ℤ◌}
use Rattle.octagon.specs.Octagon.{Octagon}
use Rattle.octagon.specs.Outcome.{Outcome, refused, then}
use Rattle.octagon.specs.NormalForm.{placed}
use Rattle.morphology.specs.Marks.{Marked, marked}
use Rattle.morphology.specs.Operations.{with_both, sums, are_opposed, erosion_of_forms, dilation, erosion}

-- the most folds of an n-fold call, and the refusal number of more
abbrev pub fold_limit : ℕ
fold_limit = 4000001

abbrev pub too_many_folds : ℕ
too_many_folds = 6

-- bound for bound, n times
unfoldable pub multiples : ℕ → Octagon → Octagon
multiples n b = record {
  c0 = pos n *ℤ b.c0;
  c1 = pos n *ℤ b.c1;
  c2 = pos n *ℤ b.c2;
  c3 = pos n *ℤ b.c3;
  c4 = pos n *ℤ b.c4;
  c5 = pos n *ℤ b.c5;
  c6 = pos n *ℤ b.c6;
  c7 = pos n *ℤ b.c7;
}

-- refused before anything else where there are too many folds
abbrev pub within_folds : {R : Type 0} → ℕ → Outcome R → Outcome R
within_folds n o = cond (ltb fold_limit n) (refused too_many_folds) o

-- opposed rows matter from the first fold on
abbrev pub are_opposed_in : ℕ → Octagon → Octagon → Bool
are_opposed_in n a b = ltb 0 n && are_opposed a b

-- the n-fold dilation of p by f, filled where opposed rows were spread
unfoldable pub dilation_n : Octagon → Octagon → ℕ → Outcome Marked
dilation_n p f n = within_folds n (with_both p f (λ a b. marked (are_opposed_in n a b) (placed (sums a (multiples n b)))))

-- the n-fold erosion of p by f
unfoldable pub erosion_n : Octagon → Octagon → ℕ → Outcome Octagon
erosion_n p f n = within_folds n (with_both p f (λ a b. erosion_of_forms a (multiples n b)))

-- the erosion by f of an octagon that has a mark, with that mark
abbrev pub marked_erosion : Marked → Octagon → Outcome Marked
marked_erosion d f = marked d.is_filled (erosion d.octagon f)

-- the closing of p by f: the dilation, and where that is accepted the erosion of what it gave, with the dilation's mark
unfoldable pub closed : Octagon → Octagon → Outcome Marked
closed p f = then (dilation p f) (λ d. marked_erosion d f)
