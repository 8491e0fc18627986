-- The answers of `dilate`, `erode` and `opening`: definitions that compute. proofs/ says what they mean in sets. Assumes nothing.
use Rattle.std.specs.Prelude.{Bool, cond, ◌&&◌, ◌||◌, ℕ, eqb, ℤ, pos, ◌+ℤ◌, ◌-ℤ◌}
use Rattle.std.specs.Int.Signed.{le_z}
use Rattle.octagon.specs.Octagon.{Octagon}
use Rattle.octagon.specs.Outcome.{Outcome, accepted, refused, then, no_cell}
use Rattle.octagon.specs.NormalForm.{normalised, placed}
use Rattle.morphology.specs.Marks.{Marked, marked}

-- the refusal number of this file: no position fits
abbrev pub nothing_left : ℕ
nothing_left = 5

-- bound for bound: the sums, and the differences
unfoldable pub sums : Octagon → Octagon → Octagon
sums a b = record {
  c0 = a.c0 +ℤ b.c0;
  c1 = a.c1 +ℤ b.c1;
  c2 = a.c2 +ℤ b.c2;
  c3 = a.c3 +ℤ b.c3;
  c4 = a.c4 +ℤ b.c4;
  c5 = a.c5 +ℤ b.c5;
  c6 = a.c6 +ℤ b.c6;
  c7 = a.c7 +ℤ b.c7;
}

unfoldable pub differences : Octagon → Octagon → Octagon
differences a b = record {
  c0 = a.c0 -ℤ b.c0;
  c1 = a.c1 -ℤ b.c1;
  c2 = a.c2 -ℤ b.c2;
  c3 = a.c3 -ℤ b.c3;
  c4 = a.c4 -ℤ b.c4;
  c5 = a.c5 -ℤ b.c5;
  c6 = a.c6 -ℤ b.c6;
  c7 = a.c7 -ℤ b.c7;
}

-- bounds p and q of opposite sides leave one line, and bounds s and t more than one
abbrev pub is_row : ℤ → ℤ → ℤ → ℤ → Bool
is_row p q s t = le_z (p +ℤ q) (pos 0) && le_z (pos 1) (s +ℤ t)

-- normalised bounds of a diagonal row on a line x - y, and on a line x + y
unfoldable pub is_rising : Octagon → Bool
is_rising c = is_row c.c1 c.c5 c.c3 c.c7

unfoldable pub is_falling : Octagon → Bool
is_falling c = is_row c.c3 c.c7 c.c1 c.c5

-- one of each kind
unfoldable pub are_opposed : Octagon → Octagon → Bool
are_opposed a b = (is_rising a && is_falling b) || (is_falling a && is_rising b)

-- both operands normalised, the first before the second
abbrev pub with_both : {R : Type 0} → Octagon → Octagon → (Octagon → Octagon → Outcome R) → Outcome R
with_both p f g = then (normalised p) (λ a. then (normalised f) (λ b. g a b))

-- the dilation of normal forms: the sums, placed, and filled where the two are opposed rows (document 02's U4)
abbrev pub dilation_of_forms : Octagon → Octagon → Outcome Marked
dilation_of_forms a b = marked (are_opposed a b) (placed (sums a b))

-- the dilation of p by f (document 01's spread)
unfoldable pub dilation : Octagon → Octagon → Outcome Marked
dilation p f = with_both p f dilation_of_forms

-- no cell, as no position that fits
abbrev pub fitting : Outcome Octagon → Outcome Octagon
fitting (accepted a) = accepted a
fitting (refused n) = refused (cond (eqb n no_cell) nothing_left n)

-- the erosion of normal forms: the normal form of the differences
abbrev pub erosion_of_forms : Octagon → Octagon → Outcome Octagon
erosion_of_forms a b = fitting (normalised (differences a b))

-- the erosion of p by f (document 01's trim)
unfoldable pub erosion : Octagon → Octagon → Outcome Octagon
erosion p f = with_both p f erosion_of_forms

-- the opening of p by f: the erosion, and where that is accepted the dilation of what it left, with its mark
unfoldable pub opened : Octagon → Octagon → Outcome Marked
opened p f = then (erosion p f) (λ e. dilation e f)
