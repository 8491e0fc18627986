-- The derived comparison of outlines is the test `same_outline`. Assumes nothing.
use mathlib.Core.Path.{◌≡◌}
use mathlib.Core.Bool.{◌&&◌}
use lib.Dec.{eqb}
use lib.IntN.{ℤ}
use Rattle.std.specs.Ordering.{int_eq}
use Rattle.std.proofs.Math.Bool.{and_assoc}
use Rattle.std.proofs.lemmas.Bool.Decides.{same_from_decides, Decides-int_eq}
use Rattle.outline.specs.declared.Outline.{Outline}
use Rattle.outline.specs.Sameness.{same_integer, same_outline}
use Rattle.outline.proofs.Sameness.{integer_is, integer_self}

-- std's test of two integers
int_same : (x y : ℤ) → int_eq x y ≡ same_integer x y
int_same x y = same_from_decides (int_eq x y) (same_integer x y) (Decides-int_eq x y) (integer_is x y, λ e. rw (← e) (integer_self x))

-- the comparison that is derived: std's test of each field in order
pub derived_same : (o p : Outline) →
    (int_eq o.i p.i && (int_eq o.j p.j && (eqb o.n0 p.n0 && (eqb o.n1 p.n1 && (eqb o.n2 p.n2 && (eqb o.n3 p.n3 &&
    (eqb o.n4 p.n4 && (eqb o.n5 p.n5 && (eqb o.n6 p.n6 && eqb o.n7 p.n7))))))))) ≡ same_outline o p
unfolding same_outline
derived_same o p = rw (int_same o.i p.i, int_same o.j p.j) (simp and_assoc)
