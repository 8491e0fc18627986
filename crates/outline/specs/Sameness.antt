-- When two outlines are one: the same start and the same sides, and the tests of it. proofs/Sameness.antt shows that the tests decide it.
-- Assumes nothing.
use Rattle.std.specs.Prelude.{◌≡◌, Bool, false, ◌&&◌, ℤ, pos, negsuc, eqb}
use Rattle.outline.specs.declared.Outline.{Outline}

-- two outlines with the same sides
pub record SameSides (o p : Outline) : Type 0 where
  pub e0 : o.n0 ≡ p.n0
  pub e1 : o.n1 ≡ p.n1
  pub e2 : o.n2 ≡ p.n2
  pub e3 : o.n3 ≡ p.n3
  pub e4 : o.n4 ≡ p.n4
  pub e5 : o.n5 ≡ p.n5
  pub e6 : o.n6 ≡ p.n6
  pub e7 : o.n7 ≡ p.n7

-- the test of it
abbrev pub same_sides : Outline → Outline → Bool
same_sides o p =
    eqb o.n0 p.n0 && eqb o.n1 p.n1 && eqb o.n2 p.n2 && eqb o.n3 p.n3 &&
    eqb o.n4 p.n4 && eqb o.n5 p.n5 && eqb o.n6 p.n6 && eqb o.n7 p.n7

-- whether two integers are one
abbrev pub same_integer : ℤ → ℤ → Bool
same_integer (pos a) (pos b) = eqb a b
same_integer (pos a) (negsuc b) = false
same_integer (negsuc a) (pos b) = false
same_integer (negsuc a) (negsuc b) = eqb a b

-- whether two outlines have the same start and the same sides
unfoldable pub same_outline : Outline → Outline → Bool
same_outline o p = same_integer o.i p.i && same_integer o.j p.j && same_sides o p
