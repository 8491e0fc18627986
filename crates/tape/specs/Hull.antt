-- The bounds that two octagons reach between them. Assumes nothing.
use Rattle.integers.specs.Minimum.{max_ℤ}
use Rattle.octagon.specs.Octagon.{Octagon}

-- the octagon that reaches what either reaches, bound by bound
unfoldable pub hull : Octagon → Octagon → Octagon
hull a b = record {
  c0 = max_ℤ a.c0 b.c0;
  c1 = max_ℤ a.c1 b.c1;
  c2 = max_ℤ a.c2 b.c2;
  c3 = max_ℤ a.c3 b.c3;
  c4 = max_ℤ a.c4 b.c4;
  c5 = max_ℤ a.c5 b.c5;
  c6 = max_ℤ a.c6 b.c6;
  c7 = max_ℤ a.c7 b.c7;
}
