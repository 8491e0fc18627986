-- The decomposition of an octagon: definitions that compute. proofs/Decompositions.antt says what they mean. Assumes nothing.
use Rattle.std.specs.Prelude.{Bool, cond, ◌&&◌, ◌-◌, min, ltb, eqb, pos}
use Rattle.octagon.specs.Octagon.{Octagon}
use Rattle.octagon.specs.Outcome.{Outcome, accepted, then}
use Rattle.outline.specs.declared.Outline.{Outline}
use Rattle.outline.specs.Outlining.{outlined}
use Rattle.decomposition.specs.declared.Counts.{Counts}
use Rattle.decomposition.specs.declared.Split.{Split}
use Rattle.decomposition.specs.declared.pairing.Triangles.{Triangles}
use Rattle.decomposition.specs.Rule.{others, exchanged}
use Rattle.decomposition.specs.Pairs.{rows_and_triangles, triangles_of}

-- what the opposite sides leave of an outline: source document 000's A(4)
unfoldable pub rest : Outline → Outline
rest o = record {
  i = pos 0;
  j = pos 0;
  n0 = o.n0 - o.n4;
  n1 = o.n1 - o.n5;
  n2 = o.n2 - o.n6;
  n3 = o.n3 - o.n7;
  n4 = o.n4 - o.n0;
  n5 = o.n5 - o.n1;
  n6 = o.n6 - o.n2;
  n7 = o.n7 - o.n3;
}

-- the rows of an outline, and triangles
unfoldable pub with_rows : Outline → Triangles → Counts
with_rows o t = rows_and_triangles (min o.n0 o.n4) (min o.n1 o.n5) (min o.n2 o.n6) (min o.n3 o.n7) t

-- the counts before the last step
unfoldable pub first_counts : Outline → Counts
first_counts o = with_rows o (triangles_of (rest o))

-- the last step
unfoldable pub is_crossed : Counts → Bool
is_crossed k = ltb 0 k.k2 && ltb 0 k.k4 && eqb (others k) 0

unfoldable pub with_k13 : Counts → Counts
with_k13 k = cond (is_crossed k) (exchanged k) k

-- the counts of an outline
unfoldable pub counts : Outline → Counts
counts o = with_k13 (first_counts o)

unfoldable pub split_of : Outline → Split
split_of o = record { start = record { i = o.i; j = o.j }; counts = counts o }

-- what `decompose` answers
unfoldable pub decomposition : Octagon → Outcome Split
decomposition c = then (outlined c) (λ o. accepted (split_of o))
