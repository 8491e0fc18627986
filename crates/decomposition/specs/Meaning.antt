-- What a split means, in the words of documents 01 and 02: the records that the theorems speak of. Assumes nothing.
use Rattle.std.specs.Prelude.{◌≡◌, ◌↔◌, ℕ, ◌+◌, ◌-◌, min, ◌≤◌}
use Rattle.octagon.specs.Octagon.{Octagon}
use Rattle.octagon.specs.Outcome.{accepted}
use Rattle.octagon.specs.Cells.{◌≐◌, In}
use Rattle.outline.specs.declared.Outline.{Outline}
use Rattle.outline.specs.Outlining.{outlined}
use Rattle.decomposition.specs.declared.Counts.{Counts}
use Rattle.decomposition.specs.declared.Split.{Split}
use Rattle.decomposition.specs.Pieces.{Rebuilt}
use Rattle.decomposition.specs.Rule.{Pair, Rule}
use Rattle.decomposition.specs.Pairs.{triangles_in, CaseFits, fit_triangles, FitsSome}

-- s is the split of the bounds c
pub record SplitOf (c : Octagon) (s : Split) : Type 0 where
  -- "The answer is the start and thirteen counts": those of the outline of the bounds
  pub outline : Outline
  pub is_outline : outlined c ≡ accepted outline
  pub start_i : s.start.i ≡ outline.i
  pub start_j : s.start.j ≡ outline.j
  -- the counts meet the rule, and "one choice fits"
  pub by_rule : Rule outline s.counts
  pub one_choice : (k : Counts) → Rule outline k → k ≡ s.counts
  -- "Spreading the start cell by all counted pieces, as sets, gives exactly the plot."
  pub rebuilds : Rebuilt s ≐ In c

-- ---- the triangles, by the eight cases of source document 000

-- r is what the rows leave of o: source document 000's A(4)
pub record RestOf (o r : Outline) : Type 0 where
  pub left0 : min o.n0 o.n4 + r.n0 ≡ o.n0
  pub left1 : min o.n1 o.n5 + r.n1 ≡ o.n1
  pub left2 : min o.n2 o.n6 + r.n2 ≡ o.n2
  pub left3 : min o.n3 o.n7 + r.n3 ≡ o.n3
  pub left4 : min o.n0 o.n4 + r.n4 ≡ o.n4
  pub left5 : min o.n1 o.n5 + r.n5 ≡ o.n5
  pub left6 : min o.n2 o.n6 + r.n6 ≡ o.n6
  pub left7 : min o.n3 o.n7 + r.n7 ≡ o.n7

-- "every plot's rest fits at least one case, and .. where several fit they give the same counts": those of k
pub record ByCases (o : Outline) (k : Counts) : Type 0 where
  pub the_rest : Outline
  pub is_rest : RestOf o the_rest
  pub some_fits : FitsSome the_rest
  pub whichever_fits : {p q : ℕ} (c : Pair p q) (f : CaseFits c the_rest) → triangles_in k ≡ fit_triangles f

-- ---- when there is a K13, by the sides of the outline alone

-- a rectangle of diagonal sides, each of them at least one step long: the outline of some K2, some K4 and nothing else
pub record DiagonalRectangle (o : Outline) : Type 0 where
  pub no_n0 : o.n0 ≡ 0
  pub no_n2 : o.n2 ≡ 0
  pub no_n4 : o.n4 ≡ 0
  pub no_n6 : o.n6 ≡ 0
  pub rising : o.n1 ≡ o.n5
  pub falling : o.n3 ≡ o.n7
  pub some_rising : 1 ≤ o.n1
  pub some_falling : 1 ≤ o.n3

-- where there is a K13, one K2 and one K4 are taken for it, and there is nothing else
pub record BesideK13 (o : Outline) (k : Counts) : Type 0 where
  pub k2_less_one : k.k2 ≡ o.n1 - 1
  pub k4_less_one : k.k4 ≡ o.n3 - 1
  pub no_k1 : k.k1 ≡ 0
  pub no_k3 : k.k3 ≡ 0
  pub no_k5 : k.k5 ≡ 0
  pub no_k6 : k.k6 ≡ 0
  pub no_k7 : k.k7 ≡ 0
  pub no_k8 : k.k8 ≡ 0
  pub no_k9 : k.k9 ≡ 0
  pub no_k10 : k.k10 ≡ 0
  pub no_k11 : k.k11 ≡ 0
  pub no_k12 : k.k12 ≡ 0

-- where there is none, "k1 to k4 are the smaller of n0 and n4, n1 and n5, n2 and n6, n3 and n7"
pub record SmallerSides (o : Outline) (k : Counts) : Type 0 where
  pub smaller1 : k.k1 ≡ min o.n0 o.n4
  pub smaller2 : k.k2 ≡ min o.n1 o.n5
  pub smaller3 : k.k3 ≡ min o.n2 o.n6
  pub smaller4 : k.k4 ≡ min o.n3 o.n7

-- of the counts k of the outline o
pub record K13Exactly (o : Outline) (k : Counts) : Type 0 where
  pub at_most_one : k.k13 ≤ 1
  pub one_exactly : (k.k13 ≡ 1) ↔ DiagonalRectangle o
  pub where_one : k.k13 ≡ 1 → BesideK13 o k
  pub where_none : k.k13 ≡ 0 → SmallerSides o k
