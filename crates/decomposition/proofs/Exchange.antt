-- When there is a K13, by the sides of the outline alone: where they are those of a diagonal rectangle, and nowhere else. Assumes nothing.
use mathlib.Core.Path.{◌≡◌}
use native.Mathlib.Omega.{arith}
use Rattle.octagon.specs.Octagon.{Octagon}
use Rattle.octagon.specs.Outcome.{accepted}
use Rattle.outline.specs.declared.Outline.{Outline}
use Rattle.outline.specs.Outlining.{outlined}
use Rattle.outline.specs.Sameness.{SameSides}
use Rattle.decomposition.specs.declared.Counts.{Counts}
use Rattle.decomposition.specs.declared.Split.{Split}
use Rattle.decomposition.specs.Rule.{Chosen, Crossed, exchanged, Last, exchange, keep, Rule}
use Rattle.decomposition.specs.Pairs.{made}
use Rattle.decomposition.specs.Splitting.{decomposition}
use Rattle.decomposition.specs.Meaning.{DiagonalRectangle, K13Exactly}
use Rattle.decomposition.proofs.Sides.{makes_same}
use Rattle.decomposition.proofs.Decompositions.{accepted_means}

-- ---- the last step

module _ (o : Outline) (m : Counts) (f : Chosen o m) where
  same : SameSides (made m) o
  same = makes_same m o f.all_sides

  -- K2 and K4 alone have the sides of a diagonal rectangle
  crossed_rectangle : Crossed m → DiagonalRectangle o
  crossed_rectangle c = let s = same in omega arith

  -- and nothing else has
  rectangle_crossed : DiagonalRectangle o → Crossed m
  rectangle_crossed d = let s = same in omega arith

  exchanged_exactly : Crossed m → K13Exactly o (exchanged m)
  exchanged_exactly c =
      let s = same in
      record {
        at_most_one = omega arith;
        one_exactly = (λ e. crossed_rectangle c, λ d. omega arith);
        where_one = λ e. omega arith;
        where_none = λ e. omega arith;
      }

  kept_exactly : ¬ (Crossed m) → K13Exactly o m
  kept_exactly n = record {
    at_most_one = omega arith;
    one_exactly = (λ e. omega arith, λ d. absurd (n (rectangle_crossed d)));
    where_one = λ e. omega arith;
    where_none = λ e. omega arith;
  }

-- ---- the rule, and the answers

-- of all counts that the rule takes
pub rule_exactly : (o : Outline) (k : Counts) → Rule o k → K13Exactly o k
rule_exactly o k r = go r.last
  where
    go : Last r.before k → K13Exactly o k
    go (exchange c e) = rw e (exchanged_exactly o r.before r.chosen c)
    go (keep h e) = rw e (kept_exactly o r.before r.chosen h)

-- of the counts that `decompose` answers, by the sides that `to_outline` answers
pub k13_exactly : (c : Octagon) (o : Outline) (s : Split) → outlined c ≡ accepted o → decomposition c ≡ accepted s → K13Exactly o s.counts
k13_exactly c o s e q =
    let m = accepted_means c s q in
    let same_outline : m.outline ≡ o = cc in
    rw same_outline at (rule_exactly m.outline s.counts m.by_rule)
