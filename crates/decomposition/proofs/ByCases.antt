-- The triangles of a split, by the eight cases of source document 000: some case fits the rest of every plot, and the triangles are those of
-- whichever case fits. Assumes nothing.
use mathlib.Core.Path.{◌≡◌, refl, sym, ◌∙◌}
use native.Mathlib.Omega.{arith}
use Rattle.octagon.specs.Octagon.{Octagon}
use Rattle.octagon.specs.Outcome.{accepted}
use Rattle.outline.specs.declared.Outline.{Outline}
use Rattle.outline.specs.Outlining.{outlined}
use Rattle.decomposition.specs.declared.Counts.{Counts}
use Rattle.decomposition.specs.declared.Split.{Split}
use Rattle.decomposition.specs.declared.pairing.Triangles.{Triangles}
use Rattle.decomposition.specs.Rule.{Last, exchange, keep, Rule}
use Rattle.decomposition.specs.Pairs.{triangles_in, a_case, fit_triangles}
use Rattle.decomposition.specs.Splitting.{rest, decomposition}
use Rattle.decomposition.specs.Meaning.{RestOf, ByCases}
use Rattle.decomposition.proofs.Sides.{makes_same}
use Rattle.decomposition.proofs.Pairs.{MakeUp, made_fits, fits_made}
use Rattle.decomposition.proofs.Found.{found}
use Rattle.decomposition.proofs.Rests.{rest_of, two_kinds_fit, forced}
use Rattle.decomposition.proofs.Choice.{rows}
use Rattle.decomposition.proofs.Decompositions.{accepted_means}

-- the last step leaves the triangles as they were
last_triangles : (m k : Counts) → Last m k → triangles_in k ≡ triangles_in m
last_triangles m k (exchange c e) = rw e refl
last_triangles m k (keep h e) = rw e refl

-- of any counts that meet the rule
pub rule_by_cases : (o : Outline) (k : Counts) → Rule o k → ByCases o k
rule_by_cases o k r =
    let m = r.before in
    let h = rows o m r.chosen in
    let s = makes_same m o r.chosen.all_sides in
    let w = r.chosen.two_kinds in
    record {
      the_rest = rest o;
      is_rest = rest_of o;
      some_fits = record { case = a_case w.pair; fit = two_kinds_fit o (rest o) m (rest_of o) h s w };
      whichever_fits = λ c f. last_triangles m k r.last ∙ forced o (rest o) m (rest_of o) h s w ∙ found c (rest o) f;
    }

-- what makes one rest of an outline makes every one
moved : (o r s : Outline) (t : Triangles) → RestOf o r → RestOf o s → MakeUp t r → MakeUp t s
moved o r s t l n e = omega arith

-- the cases give one answer
pub one_by_cases : (o : Outline) (k l : Counts) → ByCases o k → ByCases o l → triangles_in k ≡ triangles_in l
one_by_cases o k l b d =
    let c = b.some_fits.case.pair in
    let f = b.some_fits.fit in
    let e = moved o b.the_rest d.the_rest (fit_triangles f) b.is_rest d.is_rest (fits_made c b.the_rest f) in
    b.whichever_fits c f ∙ sym (d.whichever_fits c (made_fits c d.the_rest f.count_p f.count_q e))

-- of the counts that `decompose` answers, by the sides that `to_outline` answers
pub by_cases : (c : Octagon) (o : Outline) (s : Split) → outlined c ≡ accepted o → decomposition c ≡ accepted s → ByCases o s.counts
by_cases c o s e q =
    let m = accepted_means c s q in
    let same_outline : m.outline ≡ o = cc in
    rw same_outline at (rule_by_cases m.outline s.counts m.by_rule)
