-- The split, in the words of document 01: what is accepted, what it rebuilds, and what each refusal says. Assumes nothing.
use mathlib.Core.Path.{◌≡◌, refl, sym, ◌∙◌}
use mathlib.Core.Logic.{◌↔◌}
use Prim.Native.Nat.{ℕ}
use Rattle.octagon.specs.Octagon.{Octagon}
use Rattle.octagon.specs.Outcome.{Outcome, accepted, refused, no_cell, off_map}
use Rattle.octagon.specs.Cells.{◌⊆◌, Empty, Some, In, OnMap, LeavesMap}
use Rattle.octagon.specs.NormalForm.{normalised}
use Rattle.octagon.proofs.Outcomes.{accepted_not_refused, map_accepted, map_refused}
use Rattle.octagon.proofs.NormalForms as normal
use Rattle.outline.specs.declared.Outline.{Outline}
use Rattle.outline.specs.Outlining.{outlined}
use Rattle.outline.proofs.Tracings as tracings
use Rattle.outline.proofs.RoundTrips.{outline_octagon, outlined_refusals}
use Rattle.morphology.proofs.SetLaws.{same_trans}
use Rattle.decomposition.specs.declared.Split.{Split}
use Rattle.decomposition.specs.Splitting.{counts, split_of, decomposition}
use Rattle.decomposition.specs.Meaning.{SplitOf}
use Rattle.decomposition.proofs.Choice.{one_choice}
use Rattle.decomposition.proofs.Rebuilding.{rebuild}

outline_split : (c : Octagon) (o : Outline) → outlined c ≡ accepted o → SplitOf c (split_of o)
unfolding split_of
outline_split c o e =
    let r = outline_octagon c o e in
    let a = r.0 in
    let m = normal.accepted_means c a r.1 in
    let t = tracings.accepted_means o a r.2 in
    record {
      outline = o;
      is_outline = e;
      start_i = refl;
      start_j = refl;
      by_rule = (one_choice o t.closed (counts o)).1 refl;
      one_choice = λ k h. (one_choice o t.closed k).0 h;
      rebuilds = same_trans (rw (tracings.accepted_drawn o a r.2) (rebuild o t.closed)) m.cells;
    }

pub accepted_means : (c : Octagon) (s : Split) → decomposition c ≡ accepted s → SplitOf c s
unfolding decomposition
accepted_means c s q = let m = map_accepted (outlined c) split_of s q in rw m.2 at (outline_split c m.0 m.1)

-- "Split. Normalise's refusals."
pub refused_as : (c : Octagon) (n : ℕ) → (decomposition c ≡ refused n) ↔ (normalised c ≡ refused n)
unfolding decomposition
refused_as c n =
    let m = map_refused (outlined c) split_of n in
    let o = outlined_refusals c n in
    (λ q. o.0 (m.0 q), λ q. m.1 (o.1 q))

-- 1 exactly where no cell is within the bounds
pub refused_no_cell : (c : Octagon) → (decomposition c ≡ refused no_cell) ↔ Empty (In c)
refused_no_cell c =
    let r = refused_as c no_cell in
    let e = normal.refused_no_cell c in
    (λ q. e.0 (r.0 q), λ h. r.1 (e.1 h))

-- 2 exactly where some cell within the bounds is off the map
pub refused_off_map : (c : Octagon) → (decomposition c ≡ refused off_map) ↔ LeavesMap (In c)
refused_off_map c =
    let r = refused_as c off_map in
    let e = normal.refused_off_map c in
    (λ q. e.0 (r.0 q), λ h. r.1 (e.1 h))

-- and all other bounds have a split
pub accepted_when : (c : Octagon) → Some (In c) → In c ⊆ OnMap → (s : Split) × (decomposition c ≡ accepted s)
accepted_when c h m = go (decomposition c) refl
  where
    go : (t : Outcome Split) → decomposition c ≡ t → (s : Split) × (decomposition c ≡ accepted s)
    go (accepted s) q = (s, q)
    go (refused n) q = absurd (accepted_not_refused (sym (normal.accepted_when c h m).1 ∙ (refused_as c n).0 q))
