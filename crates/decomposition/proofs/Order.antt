-- A set that is dilated by first can as well be dilated by last. Assumes nothing.
use mathlib.Core.List.{List, [], ◌∷◌}
use Prim.Native.Nat.{ℕ}
use Rattle.octagon.specs.Cells.{Cells, ◌≐◌}
use Rattle.outline.specs.declared.Outline.{Outline}
use Rattle.outline.specs.Walk.{InsideWalk}
use Rattle.morphology.specs.Sets.{DilatedTimes}
use Rattle.morphology.proofs.SetLaws.{same_refl, same_trans, dilated_times_same, past}
use Rattle.decomposition.specs.Pieces.{DilatedByEach}

-- ---- sets with the same cells

each_same : {A C : Cells} (ks : List ℕ) (ps : List Outline) → A ≐ C → DilatedByEach ks ps A ≐ DilatedByEach ks ps C
each_same [] ps e = e
each_same (k ∷ ks) [] e = e
each_same {A = A} {C = C} (k ∷ ks) (p ∷ ps) e =
    each_same {A = DilatedTimes k A (InsideWalk p)} {C = DilatedTimes k C (InsideWalk p)} ks ps (dilated_times_same k e (same_refl (InsideWalk p)))

-- ---- the order of two sets is free

pub put_last : (A B : Cells) (k : ℕ) (ms : List ℕ) (qs : List Outline) →
    DilatedByEach ms qs (DilatedTimes k A B) ≐ DilatedTimes k (DilatedByEach ms qs A) B
put_last A B k [] qs = same_refl (DilatedTimes k A B)
put_last A B k (m ∷ ms) [] = same_refl (DilatedTimes k A B)
put_last A B k (m ∷ ms) (q ∷ qs) =
    same_trans (each_same ms qs (past A (InsideWalk q) B m k)) (put_last (DilatedTimes m A (InsideWalk q)) B k ms qs)
