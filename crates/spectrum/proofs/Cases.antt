-- The answers of `pattern_spectrum`, each with the case of document 02 in which it is given, and in no other. Assumes nothing.
use mathlib.Core.Path.{◌≡◌, refl, sym, ap}
use mathlib.Core.Logic.{◌↔◌}
use mathlib.Core.Bool.{Bool, true, false, cond}
use Prim.Native.Nat.{ℕ}
use Rattle.integers.proofs.Tests.{true_is_not_false}
use Rattle.octagon.specs.Octagon.{Octagon}
use Rattle.octagon.specs.Outcome.{Outcome, accepted, refused, then}
use Rattle.octagon.specs.Cells.{In}
use Rattle.octagon.specs.NormalForm.{normalised}
use Rattle.octagon.proofs.Outcomes.{then_accepted, accepted_same}
use Rattle.octagon.proofs.NormalForms.{normalised_again}
use Rattle.cell_count.specs.Area.{area}
use Rattle.cell_count.proofs.Counted.{own_count, area_some}
use Rattle.morphology.specs.Cases.{Answers, Check, fails, passes}
use Rattle.morphology.proofs.SetLaws.{same_refl}
use Rattle.morphology.proofs.Operands.{judged}
use Rattle.morphology.proofs.Checks.{One, check_one, operands_one, exactly}
use Rattle.morphology.proofs.FewFolds.{opened_none}
use Rattle.spectrum.specs.Walks.{Walk, spent, walk, WalkOf}
use Rattle.spectrum.specs.Spectra.{no_origin, no_other_cell, has_origin, has_one_cell, frame_tested, frame_form, open_cells, spectrum}
use Rattle.spectrum.specs.Cases.{Walking, walking, Measuring}
use Rattle.spectrum.proofs.Walks.{walk_of}
use Rattle.spectrum.proofs.Once.{walk_once}
use Rattle.spectrum.proofs.Frames.{origin_test, alone_test, Frame, frame_of}

module _ (p f a b : Octagon) (of_p : normalised p ≡ accepted a) (of_f : normalised f ≡ accepted b) where
  -- by no folds the plot's own cells are open
  pub open_none : open_cells p f 0 ≡ area a
  unfolding open_cells
  open_none = rw (opened_none p f a b of_p of_f, own_count a (normalised_again p a of_p)) refl

  pub walks_from_plot : (places : ℕ) → WalkOf (open_cells p f) places (walk (open_cells p f) places 0 (area a))
  walks_from_plot places = rw (open_none) at (walk_of (open_cells p f) places (rw open_none (area_some p a of_p)))

-- the frame's two checks by their tests, with k for what comes after them
frame_checks : {C : Answers Walk} {T U : Type 0} (b : Octagon) (k : Octagon → Outcome Walk) (s t : Bool) →
    (s ≡ true) ↔ T → (s ≡ true → (t ≡ true) ↔ U) → C (k b) →
    Check (¬ T) no_origin (Check U no_other_cell C) (then (cond s (cond t (refused no_other_cell) (accepted b)) (refused no_origin)) k)
frame_checks b k true true e h c = passes (λ n. n (e.0 refl)) (fails ((h refl).0 refl))
frame_checks b k true false e h c = passes (λ n. n (e.0 refl)) (passes (λ u. true_is_not_false (sym ((h refl).1 u))) c)
frame_checks b k false t e h c = fails (λ i. true_is_not_false (sym (e.1 i)))

module _ (p f : Octagon) (places : ℕ) where
  -- the walk from so many cells
  from : ℕ → Outcome Walk
  from still = accepted (walk (open_cells p f) places 0 still)

  -- one of the cases holds of any plot, any frame and any list
  pub measured : Measuring p f places (spectrum p f places)
  unfolding spectrum frame_form from
  measured =
      judged p (λ o. then o (λ a. then (frame_form f) (λ _. from (area a)))) (same_refl (In p)) refl refl
      (λ a q.
      judged f (λ o. then (then o frame_tested) (λ _. from (area a))) (same_refl (In f)) refl refl
      (λ b r.
      frame_checks b (λ _. from (area a)) (has_origin b) (has_one_cell b) (origin_test f b r) (λ t. alone_test f b r ((origin_test f b r).0 t))
      (walking (walks_from_plot p f a b q r places))))

  walking_one : One (Walking p f places)
  walking_one o q (walking {w = v} s) (walking {w = w} t) = ap accepted (walk_once v w s t)

  -- and each answer is given exactly where its case holds
  pub spectrum_exactly : (o : Outcome Walk) → (spectrum p f places ≡ o) ↔ Measuring p f places o
  spectrum_exactly = exactly (spectrum p f places) (operands_one (check_one (check_one walking_one))) measured

-- ---- a spectrum that is accepted

-- the operands' normal forms, and what the walk is
pub record Measured (p f : Octagon) (places : ℕ) (w : Walk) : Type 0 where
  pub a : Octagon
  pub b : Octagon
  pub of_p : normalised p ≡ accepted a
  pub of_f : Frame f b
  pub is_walk : WalkOf (open_cells p f) places w

pub spectrum_accepted : (p f : Octagon) (places : ℕ) (w : Walk) → spectrum p f places ≡ accepted w → Measured p f places w
unfolding spectrum
spectrum_accepted p f places w q =
    let s = then_accepted (normalised p) _ w q in
    let t = then_accepted (frame_form f) _ w s.second in
    let r = frame_of f t.between t.first in
    record {
      a = s.between;
      b = t.between;
      of_p = s.first;
      of_f = r;
      is_walk = rw (accepted_same t.second) at (walks_from_plot p f s.between t.between s.first r.normal places);
    }

pub spectrum_walk : (p f : Octagon) (places : ℕ) (w : Walk) → spectrum p f places ≡ accepted w → WalkOf (open_cells p f) places w
spectrum_walk p f places w q = (spectrum_accepted p f places w q).is_walk

-- "A list of length 0 is spent at 0."
pub no_places : (p f : Octagon) (w : Walk) → spectrum p f 0 ≡ accepted w → w ≡ spent
unfolding walk
no_places p f w q =
    let s = spectrum_accepted p f 0 w q in
    walk_once w spent s.is_walk (walks_from_plot p f s.a s.b s.of_p s.of_f.normal 0)
