-- A walk ends: it makes no more trims than the map is wide, so none of its calls is refused as off the map or for too many folds, and a list
-- of as many places as the map is wide always finishes. Assumes nothing.
use mathlib.Core.Path.{◌≡◌, refl, sym, ◌∙◌}
use mathlib.Core.Logic.{◌↔◌}
use mathlib.Core.Bool.{true}
use Prim.Native.Nat.{ℕ, zero, suc, ◌+◌, ◌*◌, ◌<◌, ◌≤◌}
use native.Mathlib.Omega.{arith}
use borrow.Author.Tests.{leb-true, leb-false}
use lib.Dec.{leb}
use Rattle.integers.proofs.Tests.{cases}
use Rattle.octagon.specs.Octagon.{Octagon}
use Rattle.octagon.specs.Outcome.{accepted, refused}
use Rattle.octagon.specs.Cells.{limit}
use Rattle.octagon.specs.NormalForm.{normalised}
use Rattle.octagon.proofs.Outcomes.{accepted_not_refused}
use Rattle.morphology.specs.Marks.{Marked}
use Rattle.morphology.specs.Operations.{nothing_left}
use Rattle.morphology.specs.Folds.{fold_limit}
use Rattle.morphology.specs.Premises.{opened_n}
use Rattle.spectrum.specs.Walks.{Walk, WalkOf}
use Rattle.spectrum.specs.Spectra.{open_cells, spectrum}
use Rattle.spectrum.specs.Cases.{Opens, some_open, none_open}
use Rattle.spectrum.proofs.Origins.{opens, nothing_open}
use Rattle.spectrum.proofs.Frames.{Frame}
use Rattle.spectrum.proofs.Cases.{spectrum_accepted, spectrum_walk}

module _ (p f a b : Octagon) (of_p : normalised p ≡ accepted a) (of_f : Frame f b) where
  -- so many folds open something only where they are fewer than the map is wide
  pub few_open : (n : ℕ) → n ≤ fold_limit → 1 ≤ open_cells p f n → n ≤ 2 * limit
  few_open n l h =
      cases (leb n (2 * limit)) (leb-true n (2 * limit))
      (λ t. absurd (omega (arith, nothing_open p f a b n of_p of_f.normal of_f.holds_origin of_f.holds_other (leb-false n (2 * limit) t) l)))

  module _ (places : ℕ) (w : Walk) (s : WalkOf (open_cells p f) places w) where
    few_due : (n : ℕ) → n < w.trims → n ≤ 2 * limit
    few_due zero h = omega arith
    few_due (suc n) h = few_open (suc n) (omega (arith, few_due n (omega arith))) (s.due (suc n) h)

    bounded_trims : w.trims ≤ 2 * limit + 1
    bounded_trims =
        cases (leb w.trims (2 * limit + 1)) (leb-true w.trims (2 * limit + 1))
        (λ t. absurd (omega (arith, few_due (2 * limit + 1) (leb-false w.trims (2 * limit + 1) t))))

module _ (p f : Octagon) (places : ℕ) (w : Walk) (q : spectrum p f places ≡ accepted w) where
  -- no more trims than the map is wide
  pub trims_few : w.trims ≤ 2 * limit + 1
  trims_few = let s = spectrum_accepted p f places w q in bounded_trims p f s.a s.b s.of_p s.of_f places w s.is_walk

  -- each call of the walk is accepted, or leaves nothing
  pub each_opens : (n : ℕ) → n ≤ w.trims → Opens p f n (open_cells p f n)
  each_opens n l =
      let s = spectrum_accepted p f places w q in
      opens p f s.a s.b n s.of_p s.of_f.normal s.of_f.holds_origin (omega (arith, trims_few))

  -- so before the last trim each opening is handed back, and the spectrum is finished exactly where the last trim leaves nothing
  pub open_before : (n : ℕ) → n < w.trims → (m : Marked) × (opened_n p f n ≡ accepted m)
  open_before n h = go (each_opens n (omega arith)) ((spectrum_walk p f places w q).due n h)
    where
      go : {k : ℕ} → Opens p f n k → 1 ≤ k → (m : Marked) × (opened_n p f n ≡ accepted m)
      go (some_open m k e c _) l = (m, e)
      go (none_open e) l = absurd (omega arith)

  pub finished_when : (w.is_finished ≡ true) ↔ (opened_n p f w.trims ≡ refused nothing_left)
  finished_when =
      let s = spectrum_walk p f places w q in (
        λ e. left_none (each_opens w.trims (omega arith)) (s.left_nothing e),
        λ e. cases w.is_finished (λ t. t) (λ t. absurd (omega (arith, (s.left_some t).1, none_left (each_opens w.trims (omega arith)) e))),
      )
    where
      left_none : {k : ℕ} → Opens p f w.trims k → k ≡ 0 → opened_n p f w.trims ≡ refused nothing_left
      left_none (some_open m k e c l) z = absurd (omega arith)
      left_none (none_open e) z = e

      none_left : {k : ℕ} → Opens p f w.trims k → opened_n p f w.trims ≡ refused nothing_left → k ≡ 0
      none_left (some_open m k e c l) z = absurd (accepted_not_refused (sym e ∙ z))
      none_left (none_open e) z = refl

  -- a list of as many places as the map is wide always finishes
  pub enough_places : 2 * limit + 1 ≤ places → w.is_finished ≡ true
  enough_places l =
      let s = spectrum_accepted p f places w q in
      cases w.is_finished (λ e. e)
      (λ e.
      let t = s.is_walk.left_some e in
      absurd (omega (arith, t.0, few_open p f s.a s.b s.of_p s.of_f w.trims (omega (arith, trims_few)) t.1)))
