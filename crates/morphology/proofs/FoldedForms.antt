-- n trims and then n spreads, from the normal form of the element: the octagon that they hand back is what is left with n times the
-- element's bounds added, and fits an i32. Assumes nothing.
use mathlib.Core.Path.{◌≡◌, sym, ◌∙◌, ap, ap₂}
use Prim.Native.Nat.{ℕ}
use mir.Syntax.{w32}
use Rattle.octagon.specs.Octagon.{Octagon}
use Rattle.octagon.specs.Outcome.{accepted}
use Rattle.octagon.specs.NormalForm.{normalised}
use Rattle.octagon.specs.Widths.{Held}
use Rattle.octagon.proofs.Map.{near_held}
use Rattle.octagon.proofs.NormalForms.{accepted_normal, accepted_near}
use Rattle.octagon.proofs.Outcomes.{accepted_same}
use Rattle.morphology.specs.Marks.{Marked, unmarked}
use Rattle.morphology.specs.Operations.{sums}
use Rattle.morphology.specs.Folds.{multiples, erosion_n}
use Rattle.morphology.specs.Premises.{opened_n}
use Rattle.morphology.proofs.Checks.{passing, passed, later, operand_passes}
use Rattle.morphology.proofs.Handed.{not_empty, stays, represents_covers, own_form, spreads_accepted}
use Rattle.morphology.proofs.Dilations.{accepted_sum, dilation_n_accepted}
use Rattle.morphology.proofs.Erosions.{erosion_n_exactly, erosion_n_accepted}
use Rattle.morphology.proofs.Openings.{opening_times}

module _ (p f : Octagon) (n : ℕ) (e : Octagon) (q : erosion_n p f n ≡ accepted e) where
  -- where n trims leave something, the n spreads of it are accepted: they lie in the plot
  spreads_back : (m : Marked) × (opened_n p f n ≡ accepted m)
  spreads_back =
      let c = (erosion_n_exactly p f n (accepted e)).0 q in
      let of_p = later c in
      let of_f = later (later of_p) in
      let r = erosion_n_accepted p f n e q in
      spreads_accepted (passing (stays r) (passing (not_empty r) (operand_passes of_f (operand_passes of_p (passing (passed c) (opening_times p f n))))))

  -- and the octagon is what is left, with n times the element's bounds added
  pub opened_sums : (b : Octagon) → normalised f ≡ accepted b → unmarked (opened_n p f n) ≡ accepted (sums e (multiples n b))
  opened_sums b h =
      let m = spreads_back in
      let s = accepted_sum e f n m.0 (rw q at m.1) in
      let own = own_form (represents_covers (erosion_n_accepted p f n e q)) in
      rw m.1 (ap accepted (s.is_sums ∙ ap₂ (λ x y. sums x (multiples n y)) (accepted_same (sym s.operands.of_p ∙ own)) (accepted_same (sym s.operands.of_f ∙ h))))

  -- which is its own normal form, and fits an i32
  pub opened_form : (b : Octagon) → normalised f ≡ accepted b → normalised (sums e (multiples n b)) ≡ accepted (sums e (multiples n b))
  opened_form b h =
      let m = spreads_back in
      rw (accepted_same (sym (ap unmarked m.1) ∙ opened_sums b h)) at (own_form (dilation_n_accepted e f n m.0 (rw q at m.1)).covers)

  pub opened_held : (b : Octagon) → normalised f ≡ accepted b → Held w32 (sums e (multiples n b))
  opened_held b h =
      let s = sums e (multiples n b) in
      let own = opened_form b h in
      near_held s (accepted_normal s s own) (accepted_near s s own)
