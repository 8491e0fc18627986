-- Opening and closing from the normal forms of their operands: what the first step hands back is its own normal form, so the second needs no
-- other. Assumes nothing.
use mathlib.Core.Path.{◌≡◌, refl, sym, ◌∙◌, ap}
use Rattle.octagon.specs.Octagon.{Octagon}
use Rattle.octagon.specs.Outcome.{Outcome, accepted, refused, then}
use Rattle.octagon.specs.NormalForm.{normalised}
use Rattle.octagon.proofs.Outcomes.{accepted_not_refused}
use Rattle.octagon.proofs.NormalForms.{normalised_again}
use Rattle.morphology.specs.Marks.{Marked, marked}
use Rattle.morphology.specs.Operations.{differences, fitting, dilation_of_forms, dilation, erosion_of_forms, erosion, opened}
use Rattle.morphology.specs.Folds.{marked_erosion, closed}
use Rattle.morphology.proofs.Handed.{own_form}
use Rattle.morphology.proofs.Operands.{Accepted}
use Rattle.morphology.proofs.Dilations.{dilation_accepted}

-- an octagon that fits is a normal form
fitting_accepted : (o : Outcome Octagon) (e : Octagon) → fitting o ≡ accepted e → o ≡ accepted e
fitting_accepted (accepted a) e q = q
fitting_accepted (refused k) e q = absurd (accepted_not_refused (sym q))

module _ {p f a b : Octagon} (h : Accepted p f a b) where
  -- the calls on their operands' normal forms
  dilation_is : dilation p f ≡ dilation_of_forms a b
  unfolding dilation
  dilation_is = rw (h.of_p, h.of_f) refl

  erosion_is : erosion p f ≡ erosion_of_forms a b
  unfolding erosion
  erosion_is = rw (h.of_p, h.of_f) refl

  -- what an erosion left, or a dilation gave, is a first operand that is its own form
  pub eroded_form : {e : Octagon} → erosion_of_forms a b ≡ accepted e → Accepted e f e b
  eroded_form {e} q =
      record { of_p = normalised_again (differences a b) e (fitting_accepted (normalised (differences a b)) e q); of_f = h.of_f }

  pub dilated_form : {m : Marked} → dilation_of_forms a b ≡ accepted m → Accepted m.octagon f m.octagon b
  dilated_form {m} q = record { of_p = own_form (dilation_accepted p f m (dilation_is ∙ q)).covers; of_f = h.of_f }

module _ {p f a b : Octagon} (h : Accepted p f a b) where
  pub opened_forms : opened p f ≡ then (erosion_of_forms a b) (λ e. dilation_of_forms e b)
  unfolding opened
  opened_forms = ap (λ o. then o (λ e. dilation e f)) (erosion_is h) ∙ go (erosion_of_forms a b) refl
    where
      go : (o : Outcome Octagon) → erosion_of_forms a b ≡ o → then o (λ e. dilation e f) ≡ then o (λ e. dilation_of_forms e b)
      go (accepted e) q = dilation_is (eroded_form h q)
      go (refused k) q = refl

  pub closed_forms : closed p f ≡ then (dilation_of_forms a b) (λ d. marked d.is_filled (erosion_of_forms d.octagon b))
  unfolding closed
  closed_forms = ap (λ o. then o (λ d. marked_erosion d f)) (dilation_is h) ∙ go (dilation_of_forms a b) refl
    where
      go : (o : Outcome Marked) → dilation_of_forms a b ≡ o →
          then o (λ d. marked_erosion d f) ≡ then o (λ d. marked d.is_filled (erosion_of_forms d.octagon b))
      go (accepted d) q = ap (marked d.is_filled) (erosion_is (dilated_form h q))
      go (refused k) q = refl
