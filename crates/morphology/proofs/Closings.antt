-- The answers of `closing`, each with the case of documents 01 and 02 in which it is given: what a dilation gave, exact or filled, of one fold
-- or of n, is the first operand's normal form once it is eroded as often. Assumes nothing.
use mathlib.Core.Path.{◌≡◌, refl, sym, ◌∙◌}
use mathlib.Core.Logic.{◌↔◌}
use mathlib.Core.Bool.{true}
use Prim.Native.Nat.{ℕ}
use native.Mathlib.Omega.{arith}
use Rattle.octagon.specs.Octagon.{Octagon}
use Rattle.octagon.specs.Outcome.{Outcome, accepted, refused, then}
use Rattle.octagon.specs.Cells.{◌≐◌, Some, In, Represents}
use Rattle.octagon.specs.NormalForm.{normal_form, normalised}
use Rattle.octagon.proofs.Within.{Normal}
use Rattle.octagon.proofs.NormalForms.{accepted_means, normalised_again}
use Rattle.morphology.specs.Sets.{Dilated, Closed, OpposedRows}
use Rattle.morphology.specs.Marks.{Marked, exact, filled}
use Rattle.morphology.specs.Operations.{sums, nothing_left, dilation, erosion}
use Rattle.morphology.specs.Folds.{multiples, dilation_n, erosion_n, marked_erosion, closed}
use Rattle.morphology.specs.Cases.{says_exact, says_filled, Spreads, StaysExact, Closing}
use Rattle.morphology.proofs.Sums.{sums_hold}
use Rattle.morphology.proofs.Differences.{sums_back, differences_exact}
use Rattle.morphology.proofs.SetLaws.{same_refl, same_sym, same_trans, same_some, dilated_same, eroded_mono, eroded_same, adjunction}
use Rattle.morphology.proofs.Checks.{later, skip, after_operands, skip_operands, onward, onward_operands, check_one, operands_one, exactly}
use Rattle.morphology.proofs.Handed.{own_form, represents_same, says_not_refused, stays_exact_one, stays_exact_known}
use Rattle.morphology.proofs.Operands.{form_of}
use Rattle.morphology.proofs.FewFolds.{dilation_one, erosion_one}
use Rattle.morphology.proofs.Dilations.{dilation_n_accepted, Sum, accepted_sum, dilating}

-- ---- the set

-- an octagon closed by normal bounds has its own cells: the element fits into the sums of bounds at these cells alone, and so into the sums
-- of cells
closed_by_form : (p b : Octagon) → Normal b → Closed (In p) (In b) ≐ In p
closed_by_form p b n x y = (to, (adjunction (In p) (Dilated (In p) (In b)) (In b)).0 (λ v w i. i) x y)
  where
    to : Closed (In p) (In b) x y → In p x y
    to c =
        rw (sums_back p b) at
        ((differences_exact (sums p b) b n x y).1 (eroded_mono {A = Dilated (In p) (In b)} {B = In b} {C = In (sums p b)} {D = In b} (sums_hold (λ v w i. i) (λ v w i. i)) (λ v w i. i) x y c))

-- closed by any octagon that holds a cell, opposed rows among them
pub closed_own : (p f : Octagon) → Some (In f) → Closed (In p) (In f) ≐ In p
closed_own p f s =
    let k = form_of f s in
    let e = same_sym k.cells in
    same_trans (eroded_same (dilated_same (same_refl (In p)) e) e) (closed_by_form p (normal_form f) k.normal)

-- ---- the call

-- what an accepted n-fold dilation hands back, exact or filled, eroded n times by the same element
pub erosion_n_of_dilation : (p f : Octagon) (n : ℕ) (d : Marked) → dilation_n p f n ≡ accepted d → erosion_n d.octagon f n ≡ normalised p
unfolding erosion_n
erosion_n_of_dilation p f n d q = go (own_form (dilation_n_accepted p f n d q).covers) (accepted_sum p f n d q)
  where
    go : normalised d.octagon ≡ accepted d.octagon → Sum p f n d.octagon → erosion_n d.octagon f n ≡ normalised p
    go e s =
        let h = s.operands in
        rw (s.few, e, h.of_f, s.is_sums, sums_back s.a (multiples n s.b), normalised_again p s.a h.of_p, h.of_p) refl

-- once
pub erosion_of_dilation : (p f : Octagon) (d : Marked) → dilation p f ≡ accepted d → erosion d.octagon f ≡ normalised p
erosion_of_dilation p f d q = sym (erosion_one d.octagon f) ∙ erosion_n_of_dilation p f 1 d (dilation_one p f ∙ q)

module _ (p f : Octagon) where
  -- so the erosion is accepted, with the cells of definition 2.15
  abbrev Eroded_again : Marked → Type 0
  Eroded_again d = (a : Octagon) × ((erosion d.octagon f ≡ accepted a) × Represents a (Closed (In p) (In f)))

  again : (d : Marked) → dilation p f ≡ accepted d → Eroded_again d
  again d q =
      let s = accepted_sum p f 1 d (dilation_one p f ∙ q) in
      let h = s.operands in
      let r = accepted_means f s.b h.of_f in
      let c = closed_own p f (same_some r.cells r.is_normalised.some) in
      (s.a, (erosion_of_dilation p f d q ∙ h.of_p, represents_same (same_sym c) (accepted_means p s.a h.of_p)))

  -- and takes the dilation's mark over
  eroded : {o : Outcome Marked} → dilation p f ≡ o → Spreads (OpposedRows (In p) (In f)) (Dilated (In p) (In f)) o →
      StaysExact (OpposedRows (In p) (In f)) (Closed (In p) (In f)) (then o (λ d. marked_erosion d f))
  eroded q (says_exact {a = d} n _) = let g = again (exact d) q in rw g.1.0 (says_exact n g.1.1)
  eroded q (says_filled {a = d} t _) = let g = again (filled d) q in rw g.1.0 (says_filled t g.1.1)

  -- one of the cases holds of any operands
  closing : Closing p f (closed p f)
  unfolding closed
  closing =
      let g : Marked → Outcome Marked = λ d. marked_erosion d f in
      onward_operands g (λ _ _ _ _. onward g (λ _. eroded refl)) (dilating p f)

  -- and each answer is given exactly where its case holds
  pub closing_exactly : (o : Outcome Marked) → (closed p f ≡ o) ↔ Closing p f o
  closing_exactly = exactly (closed p f) (operands_one (check_one stays_exact_one)) closing

  -- accepted, whatever the mark: the cells of definition 2.15; normalised, and on the map. Filled exactly where opposed rows were dilated
  pub closing_accepted : (m : Marked) → closed p f ≡ accepted m → Represents m.octagon (Closed (In p) (In f)) × ((m.is_filled ≡ true) ↔ OpposedRows (In p) (In f))
  closing_accepted m q = stays_exact_known m (later (after_operands ((closing_exactly (accepted m)).0 q)))

  -- a closing never says that nothing is left
  pub closing_never_nothing : ¬ (closed p f ≡ refused nothing_left)
  closing_never_nothing q = says_not_refused (skip (λ e. omega arith) (skip_operands (omega arith) ((closing_exactly (refused nothing_left)).0 q)))
