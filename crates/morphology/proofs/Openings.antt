-- The answers of `opening`, each with the case of documents 01 and 02 in which it is given; and those of an n-fold erosion and then an n-fold
-- dilation, of which one fold is an opening. Assumes nothing.
use mathlib.Core.Path.{◌≡◌, ◌∙◌}
use mathlib.Core.Logic.{◌↔◌}
use mathlib.Core.Bool.{true}
use Prim.Native.Nat.{ℕ, ◌≤◌}
use native.Mathlib.Omega.{arith}
use Rattle.octagon.specs.Octagon.{Octagon}
use Rattle.octagon.specs.Outcome.{Outcome, accepted, then}
use Rattle.octagon.specs.Cells.{Empty, In, LeavesMap}
use Rattle.octagon.proofs.Outcomes.{Through, then_accepted}
use Rattle.octagon.proofs.Smallest.{some_in}
use Rattle.morphology.specs.Sets.{Eroded, Opened, ErodedTimes, OpenedTimes, OpposedRows}
use Rattle.morphology.specs.Marks.{Marked}
use Rattle.morphology.specs.Operations.{dilation, erosion, opened}
use Rattle.morphology.specs.Folds.{fold_limit, dilation_n, erosion_n}
use Rattle.morphology.specs.Premises.{opened_n}
use Rattle.morphology.specs.Cases.{Stands, stands, NoOctagon, Spreads, Spreading, Opening, OpeningTimes}
use Rattle.morphology.proofs.SetLaws.{same_refl, same_sym, same_trans, dilated_times_same, leaves_same}
use Rattle.morphology.proofs.OpenedSets.{opened_times_inside}
use Rattle.morphology.proofs.Checks.{passing, later, after, on_both, after_operands, onward, onward_operands, check_one, operands_one, exactly}
use Rattle.morphology.proofs.Handed.{not_empty, stays, itself, spreads_one, spreads_same, spreading, filled_exactly}
use Rattle.morphology.proofs.Pairings.{opposed_same}
use Rattle.morphology.proofs.FoldedRows.{opposed_times_no_octagon}
use Rattle.morphology.proofs.FewFolds.{opened_one}
use Rattle.morphology.proofs.Dilations.{dilating_times}
use Rattle.morphology.proofs.Erosions.{eroding_times, erosion_n_accepted}

-- ---- n folds

module _ (p f : Octagon) (n : ℕ) where
  -- the dilation of what the erosion left
  dilated : n ≤ fold_limit → ¬ (LeavesMap (In p)) → ¬ (Empty (In f)) → ¬ (LeavesMap (In f)) → {o : Outcome Octagon} → Stands (ErodedTimes n (In p) (In f)) o →
      Spreads ((1 ≤ n) × OpposedRows (ErodedTimes n (In p) (In f)) (In f)) (OpenedTimes n (In p) (In f)) (then o (λ e. dilation_n e f n))
  dilated l i s t (stands {a = e} r) =
      let c = r.cells in
      let d = dilated_times_same n c (same_refl (In f)) in
      spreads_same
      (λ h. (h.0, opposed_same c (same_refl (In f)) h.1), λ h. (h.0, opposed_same (same_sym c) (same_refl (In f)) h.1)) d
      (passing (λ q. i (some_in (opened_times_inside n (In p) (In f)) (leaves_same d q)))
      (passing t (passing s (passing (stays (itself r)) (passing (not_empty (itself r)) (passing (λ m. omega arith) (dilating_times e f n)))))))

  -- one of the cases holds of any operands and any n
  pub opening_times : OpeningTimes p f n (opened_n p f n)
  opening_times =
      let g : Octagon → Outcome Marked = λ e. dilation_n e f n in
      onward g (λ l. onward_operands g (λ _ i s t. onward g (λ _. onward g (λ _. dilated (omega arith) i s t)))) (eroding_times p f n)

  -- and each answer is given exactly where its case holds
  pub opened_n_exactly : (o : Outcome Marked) → (opened_n p f n ≡ o) ↔ OpeningTimes p f n o
  opened_n_exactly = exactly (opened_n p f n) (check_one (operands_one (check_one (check_one spreads_one)))) opening_times

  -- accepted: exact, the set opened by n folds; filled, the smallest octagon that holds it; normalised, and on the map
  pub opened_n_accepted : (m : Marked) → opened_n p f n ≡ accepted m →
      Spreading ((1 ≤ n) × OpposedRows (ErodedTimes n (In p) (In f)) (In f)) (OpenedTimes n (In p) (In f)) m
  opened_n_accepted m q = spreading m (later (later (after_operands (later ((opened_n_exactly (accepted m)).0 q)))))

  -- filled exactly where no octagon has just that set's cells
  pub opened_n_filled : (m : Marked) → opened_n p f n ≡ accepted m → (m.is_filled ≡ true) ↔ NoOctagon (OpenedTimes n (In p) (In f))
  opened_n_filled m q = filled_exactly m (opened_n_accepted m q) no_octagon
    where
      no_octagon : (1 ≤ n) × OpposedRows (ErodedTimes n (In p) (In f)) (In f) → NoOctagon (OpenedTimes n (In p) (In f))
      no_octagon h s i =
          let t = then_accepted (erosion_n p f n) (λ e. dilation_n e f n) m q in
          let c = same_sym (erosion_n_accepted p f n t.between t.first).cells in
          opposed_times_no_octagon t.between f n h.0 (opposed_same c (same_refl (In f)) h.1) s (same_trans i (dilated_times_same n c (same_refl (In f))))

-- ---- one fold

module _ (p f : Octagon) where
  pub opening : Opening p f (opened p f)
  opening =
      on_both (after (after (spreads_same (λ t. t.1, λ r. (omega arith, r)) (same_refl (Opened (In p) (In f))))))
      (passing (λ l. omega arith) (rw (opened_one p f) at (opening_times p f 1)))

  pub opening_exactly : (o : Outcome Marked) → (opened p f ≡ o) ↔ Opening p f o
  opening_exactly = exactly (opened p f) (operands_one (check_one (check_one spreads_one))) opening

  -- accepted: exact, the cells of definition 2.14; filled, the smallest octagon that holds them; normalised, and on the map
  pub opening_accepted : (m : Marked) → opened p f ≡ accepted m → Spreading (OpposedRows (Eroded (In p) (In f)) (In f)) (Opened (In p) (In f)) m
  opening_accepted m q = spreading m (later (later (after_operands ((opening_exactly (accepted m)).0 q))))

  -- an accepted opening is an accepted erosion, dilated
  pub opening_steps : (m : Marked) → opened p f ≡ accepted m → Through (erosion p f) (λ e. dilation e f) m
  unfolding opened
  opening_steps m = then_accepted (erosion p f) (λ e. dilation e f) m

  -- filled exactly where no octagon has just those cells
  pub opening_filled : (m : Marked) → opened p f ≡ accepted m → (m.is_filled ≡ true) ↔ NoOctagon (Opened (In p) (In f))
  opening_filled m q = opened_n_filled p f 1 m (opened_one p f ∙ q)
