-- An element that has the cell (0, 0): what it erodes lies in the set, so n trims and n spreads of a plot on the map are accepted, or
-- nothing is left; and one that has another cell too fits into no set on the map with as many folds as the map is wide. Assumes nothing.
use mathlib.Core.Path.{◌≡◌, refl, ◌∙◌}
use Prim.Native.Nat.{ℕ, zero, suc, ◌*◌, ◌<◌, ◌≤◌}
use native.Mathlib.Omega.{arith}
use lib.IntN.{ℤ, pos, ◌+ℤ◌, ◌*ℤ◌, +ℤ_idr}
use Rattle.integers.proofs.Parts.{sum_parts}
use Rattle.integers.proofs.Linear.{#, ◌⊕◌, same}
use Rattle.integers.proofs.Multiples.{times_zero, times_suc, times_small}
use Rattle.octagon.specs.Octagon.{Octagon}
use Rattle.octagon.specs.Outcome.{Outcome, accepted, refused, off_map, then}
use Rattle.octagon.specs.Cells.{Cells, ◌⊆◌, Empty, In, OnMap, LeavesMap, limit}
use Rattle.octagon.specs.NormalForm.{normalised}
use Rattle.octagon.proofs.Within.{on_grid}
use Rattle.octagon.proofs.Smallest.{some_in}
use Rattle.octagon.proofs.NormalForms.{accepted_means}
use Rattle.cell_count.specs.Area.{cell_count}
use Rattle.cell_count.proofs.Counted.{count_means}
use Rattle.morphology.specs.Sets.{ErodedTimes, OpenedTimes}
use Rattle.morphology.specs.Marks.{Marked}
use Rattle.morphology.specs.Operations.{nothing_left}
use Rattle.morphology.specs.Folds.{fold_limit}
use Rattle.morphology.specs.Premises.{opened_n}
use Rattle.morphology.specs.Cases.{Check, fails, passes, Spreads}
use Rattle.morphology.proofs.Checks.{passing, passed, later, skip, after_operands, skip_operands, failed}
use Rattle.morphology.proofs.Handed.{not_empty, stays, spreads_accepted, says_not_refused}
use Rattle.morphology.proofs.Openings.{opening_times, opened_n_exactly}
use Rattle.morphology.proofs.FoldedOpenings.{opened_n_counted}
use Rattle.spectrum.specs.Spectra.{cells_or_none, open_cells}
use Rattle.spectrum.specs.Cases.{NoOther, Opens, some_open, none_open}

-- ---- sets

-- what n folds erode lies in the set
pub eroded_times_inside : (n : ℕ) (A B : Cells) → B (pos 0) (pos 0) → ErodedTimes n A B ⊆ A
eroded_times_inside zero A B o x y i = i
eroded_times_inside (suc n) A B o x y i =
    eroded_times_inside n A B o x y (rw (+ℤ_idr x, +ℤ_idr y) at (i (pos 0) (pos 0) o))

-- n steps by a cell (u, v) of B, from a position of n folds, end in the set
steps : (n : ℕ) (A B : Cells) (x y u v : ℤ) → B u v → ErodedTimes n A B x y → A (x +ℤ pos n *ℤ u) (y +ℤ pos n *ℤ v)
steps zero A B x y u v b i = rw (none_added x u, none_added y v) i
  where
    none_added : (z w : ℤ) → z +ℤ pos 0 *ℤ w ≡ z
    none_added z w = same (# z) (omega (arith, sum_parts z (pos 0 *ℤ w), times_zero w)) refl
steps (suc n) A B x y u v b i =
    rw (one_more x u, one_more y v) at (steps n A B (x +ℤ u) (y +ℤ v) u v b (i u v b))
  where
    one_more : (z w : ℤ) → (z +ℤ w) +ℤ pos n *ℤ w ≡ z +ℤ pos (suc n) *ℤ w
    one_more z w =
        same (# z ⊕ # w ⊕ # (pos n *ℤ w)) (omega (arith, sum_parts (z +ℤ w) (pos n *ℤ w), sum_parts z w))
        (omega (arith, sum_parts z (pos (suc n) *ℤ w), times_suc n w))

-- so, with as many folds as the map is wide or more, no cell of B but (0, 0)
pub only_origin_fits : (n : ℕ) (A B : Cells) (x y : ℤ) → A ⊆ OnMap → B (pos 0) (pos 0) → 2 * limit < n → ErodedTimes n A B x y → NoOther B
only_origin_fits n A B x y m o l i u v b =
    let g = on_grid (m x y (eroded_times_inside n A B o x y i)) in
    let h = on_grid (m (x +ℤ pos n *ℤ u) (y +ℤ pos n *ℤ v) (steps n A B x y u v b i)) in (
      times_small n (2 * limit) u l (omega (arith, sum_parts x (pos n *ℤ u))) (omega (arith, sum_parts x (pos n *ℤ u))),
      times_small n (2 * limit) v l (omega (arith, sum_parts y (pos n *ℤ v))) (omega (arith, sum_parts y (pos n *ℤ v))),
    )

-- ---- octagons

module _ (p f : Octagon) (n : ℕ) where
  -- n trims leave something where an octagon is handed back, and nothing where the answer is 5
  pub leaves_some : (w : Marked) → opened_n p f n ≡ accepted w → ¬ (Empty (ErodedTimes n (In p) (In f)))
  leaves_some w r = passed (after_operands (later ((opened_n_exactly p f n (accepted w)).0 r)))

  pub leaves_none : opened_n p f n ≡ refused nothing_left → Empty (ErodedTimes n (In p) (In f))
  leaves_none r =
      failed (λ c. says_not_refused (skip (λ e. omega arith) c))
      (skip_operands (omega arith) (skip (λ e. omega arith) ((opened_n_exactly p f n (refused nothing_left)).0 r)))

module _ (p f a b : Octagon) (n : ℕ) (of_p : normalised p ≡ accepted a) (of_f : normalised f ≡ accepted b) where
  -- accepted, or nothing left: never off the map, never too many folds
  pub opens : In f (pos 0) (pos 0) → n ≤ fold_limit → Opens p f n (open_cells p f n)
  unfolding open_cells
  opens o l =
      let s = accepted_means p a of_p in
      let t = accepted_means f b of_f in
      go (λ q. stays s (some_in (eroded_times_inside n (In p) (In f) o) q))
      (passing (stays t) (passing (not_empty t) (passing (stays s) (passing (not_empty s) (passing (λ k. omega arith) (opening_times p f n)))))) refl
    where
      go : {T : Type 0} {k : Outcome Marked} → ¬ (LeavesMap (ErodedTimes n (In p) (In f))) →
          Check (Empty (ErodedTimes n (In p) (In f))) nothing_left
          (Check (LeavesMap (ErodedTimes n (In p) (In f))) off_map (Spreads T (OpenedTimes n (In p) (In f)))) k →
          opened_n p f n ≡ k → Opens p f n (cells_or_none (then (opened_n p f n) (λ m. cell_count m.octagon)))
      go h (fails e) q = rw q (none_open q)
      go h (passes _ c) q =
          let m = spreads_accepted (passing h c) in
          let e = q ∙ m.1 in
          let k = opened_n_counted p f n m.0 e in
          rw (e, k) (some_open m.0 _ e k (count_means m.0.octagon _ k).some)

  -- nothing is left by as many folds as the map is wide, or more
  pub nothing_open : In f (pos 0) (pos 0) → ¬ (NoOther (In f)) → 2 * limit < n → n ≤ fold_limit → open_cells p f n ≡ 0
  nothing_open o other l k = go (opens o k)
    where
      empty : Empty (ErodedTimes n (In p) (In f))
      empty x y i = other (only_origin_fits n (In p) (In f) x y (λ u v j. (accepted_means p a of_p).on_the_map u v (((accepted_means p a of_p).cells u v).1 j)) o l i)

      go : {j : ℕ} → Opens p f n j → j ≡ 0
      go (none_open e) = refl
      go (some_open m j e c _) = absurd (leaves_some p f n m e empty)
