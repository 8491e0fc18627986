-- What the entries count: entry n is the number of cells of the plot opened by n folds that are not in the plot opened by n + 1, which lies
-- inside it; and the entries sum to the plot's cells less those still open. Assumes nothing.
use mathlib.Core.Path.{◌≡◌, sym, ◌∙◌, ap}
use mathlib.Core.Bool.{true, false}
use Prim.Native.Nat.{ℕ, zero, suc, ◌+◌, ◌-◌, ◌<◌, ◌≤◌}
use native.Mathlib.Omega.{arith}
use native.Mathlib.Numerals.{add-one}
use lib.ListN.{get_or}
use Rattle.octagon.specs.Octagon.{Octagon}
use Rattle.octagon.specs.Outcome.{accepted}
use Rattle.octagon.specs.Cells.{◌⊆◌, In}
use Rattle.octagon.specs.NormalForm.{normalised}
use Rattle.cell_count.specs.Count.{sum}
use Rattle.cell_count.specs.Area.{cell_count}
use Rattle.cell_count.proofs.Sums.{sum_ext}
use Rattle.cell_count.proofs.Counted.{count_means, count_subset, count_difference}
use Rattle.morphology.specs.Marks.{Marked}
use Rattle.morphology.specs.Folds.{fold_limit}
use Rattle.morphology.specs.Premises.{opened_n}
use Rattle.morphology.proofs.FoldedOpenings.{folds_open_less}
use Rattle.spectrum.specs.Walks.{Walk, total}
use Rattle.spectrum.specs.Spectra.{open_cells, spectrum}
use Rattle.spectrum.specs.Cases.{Opens, some_open, none_open, Loses, part_lost, all_lost}
use Rattle.spectrum.proofs.Origins.{opens}
use Rattle.spectrum.proofs.Frames.{Frame}
use Rattle.spectrum.proofs.Cases.{open_none, spectrum_accepted, spectrum_walk}
use Rattle.spectrum.proofs.Ends.{each_opens}

-- ---- one entry

module _ (p f : Octagon) (n : ℕ) where
  -- one fold more opens what lies inside
  inside_last : (v w : Marked) → opened_n p f n ≡ accepted v → opened_n p f (suc n) ≡ accepted w → In w.octagon ⊆ In v.octagon
  inside_last v w q r = folds_open_less p f n 1 v w q (rw add-one r)

  lose : {j k : ℕ} → Opens p f n j → Opens p f (suc n) k → 1 ≤ j → (k ≤ j) × Loses p f n (j - k)
  lose (none_open q) o l = absurd (omega arith)
  lose (some_open v j q t _) (none_open r) l = (omega arith, all_lost v (j - 0) q r (λ s h. omega (arith, (count_means v.octagon j t).cells s h)))
  lose (some_open v j q t _) (some_open w k r u _) l =
      let i = inside_last v w q r in (
        count_subset w.octagon v.octagon k j u t i,
        part_lost v w (j - k) q r i (λ s h. omega (arith, count_difference w.octagon v.octagon k j u t s h i)),
      )

-- no more cells are open by one fold more
pub fewer : (p f a b : Octagon) (n : ℕ) → normalised p ≡ accepted a → Frame f b → suc n ≤ fold_limit → 1 ≤ open_cells p f n →
    open_cells p f (suc n) ≤ open_cells p f n
fewer p f a b n of_p of_f l h =
    let o : (k : ℕ) → k ≤ fold_limit → Opens p f k (open_cells p f k) = λ k i. opens p f a b k of_p of_f.normal of_f.holds_origin i in
    (lose p f n (o n (omega arith)) (o (suc n) l) h).0

module _ (p f : Octagon) (places : ℕ) (w : Walk) (q : spectrum p f places ≡ accepted w) where
  step : (n : ℕ) → n < w.trims → (open_cells p f (suc n) ≤ open_cells p f n) × Loses p f n (open_cells p f n - open_cells p f (suc n))
  step n h =
      lose p f n (each_opens p f places w q n (omega arith)) (each_opens p f places w q (suc n) (omega arith)) ((spectrum_walk p f places w q).due n h)

  -- so no entry is a difference below nought
  pub never_more : (n : ℕ) → n < w.trims → open_cells p f (suc n) ≤ open_cells p f n
  never_more n h = (step n h).0

  -- the cells lost from n folds to n + 1, counted as cells
  pub entry_loses : (n : ℕ) → n < w.trims → Loses p f n (get_or w.entries n 0)
  entry_loses n h = rw ((spectrum_walk p f places w q).lost n h) (step n h).1

-- ---- the sum

-- losses that add up: what was open at first is the sum of the losses and what is open at last
telescope : (cells : ℕ → ℕ) (k : ℕ) → ((n : ℕ) → n < k → cells (suc n) ≤ cells n) → sum k (λ n. cells n - cells (suc n)) + cells k ≡ cells 0
unfolding sum
telescope cells zero l = omega arith
telescope cells (suc k) l = omega (arith, l k (omega arith), telescope cells k (λ n h. l n (omega arith)))

module _ (p f : Octagon) (places : ℕ) (w : Walk) (q : spectrum p f places ≡ accepted w) where
  -- the plot's cells are the sum of the entries and the cells still open
  open_total : cell_count p ≡ accepted (total w + open_cells p f w.trims)
  unfolding cell_count
  open_total =
      let s = spectrum_accepted p f places w q in
      let e = sum_ext w.trims s.is_walk.lost in
      let t = telescope (open_cells p f) w.trims (never_more p f places w q) in
      rw s.of_p (ap accepted (sym (open_none p f s.a s.b s.of_p s.of_f.normal) ∙ sym (rw (← e) at t)))

  -- "Finished entries sum to the plot's cells."
  pub finished_total : w.is_finished ≡ true → cell_count p ≡ accepted (total w)
  finished_total e =
      let t : total w + open_cells p f w.trims ≡ total w = omega (arith, (spectrum_walk p f places w q).left_nothing e) in
      rw t at open_total

  -- entries that are spent: to these less those still open
  pub spent_total : w.is_finished ≡ false →
      (m : Marked) × (k : ℕ) × (opened_n p f w.trims ≡ accepted m) × (cell_count m.octagon ≡ accepted k) × (cell_count p ≡ accepted (total w + k))
  spent_total e = go (each_opens p f places w q w.trims (omega arith)) ((spectrum_walk p f places w q).left_some e).1 open_total
    where
      go : {k : ℕ} → Opens p f w.trims k → 1 ≤ k → cell_count p ≡ accepted (total w + k) →
          (m : Marked) × (k : ℕ) × (opened_n p f w.trims ≡ accepted m) × (cell_count m.octagon ≡ accepted k) × (cell_count p ≡ accepted (total w + k))
      go (none_open r) l t = absurd (omega arith)
      go (some_open m k r c _) l t = (m, k, r, c, t)
