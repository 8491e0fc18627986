-- Openings by folds of one element, about n trims and then n spreads: what m + n folds open lies inside what m folds open, exact or filled,
-- and has no more cells. Assumes nothing.
use mathlib.Core.Path.{◌≡◌, refl}
use Prim.Native.Nat.{ℕ, ◌+◌, ◌≤◌}
use native.Mathlib.Omega.{arith}
use Rattle.octagon.specs.Octagon.{Octagon}
use Rattle.octagon.specs.Outcome.{accepted, refused}
use Rattle.octagon.specs.Cells.{◌⊆◌, Empty, In, limit}
use Rattle.cell_count.specs.Count.{count, inside}
use Rattle.cell_count.specs.Area.{cell_count}
use Rattle.cell_count.proofs.Counted.{count_subset}
use Rattle.morphology.specs.Sets.{ErodedTimes}
use Rattle.morphology.specs.Marks.{Marked}
use Rattle.morphology.specs.Operations.{nothing_left}
use Rattle.morphology.specs.Folds.{fold_limit, erosion_n}
use Rattle.morphology.specs.Premises.{Allowed, opened_n}
use Rattle.morphology.proofs.SetLaws.{same_empty, eroded_times_add, eroded_times_empty}
use Rattle.morphology.proofs.OpenedSets.{opened_times_more}
use Rattle.morphology.proofs.Checks.{passing, other, passed, later, after_operands, operand_passes}
use Rattle.morphology.proofs.Handed.{covers_counted, spreads_accepted}
use Rattle.morphology.proofs.Openings.{opening_times, opened_n_exactly, opened_n_accepted}
use Rattle.morphology.proofs.FoldedErosions.{nothing_later}

module _ (p f : Octagon) (m n : ℕ) where
  -- the octagons handed back
  pub folds_open_less : (v w : Marked) → opened_n p f m ≡ accepted v → opened_n p f (m + n) ≡ accepted w → In w.octagon ⊆ In v.octagon
  folds_open_less v w q r =
      (opened_n_accepted p f (m + n) w r).covers.smallest.least v.octagon
      (λ x y i. (opened_n_accepted p f m v q).covers.smallest.holds x y (opened_times_more m n (In p) (In f) x y i))

  -- where m trims leave nothing, nothing is opened by m + n folds
  pub folds_stay_closed : m + n ≤ fold_limit → erosion_n p f m ≡ refused nothing_left → opened_n p f (m + n) ≡ refused nothing_left
  folds_stay_closed l e = rw (nothing_later p f m n l e) refl

  -- where m + n folds are accepted, so are m, but where they are refused as off the map
  pub fewer_open : (w : Marked) → opened_n p f (m + n) ≡ accepted w → Allowed (opened_n p f m) →
      (v : Marked) × (opened_n p f m ≡ accepted v) × (In w.octagon ⊆ In v.octagon)
  fewer_open w r a =
      let c = (opened_n_exactly p f (m + n) (accepted w)).0 r in
      let of_p = later c in
      let of_f = later (later of_p) in
      let fits : ¬ (Empty (ErodedTimes m (In p) (In f))) =
      λ h. passed (after_operands of_p) (same_empty (eroded_times_add m n (In p) (In f)) (eroded_times_empty n h (passed of_f))) in
      let v = spreads_accepted (other a (passing fits (operand_passes of_f (operand_passes of_p (passing (λ k. passed c (omega arith)) (opening_times p f m)))))) in
      (v.0, v.1, folds_open_less v.0 w v.1 r)

-- ---- the cells

pub opened_n_counted : (p f : Octagon) (n : ℕ) (m : Marked) → opened_n p f n ≡ accepted m → cell_count m.octagon ≡ accepted (count limit (inside m.octagon))
opened_n_counted p f n m q = covers_counted (opened_n_accepted p f n m q).covers

-- the cells that are opened by n folds never grow with n
pub folds_count_less : (p f : Octagon) (m n : ℕ) (v w : Marked) (j k : ℕ) → opened_n p f m ≡ accepted v → opened_n p f (m + n) ≡ accepted w →
    cell_count w.octagon ≡ accepted j → cell_count v.octagon ≡ accepted k → j ≤ k
folds_count_less p f m n v w j k q r t u = count_subset w.octagon v.octagon j k t u (folds_open_less p f m n v w q r)
