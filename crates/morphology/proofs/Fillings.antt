-- The smallest octagon that holds the sums of two sets has the sums of the bounds of the smallest that hold the two; a smallest octagon
-- fits into another wherever the set that it was made for does, and opens of it what is opened by that set, but for what is filled.
-- Assumes nothing.
use mathlib.Core.Path.{◌≡◌, refl, ◌∙◌, ap₂}
use mathlib.Core.Logic.{◌↔◌}
use Prim.Native.Nat.{ℕ, zero, suc}
use native.Mathlib.Omega.{arith}
use lib.IntN.{ℤ, ◌+ℤ◌}
use Rattle.integers.proofs.Parts.{sum_parts}
use Rattle.octagon.specs.Octagon.{Octagon}
use Rattle.octagon.specs.Cells.{Cells, ◌≐◌, Some, In, Smallest}
use Rattle.octagon.specs.OneCell.{one_cell}
use Rattle.octagon.proofs.Within.{Within, left_sides, within, cell_in}
use Rattle.octagon.proofs.Smallest.{smallest_when, smallest_unique, smallest_same, smallest_itself}
use Rattle.morphology.specs.Sets.{Dilated, Eroded, Opened, DilatedTimes}
use Rattle.morphology.specs.Operations.{sums, differences}
use Rattle.morphology.specs.Folds.{multiples}
use Rattle.morphology.proofs.Additive.{Additive, adds0, adds1, adds2, adds3, adds4, adds5, adds6, adds7}
use Rattle.morphology.proofs.Sums.{Summed, sums_hold}
use Rattle.morphology.proofs.Differences.{differing}
use Rattle.morphology.proofs.SetLaws.{same_refl, dilated_same}
use Rattle.morphology.proofs.Multiples.{sums_zero, sums_suc}

-- ---- sums

-- a cell of A that has the value k on a left side and a cell of B that has the value l sum to a cell with the value k + l
reach_sum : {A B : Cells} {d : ℤ → ℤ → ℤ} {k l : ℤ} → Additive d → Some (λ x y. A x y × (d x y ≡ k)) → Some (λ x y. B x y × (d x y ≡ l)) →
    Some (λ x y. Dilated A B x y × (d x y ≡ k +ℤ l))
reach_sum add r s = record {
  x = r.x +ℤ s.x;
  y = r.y +ℤ s.y;
  cell = (
    record { ax = r.x; ay = r.y; bx = s.x; by = s.y; of_a = r.cell.0; of_b = s.cell.0; sum_x = refl; sum_y = refl },
    add r.x r.y s.x s.y ∙ ap₂ ◌+ℤ◌ r.cell.1 s.cell.1,
  );
}

pub sums_smallest : {a b : Octagon} {A B : Cells} → Smallest a A → Smallest b B → Smallest (sums a b) (Dilated A B)
unfolding sums
sums_smallest s t =
    smallest_when (sums_hold s.holds t.holds)
    (record {
      reached0 = reach_sum adds0 s.reached.reached0 t.reached.reached0;
      reached1 = reach_sum adds1 s.reached.reached1 t.reached.reached1;
      reached2 = reach_sum adds2 s.reached.reached2 t.reached.reached2;
      reached3 = reach_sum adds3 s.reached.reached3 t.reached.reached3;
      reached4 = reach_sum adds4 s.reached.reached4 t.reached.reached4;
      reached5 = reach_sum adds5 s.reached.reached5 t.reached.reached5;
      reached6 = reach_sum adds6 s.reached.reached6 t.reached.reached6;
      reached7 = reach_sum adds7 s.reached.reached7 t.reached.reached7;
    })

renamed : {a b : Octagon} {A : Cells} → a ≡ b → Smallest b A → Smallest a A
renamed e s = rw e s

-- n times
pub multiples_smallest : (n : ℕ) {a b : Octagon} {A B : Cells} → Smallest a A → Smallest b B → Smallest (sums a (multiples n b)) (DilatedTimes n A B)
multiples_smallest zero {a} {b} s t = renamed (sums_zero a b) s
multiples_smallest (suc n) {a} {b} s t = renamed (sums_suc n a b) (sums_smallest (multiples_smallest n s t) t)

-- ---- positions that fit

-- bounds less those of the cell (x, y) hold (v, w) exactly where the bounds hold (x + v, y + w)
moved : (p : Octagon) (x y v w : ℤ) → In p (x +ℤ v) (y +ℤ w) ↔ In (differences p (one_cell x y)) v w
moved p x y v w = (λ i. cell_in (to (differing p (one_cell x y)) (within i)), λ i. cell_in (from (differing p (one_cell x y)) (within i)))
  where
    to : {d : Octagon} → Summed d (one_cell x y) p → Within p (x +ℤ v) (y +ℤ w) → Within d v w
    to {d} h i = omega (arith, left_sides x y, sum_parts x v, sum_parts y w)

    from : {d : Octagon} → Summed d (one_cell x y) p → Within d v w → Within p (x +ℤ v) (y +ℤ w)
    from {d} h i = omega (arith, left_sides x y, sum_parts x v, sum_parts y w)

-- a smallest octagon fits into an octagon where the set that it was made for does, and nowhere else
pub eroded_by_smallest : (p : Octagon) {d : Octagon} {D : Cells} → Smallest d D → Eroded (In p) (In d) ≐ Eroded (In p) D
eroded_by_smallest p {d} s x y = (
  λ e v w i. e v w (s.holds v w i),
  λ e v w i. (moved p x y v w).1 (s.least (differences p (one_cell x y)) (λ s t j. (moved p x y s t).0 (e s t j)) v w i),
)

-- ---- openings

-- what a smallest octagon d opens has the smallest octagon of what is opened by the set D that d was made for: both are the sums of the bounds
-- of what is left and of d
pub opened_by_smallest : (p : Octagon) {d e w : Octagon} {D : Cells} → Smallest d D → Smallest e (Eroded (In p) (In d)) → Smallest w (Opened (In p) (In d)) →
    Smallest w (Opened (In p) D)
opened_by_smallest p {d} {e} {w} {D} s t u =
    renamed (smallest_unique (same_refl (Opened (In p) (In d))) u (sums_smallest t (smallest_itself s)))
    (smallest_same (dilated_same (eroded_by_smallest p s) (same_refl D)) (sums_smallest t s))
