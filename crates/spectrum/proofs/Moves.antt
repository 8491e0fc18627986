-- Sets that are moved, and the smallest octagons that hold them: what n trims leave of a moved set, and what n folds open, is moved with it,
-- and its smallest octagon keeps its area. Assumes nothing.
use mathlib.Core.Path.{◌≡◌, refl, ◌∙◌, ap}
use mathlib.Core.Logic.{◌↔◌}
use Prim.Native.Nat.{ℕ}
use native.Mathlib.Omega.{arith}
use lib.IntN.{ℤ, pos, neg_ℤ, ◌+ℤ◌, ◌-ℤ◌, nat_abs, +ℤ-neg_ℤ_cancel, -ℤ-+ℤ_cancel}
use Rattle.integers.proofs.Linear.{#, ◌⊕◌, neg, lit, ◌≈◌, same}
use Rattle.octagon.specs.Octagon.{Octagon}
use Rattle.octagon.specs.Cells.{Cells, ◌≐◌, Empty, Smallest}
use Rattle.octagon.specs.OneCell.{OneCell, one_cell}
use Rattle.octagon.specs.NormalForm.{odd_side}
use Rattle.octagon.proofs.Within.{left_sides}
use Rattle.octagon.proofs.Sides.{odd_is}
use Rattle.octagon.proofs.Smallest.{smallest_unique, smallest_same}
use Rattle.octagon.proofs.OneCell.{one_cell_smallest}
use Rattle.cell_count.specs.Area.{triangle, extent, rectangle, cut, cuts, area}
use Rattle.cell_count.proofs.Formula.{extent_parts}
use Rattle.morphology.specs.Sets.{Dilated, Eroded, ErodedTimes, OpenedTimes}
use Rattle.morphology.specs.Operations.{sums}
use Rattle.morphology.proofs.SetLaws.{same_refl, same_sym, same_trans, dilated_times_same, past_one, eroded_times_same, eroded_past}
use Rattle.morphology.proofs.Sums.{Summed, summed}
use Rattle.morphology.proofs.Fillings.{sums_smallest}
use Rattle.spectrum.specs.Cases.{Moved}

-- ---- sets

module _ (u v : ℤ) (A : Cells) where
  -- moving is dilating by one cell
  moved_dilated : Moved u v A ≐ Dilated A (OneCell u v)
  moved_dilated x y = (to, from)
    where
      to : Moved u v A x y → Dilated A (OneCell u v) x y
      to a = record {
        ax = x -ℤ u;
        ay = y -ℤ v;
        bx = u;
        by = v;
        of_a = a;
        of_b = (refl, refl);
        sum_x = -ℤ-+ℤ_cancel x u;
        sum_y = -ℤ-+ℤ_cancel y v;
      }

      from : Dilated A (OneCell u v) x y → Moved u v A x y
      from d =
          rw (← d.sum_x, ← d.sum_y, d.of_b.0, d.of_b.1, +ℤ-neg_ℤ_cancel d.ax u, +ℤ-neg_ℤ_cancel d.ay v) d.of_a

  -- and it is eroding by the opposite cell
  moved_eroded : Moved u v A ≐ Eroded A (OneCell (neg_ℤ u) (neg_ℤ v))
  moved_eroded x y = (λ a s t h. rw (h.0, h.1) a, λ e. e (neg_ℤ u) (neg_ℤ v) (refl, refl))

  pub moved_empty : Empty (Moved u v A) ↔ Empty A
  moved_empty = (λ h x y a. h (x +ℤ u) (y +ℤ v) (rw (+ℤ-neg_ℤ_cancel x u, +ℤ-neg_ℤ_cancel y v) a), λ h x y. h (x -ℤ u) (y -ℤ v))

-- where C is A moved, what n trims leave of C is what they leave of A, moved; and so is what n folds open
module _ (u v : ℤ) (A B : Cells) {C : Cells} (m : C ≐ Moved u v A) (n : ℕ) where
  pub eroded_moved : ErodedTimes n C B ≐ Moved u v (ErodedTimes n A B)
  eroded_moved =
      same_trans (eroded_times_same n (same_trans m (moved_eroded u v A)) (same_refl B))
      (same_trans (eroded_past A B (OneCell (neg_ℤ u) (neg_ℤ v)) n 1) (same_sym (moved_eroded u v (ErodedTimes n A B))))

  pub opened_moved : OpenedTimes n C B ≐ Moved u v (OpenedTimes n A B)
  opened_moved =
      same_trans (dilated_times_same n (same_trans eroded_moved (moved_dilated u v (ErodedTimes n A B))) (same_refl B))
      (same_trans (past_one (ErodedTimes n A B) B (OneCell u v) n) (same_sym (moved_dilated u v (OpenedTimes n A B))))

-- ---- bounds

-- a smallest octagon is moved with its set: the bounds of the one cell (u, v) are added to its own
pub smallest_moved : {a : Octagon} {A : Cells} (u v : ℤ) → Smallest a A → Smallest (sums a (one_cell u v)) (Moved u v A)
smallest_moved {a} {A} u v s = smallest_same (same_sym (moved_dilated u v A)) (sums_smallest s (one_cell_smallest u v))

-- ---- areas

-- opposite bounds with the same sum have as many lines between them
extent_same : (l h m k : ℤ) → # l ⊕ # h ≈ # m ⊕ # k → extent l h ≡ extent m k
extent_same l h m k e = ap nat_abs (same {b = m +ℤ k +ℤ pos 1} (# l ⊕ # h ⊕ lit 1) (extent_parts l h) (omega (arith, extent_parts m k)))

-- diagonal sides of the same length cut off as many cells
cut_same : (b o a c p d : ℤ) → # b ⊕ # a ⊕ neg (# o) ≈ # c ⊕ # d ⊕ neg (# p) → cut b o a ≡ cut c p d
cut_same b o a c p d e =
    ap (λ z. triangle (nat_abs z)) (same {b = odd_side c p d} (# b ⊕ # a ⊕ neg (# o)) (odd_is b o a) (omega (arith, odd_is c p d)))

-- the bounds of one cell, added, change no length in the formula
summed_area : (a s : Octagon) (u v : ℤ) → Summed a (one_cell u v) s → area s ≡ area a
unfolding area rectangle cuts
summed_area a s u v h =
    let f = left_sides u v in
    rw (
      extent_same s.c0 s.c4 a.c0 a.c4 (omega arith),
      extent_same s.c6 s.c2 a.c6 a.c2 (omega arith),
      cut_same s.c0 s.c1 s.c2 a.c0 a.c1 a.c2 (omega arith),
      cut_same s.c2 s.c3 s.c4 a.c2 a.c3 a.c4 (omega arith),
      cut_same s.c4 s.c5 s.c6 a.c4 a.c5 a.c6 (omega arith),
      cut_same s.c6 s.c7 s.c0 a.c6 a.c7 a.c0 (omega arith),
    )

-- so the smallest octagons of a set and of the same set moved have one area
pub area_moved : {a b : Octagon} {B : Cells} (u v : ℤ) (A : Cells) → B ≐ Moved u v A → Smallest a A → Smallest b B → area b ≡ area a
area_moved {a} u v A m s t =
    ap area (smallest_unique m t (smallest_moved u v s)) ∙ summed_area a (sums a (one_cell u v)) u v (summed a (one_cell u v))
