-- The octagon of one cell is the smallest that holds it; it is placed, and fits 32 bits, where the cell is on the map. Assumes nothing.
use mathlib.Core.Path.{◌≡◌, refl}
use lib.IntN.{ℤ, neg_ℤ, ◌+ℤ◌, ◌-ℤ◌}
use lib.Signed.{≤ℤ_refl}
use mir.Syntax.{w32}
use Rattle.octagon.specs.Outcome.{accepted, refused, off_map}
use Rattle.octagon.specs.Cells.{Cells, ◌⊆◌, Some, In, OnMap, Smallest}
use Rattle.octagon.specs.NormalForm.{placed}
use Rattle.octagon.specs.OneCell.{OneCell, one_cell}
use Rattle.octagon.specs.Widths.{Held}
use Rattle.octagon.proofs.Smallest.{smallest_when, placed_within, smallest_held, placed_leaving, within_or_leaving}

one_cell_in : (x y : ℤ) → In (one_cell x y) x y
one_cell_in x y = record {
  in0 = ≤ℤ_refl (neg_ℤ y);
  in1 = ≤ℤ_refl (x -ℤ y);
  in2 = ≤ℤ_refl x;
  in3 = ≤ℤ_refl (x +ℤ y);
  in4 = ≤ℤ_refl y;
  in5 = ≤ℤ_refl (neg_ℤ x +ℤ y);
  in6 = ≤ℤ_refl (neg_ℤ x);
  in7 = ≤ℤ_refl (neg_ℤ x -ℤ y);
}

-- the one cell reaches what is said of it
at_cell : {P : Cells} (x y : ℤ) → P x y → Some (λ u v. OneCell x y u v × P u v)
at_cell x y p = record { x = x; y = y; cell = ((refl, refl), p) }

pub one_cell_smallest : (x y : ℤ) → Smallest (one_cell x y) (OneCell x y)
one_cell_smallest x y =
    smallest_when (λ u v h. rw (h.0, h.1) (one_cell_in x y))
    (record {
      reached0 = at_cell x y refl;
      reached1 = at_cell x y refl;
      reached2 = at_cell x y refl;
      reached3 = at_cell x y refl;
      reached4 = at_cell x y refl;
      reached5 = at_cell x y refl;
      reached6 = at_cell x y refl;
      reached7 = at_cell x y refl;
    })

-- ---- one cell on the map

alone_on_map : (x y : ℤ) → OnMap x y → OneCell x y ⊆ OnMap
alone_on_map x y m u v h = rw (h.0, h.1) m

pub one_cell_held : (x y : ℤ) → OnMap x y → Held w32 (one_cell x y)
one_cell_held x y m = smallest_held (one_cell_smallest x y) (alone_on_map x y m)

pub placed_on : (x y : ℤ) → OnMap x y → placed (one_cell x y) ≡ accepted (one_cell x y)
placed_on x y m = placed_within (one_cell_smallest x y) (alone_on_map x y m)

pub placed_off : (x y : ℤ) → ¬ (OnMap x y) → placed (one_cell x y) ≡ refused off_map
placed_off x y n = placed_leaving (one_cell_smallest x y) (at_cell x y n)

pub on_or_off : {R : Type 0} (x y : ℤ) → (OnMap x y → R) → (¬ (OnMap x y) → R) → R
on_or_off x y f g =
    within_or_leaving (one_cell_smallest x y)
    (λ h. f (h x y (refl, refl)))
    (λ l. g (rw (l.cell.0.0, l.cell.0.1) at l.cell.1))
