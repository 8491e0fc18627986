-- "All lengths 0 means one cell": from any start, on the map or off it. Assumes nothing.
use mathlib.Core.Path.{◌≡◌, refl}
use mathlib.Core.Logic.{◌↔◌}
use native.Mathlib.Omega.{arith}
use lib.IntN.{ℤ}
use Rattle.integers.proofs.Parts.{eq_parts, parts_eq}
use Rattle.octagon.specs.Octagon.{Octagon}
use Rattle.octagon.specs.Outcome.{accepted, refused, off_map}
use Rattle.octagon.specs.Cells.{◌≐◌, In, OnMap}
use Rattle.octagon.specs.OneCell.{OneCell}
use Rattle.octagon.proofs.Within.{Within, within, cell_in}
use Rattle.outline.specs.Closing.{Closes}
use Rattle.outline.specs.Walk.{InsideWalk}
use Rattle.outline.specs.Tracing.{drawn, traced}
use Rattle.outline.specs.Meaning.{no_sides}
use Rattle.outline.proofs.Drawn.{Drawn, closed_drawn}
use Rattle.outline.proofs.Inside.{inside_walk}
use Rattle.outline.proofs.Tracings.{accepted_means, accepted_when, refused_off_map}

pub no_sides_close : (i j : ℤ) → Closes (no_sides i j)
no_sides_close i j = record { across = refl; upward = refl }

only_within : (i j : ℤ) (c : Octagon) → Drawn (no_sides i j) c → (x y : ℤ) → OneCell i j x y ↔ Within c x y
only_within i j c d x y = (
  λ h. omega (arith, eq_parts h.0, eq_parts h.1),
  λ w. (parts_eq x i (omega arith), parts_eq y j (omega arith)),
)

-- its bounds hold that cell alone
pub one_cell_drawn : (i j : ℤ) → OneCell i j ≐ In (drawn (no_sides i j))
one_cell_drawn i j x y =
    let e = only_within i j (drawn (no_sides i j)) (closed_drawn (no_sides i j) (no_sides_close i j)) x y in
    (λ h. cell_in (e.0 h), λ w. e.1 (within w))

-- and so does the walk
pub one_cell_inside : (i j : ℤ) → InsideWalk (no_sides i j) ≐ OneCell i j
one_cell_inside i j x y =
    let w = inside_walk (no_sides i j) x y in
    let e = one_cell_drawn i j x y in
    (λ h. e.1 (w.1 h), λ h. w.0 (e.0 h))

-- on the map it is accepted, with exactly that cell
pub one_cell : (i j : ℤ) → OnMap i j → (a : Octagon) × (traced (no_sides i j) ≡ accepted a) × (In a ≐ OneCell i j)
one_cell i j m =
    let r = accepted_when (no_sides i j) (no_sides_close i j) (λ x y h. let e = (one_cell_inside i j x y).0 h in rw (e.0, e.1) m) in
    let s = (accepted_means (no_sides i j) r.0 r.1).same_cells in
    let e = one_cell_inside i j in
    (r.0, r.1, λ x y. (λ h. (e x y).0 ((s x y).0 h), λ h. (s x y).1 ((e x y).1 h)))

-- and off the map it is refused with 2
pub one_cell_off : (i j : ℤ) → ¬ (OnMap i j) → traced (no_sides i j) ≡ refused off_map
one_cell_off i j h =
    (refused_off_map (no_sides i j)).1 (no_sides_close i j, record { x = i; y = j; cell = ((one_cell_inside i j i j).1 (refl, refl), h) })
