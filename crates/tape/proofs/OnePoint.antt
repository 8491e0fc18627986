-- The cell of a surveyed point: what is accepted, and what each refusal says. Assumes nothing.
use mathlib.Core.Path.{◌≡◌, refl}
use mathlib.Core.Logic.{◌⊎◌, inl, inr}
use Prim.Native.Nat.{ℕ}
use lib.IntN.{ℤ}
use lib.Ieee.{Float, nan, inf, fin}
use Rattle.octagon.specs.Outcome.{accepted, refused, off_map}
use Rattle.octagon.specs.Cells.{Smallest}
use Rattle.octagon.specs.OneCell.{OneCell, one_cell}
use Rattle.octagon.proofs.Smallest.{smallest_same}
use Rattle.octagon.proofs.OneCell.{one_cell_smallest, placed_on, placed_off, on_or_off}
use Rattle.outline.specs.declared.place.Place.{Place}
use Rattle.tape.specs.Snapping.{snapped, not_finite}
use Rattle.tape.specs.Enclosing.{point_cell}
use Rattle.tape.specs.Cases.{CellOf, Unmeasured, Outside, Inside}
use Rattle.tape.proofs.Coordinates.{in_cell_exactly, in_cell_only, snap_refused}

-- a coordinate has a cell, or it is not finite
pub snapped_or : (e : Float) → ((z : ℤ) × (snapped e ≡ accepted z)) ⊎ (snapped e ≡ refused not_finite)
unfolding snapped
snapped_or nan = inr refl
snapped_or (inf s) = inr refl
snapped_or (fin s m x) = inl (_, refl)

-- the fault of a point, and its refusal number
pub data Fault (p : Place) : ℕ → Type 0 where
  unmeasured : Unmeasured p → Fault p not_finite
  outside : Outside p → Fault p off_map

-- a point is on the map, or it has a fault
pub inside_or : (p : Place) → Inside p ⊎ ((n : ℕ) × Fault p n)
inside_or p = go (snapped_or p.east) (snapped_or p.north)
  where
    go : ((x : ℤ) × (snapped p.east ≡ accepted x)) ⊎ (snapped p.east ≡ refused not_finite) →
        ((y : ℤ) × (snapped p.north ≡ accepted y)) ⊎ (snapped p.north ≡ refused not_finite) → Inside p ⊎ ((n : ℕ) × Fault p n)
    go (inr e) n = inr (not_finite, unmeasured (inl ((snap_refused p.east not_finite).0 e).0))
    go (inl e) (inr n) = inr (not_finite, unmeasured (inr ((snap_refused p.north not_finite).0 n).0))
    go (inl e) (inl n) =
        let c : CellOf p e.0 n.0 = record { across = (in_cell_exactly p.east e.0).0 e.1; upward = (in_cell_exactly p.north n.0).0 n.1 } in
        on_or_off e.0 n.0
        (λ m. inl (record { x = e.0; y = n.0; cell = c; on = m }))
        (λ m. inr (off_map, outside (record { x = e.0; y = n.0; cell = c; off = m })))

-- a point on the map is accepted
pub point_inside : (p : Place) (i : Inside p) → point_cell p ≡ accepted (one_cell i.x i.y)
unfolding point_cell
point_inside p i =
    rw ((in_cell_exactly p.east i.x).1 i.cell.across, (in_cell_exactly p.north i.y).1 i.cell.upward) (placed_on i.x i.y i.on)

-- a fault is refused with its number
pub point_fault : (p : Place) {n : ℕ} → Fault p n → point_cell p ≡ refused n
unfolding point_cell
point_fault p (unmeasured (inl e)) = rw ((snap_refused p.east not_finite).1 (e, refl))
point_fault p (unmeasured (inr n)) = go (snapped_or p.east)
  where
    go : ((x : ℤ) × (snapped p.east ≡ accepted x)) ⊎ (snapped p.east ≡ refused not_finite) → point_cell p ≡ refused not_finite
    go (inl e) = rw (e.1, (snap_refused p.north not_finite).1 (n, refl))
    go (inr e) = rw e
point_fault p (outside o) =
    rw ((in_cell_exactly p.east o.x).1 o.cell.across, (in_cell_exactly p.north o.y).1 o.cell.upward) (placed_off o.x o.y o.off)

-- a point has one cell
pub cell_only : {p : Place} {x y u v : ℤ} → CellOf p x y → CellOf p u v → OneCell x y u v
cell_only {p} {x} {y} {u} {v} c d = (in_cell_only p.east u x d.across c.across, in_cell_only p.north v y d.upward c.upward)

-- and the octagon of that cell is the smallest that holds it
pub point_smallest : {p : Place} {x y : ℤ} → CellOf p x y → Smallest (one_cell x y) (CellOf p)
point_smallest {p} {x} {y} c = smallest_same (λ u v. (λ h. rw (h.0, h.1) c, cell_only c)) (one_cell_smallest x y)
