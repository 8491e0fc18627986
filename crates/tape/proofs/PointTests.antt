-- What the tests of a point's coordinates say of its cell. Assumes nothing.
use mathlib.Core.Path.{◌≡◌, refl, sym, ◌∙◌}
use mathlib.Core.Bool.{true, false, ◌&&◌}
use mathlib.Core.Logic.{inl, inr, ⊎_elim}
use native.Mathlib.Omega.{arith}
use lib.IntN.{ℤ}
use lib.Ieee.{Float, nan, inf, fin}
use lib.Ieee.Scale.{finite}
use Rattle.std.specs.Float.{float_is_finite}
use Rattle.integers.proofs.Tests.{cases, true_is_not_false, both_true, and_true}
use Rattle.octagon.specs.Outcome.{accepted, refused, off_map}
use Rattle.octagon.specs.Cells.{OnMap}
use Rattle.octagon.specs.OneCell.{one_cell}
use Rattle.octagon.proofs.Within.{on_grid, on_square}
use Rattle.outline.specs.declared.place.Place.{Place}
use Rattle.tape.specs.Snapping.{snapped, not_finite, within_edges}
use Rattle.tape.specs.Enclosing.{point_cell}
use Rattle.tape.specs.Cases.{CellOf}
use Rattle.tape.proofs.Between.{between_exactly}
use Rattle.tape.proofs.Coordinates.{in_cell_exactly, snap_refused}
use Rattle.tape.proofs.OnePoint.{snapped_or, unmeasured, outside, point_inside, point_fault}

-- std's test of a finite number
pub finite_is : (e : Float) → float_is_finite e ≡ finite e
unfolding float_is_finite
finite_is nan = refl
finite_is (inf s) = refl
finite_is (fin s m x) = refl

-- both coordinates are between the map's edges: the cell is on the map, and it is the point's
pub tests_on : (p : Place) (x y : ℤ) → within_edges p.east ≡ true → within_edges p.north ≡ true →
    snapped p.east ≡ accepted x → snapped p.north ≡ accepted y → OnMap x y
tests_on p x y h k e n =
    let a = (between_exactly p.east x e).0 h in
    let b = (between_exactly p.north y n).0 k in
    on_square (record { west = omega (arith, a.0); east = omega (arith, a.1); south = omega (arith, b.0); north = omega (arith, b.1) })

pub tests_inside : (p : Place) (x y : ℤ) → OnMap x y → snapped p.east ≡ accepted x → snapped p.north ≡ accepted y →
    point_cell p ≡ accepted (one_cell x y)
tests_inside p x y m e n =
    let c : CellOf p x y = record { across = (in_cell_exactly p.east x).0 e; upward = (in_cell_exactly p.north y).0 n } in
    point_inside p (record { x = x; y = y; cell = c; on = m })

-- a finite coordinate has a cell
finite_cell : (e : Float) → finite e ≡ true → (z : ℤ) × (snapped e ≡ accepted z)
finite_cell e f =
    ⊎_elim (λ z. z) (λ n. absurd (rw f at ((snap_refused e not_finite).0 n).0)) (snapped_or e)

-- not both are, and both are finite: the cell is off the map
pub tests_outside : (p : Place) → (within_edges p.east && within_edges p.north) ≡ false → (finite p.east && finite p.north) ≡ true →
    point_cell p ≡ refused off_map
tests_outside p h f =
    let g = both_true (finite p.east) (finite p.north) f in
    let x = finite_cell p.east g.0 in
    let y = finite_cell p.north g.1 in
    point_fault p (outside (record {
      x = x.0;
      y = y.0;
      cell = record { across = (in_cell_exactly p.east x.0).0 x.1; upward = (in_cell_exactly p.north y.0).0 y.1 };
      off = λ m. let o = on_grid m in
          true_is_not_false (sym (and_true ((between_exactly p.east x.0 x.1).1 (omega arith, o.east)) ((between_exactly p.north y.0 y.1).1 (omega arith, o.north))) ∙ h);
    }))

-- not both are finite
pub tests_unmeasured : (p : Place) → (finite p.east && finite p.north) ≡ false → point_cell p ≡ refused not_finite
tests_unmeasured p f =
    point_fault p (unmeasured (cases (finite p.east) (λ t. inr (rw (rw t at f) tt)) (λ t. inl (rw t tt))))
