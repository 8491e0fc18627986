-- The answers of `enclose`, case by case, in the words of document 02. proofs/Cases.antt proves that they are its answers. Assumes nothing.
use Rattle.std.specs.Prelude.{◌≡◌, not, ◌⊎◌, List, [], ℕ, ◌*◌, ◌%◌, ◌/◌, ◌<◌, T, ℤ, length, Float}
use Rattle.std.specs.Float.Ieee.Scale.{finite}
use Rattle.octagon.specs.Octagon.{Octagon}
use Rattle.octagon.specs.Outcome.{Outcome, accepted, refused, off_map}
use Rattle.octagon.specs.Cells.{OnMap, Smallest}
use Rattle.outline.specs.declared.place.Place.{Place}
use Rattle.tape.specs.Snapping.{not_finite, InCell}
use Rattle.tape.specs.Enclosing.{no_point, half_point, place_at}

-- point k of a tape: its numbers 2 × k and 2 × k + 1
abbrev pub point : List Float → ℕ → Place
point t k = place_at t (2 * k)

-- the cell (x, y) is that of a point
pub record CellOf (p : Place) (x y : ℤ) : Type 0 where
  pub across : InCell p.east x
  pub upward : InCell p.north y

-- a coordinate of the point is not finite
abbrev pub Unmeasured : Place → Type 0
Unmeasured p = T (not (finite p.east)) ⊎ T (not (finite p.north))

-- the point has a cell, which is off the map
pub record Outside (p : Place) : Type 0 where
  pub x : ℤ
  pub y : ℤ
  pub cell : CellOf p x y
  pub off : ¬ (OnMap x y)

-- the point has a cell, which is on the map
pub record Inside (p : Place) : Type 0 where
  pub x : ℤ
  pub y : ℤ
  pub cell : CellOf p x y
  pub on : OnMap x y

-- each of a tape's first n points has its cell on the map
abbrev pub InsideUpTo : List Float → ℕ → Type 0
InsideUpTo t n = (k : ℕ) → k < n → Inside (point t k)

-- the cells of a tape's points
pub record TapeCells (t : List Float) (x y : ℤ) : Type 0 where
  pub k : ℕ
  pub in_tape : k < length t / 2
  pub cell : CellOf (point t k) x y

-- a tape of whole points, one at least
pub record WholePoints (t : List Float) : Type 0 where
  pub some : ¬ (t ≡ [])
  pub even : length t % 2 ≡ 0

-- each point of a second tape is a point of the first
abbrev pub PointsAmong : List Float → List Float → Type 0
PointsAmong t u = (k : ℕ) → k < length u / 2 → (j : ℕ) × (j < length t / 2) × (point u k ≡ point t j)

-- two tapes of the same points, in any order and each any number of times
pub record SamePoints (t u : List Float) : Type 0 where
  pub there : PointsAmong t u
  pub back : PointsAmong u t

-- each answer, with what it says of the tape
pub data EncloseCase (t : List Float) : Outcome Octagon → Type 0 where
  is_empty : t ≡ [] → EncloseCase t (refused no_point)
  is_odd : length t % 2 ≡ 1 → EncloseCase t (refused half_point)
  is_unmeasured : WholePoints t → (k : ℕ) → k < length t / 2 → InsideUpTo t k → Unmeasured (point t k) → EncloseCase t (refused not_finite)
  is_outside : WholePoints t → (k : ℕ) → k < length t / 2 → InsideUpTo t k → Outside (point t k) → EncloseCase t (refused off_map)
  is_plot : WholePoints t → (a : Octagon) → InsideUpTo t (length t / 2) → Smallest a (TapeCells t) → EncloseCase t (accepted a)
