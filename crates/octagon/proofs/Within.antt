-- A cell within bounds, and bounds whose sides are nought or more, as linear facts that `omega` reads.
-- `within` and `cell_in` lead to and from the sets of specs/Cells.antt. Assumes nothing.
use native.Mathlib.Omega.{arith}
use Prim.Native.Nat.{ℕ}
use lib.IntN.{ℤ, pos, neg_ℤ, ◌+ℤ◌, ◌-ℤ◌}
use Rattle.integers.proofs.Parts.{up, dn, sum_parts, diff_parts, neg_up, neg_dn, le_parts}
use Rattle.integers.proofs.Linear.{#, ◌⊕◌, neg, lit, ◌≼◌, ◌≈◌, le}
use Rattle.octagon.specs.Octagon.{Octagon}
use Rattle.octagon.specs.Cells.{In, Square, limit}

-- the cell (x, y) is within the bounds
pub record Within (c : Octagon) (x y : ℤ) : Type 0 where
  pub i0 : neg (# y) ≼ # c.c0
  pub i1 : # x ⊕ neg (# y) ≼ # c.c1
  pub i2 : # x ≼ # c.c2
  pub i3 : # x ⊕ # y ≼ # c.c3
  pub i4 : # y ≼ # c.c4
  pub i5 : neg (# x) ⊕ # y ≼ # c.c5
  pub i6 : neg (# x) ≼ # c.c6
  pub i7 : neg (# x) ⊕ neg (# y) ≼ # c.c7

-- the left sides of the eight inequalities that are not a coordinate, as sums and differences of the coordinates
pub record LeftSides (x y : ℤ) : Type 0 where
  pub f0 : # (neg_ℤ y) ≈ neg (# y)
  pub f1 : # (x -ℤ y) ≈ # x ⊕ neg (# y)
  pub f3 : # (x +ℤ y) ≈ # x ⊕ # y
  pub f5 : # (neg_ℤ x +ℤ y) ≈ neg (# x) ⊕ # y
  pub f6 : # (neg_ℤ x) ≈ neg (# x)
  pub f7 : # (neg_ℤ x -ℤ y) ≈ neg (# x) ⊕ neg (# y)

pub left_sides : (x y : ℤ) → LeftSides x y
left_sides x y =
    omega (
      arith,
      neg_up x,
      neg_dn x,
      neg_up y,
      neg_dn y,
      diff_parts x y,
      sum_parts x y,
      sum_parts (neg_ℤ x) y,
      diff_parts (neg_ℤ x) y,
    )

pub within : {c : Octagon} {x y : ℤ} → In c x y → Within c x y
within {c} {x} {y} i = omega (arith, le_parts, left_sides x y)

pub cell_in : {c : Octagon} {x y : ℤ} → Within c x y → In c x y
cell_in {c} {x} {y} i =
    let f = left_sides x y in
    record {
      in0 = le (neg (# y)) (# c.c0) f.f0 (omega arith) i.i0;
      in1 = le (# x ⊕ neg (# y)) (# c.c1) f.f1 (omega arith) i.i1;
      in2 = le (# x) (# c.c2) (omega arith) (omega arith) i.i2;
      in3 = le (# x ⊕ # y) (# c.c3) f.f3 (omega arith) i.i3;
      in4 = le (# y) (# c.c4) (omega arith) (omega arith) i.i4;
      in5 = le (neg (# x) ⊕ # y) (# c.c5) f.f5 (omega arith) i.i5;
      in6 = le (neg (# x)) (# c.c6) f.f6 (omega arith) i.i6;
      in7 = le (neg (# x) ⊕ neg (# y)) (# c.c7) f.f7 (omega arith) i.i7;
    }

-- every side has a length of nought or more
pub record Normal (c : Octagon) : Type 0 where
  pub s0 : # c.c0 ⊕ # c.c0 ≼ # c.c7 ⊕ # c.c1
  pub s1 : # c.c1 ≼ # c.c0 ⊕ # c.c2
  pub s2 : # c.c2 ⊕ # c.c2 ≼ # c.c1 ⊕ # c.c3
  pub s3 : # c.c3 ≼ # c.c2 ⊕ # c.c4
  pub s4 : # c.c4 ⊕ # c.c4 ≼ # c.c3 ⊕ # c.c5
  pub s5 : # c.c5 ≼ # c.c4 ⊕ # c.c6
  pub s6 : # c.c6 ⊕ # c.c6 ≼ # c.c5 ⊕ # c.c7
  pub s7 : # c.c7 ≼ # c.c6 ⊕ # c.c0

-- the even bounds are at most r
pub record NearTo (r : ℕ) (c : Octagon) : Type 0 where
  pub near0 : # c.c0 ≼ lit r
  pub near2 : # c.c2 ≼ lit r
  pub near4 : # c.c4 ≼ lit r
  pub near6 : # c.c6 ≼ lit r

-- the even bounds are within the map's limit
abbrev pub Near : Octagon → Type 0
Near = NearTo limit

-- the cell (x, y) has both coordinates from -r to r
pub record OnGrid (r : ℕ) (x y : ℤ) : Type 0 where
  pub west : neg (lit r) ≼ # x
  pub east : # x ≼ lit r
  pub south : neg (lit r) ≼ # y
  pub north : # y ≼ lit r

pub on_grid : {r : ℕ} {x y : ℤ} → Square r x y → OnGrid r x y
unfolding up dn
on_grid {r} {x} {y} m = omega (arith, le_parts, neg_up (pos r), neg_dn (pos r))

pub on_square : {r : ℕ} {x y : ℤ} → OnGrid r x y → Square r x y
unfolding up dn
on_square {r} {x} {y} m = record {
  west = le (neg (lit r)) (# x) (omega (arith, neg_up (pos r), neg_dn (pos r))) (omega arith) m.west;
  east = le (# x) (lit r) (omega arith) (omega arith) m.east;
  south = le (neg (lit r)) (# y) (omega (arith, neg_up (pos r), neg_dn (pos r))) (omega arith) m.south;
  north = le (# y) (lit r) (omega arith) (omega arith) m.north;
}
