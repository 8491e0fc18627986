-- The cells within the differences of two octagons' bounds are the positions at which the second fits into the first,
-- where the second's bounds are all reached. Assumes nothing.
use mathlib.Core.Path.{◌≡◌}
use native.Mathlib.Omega.{arith}
use lib.IntN.{ℤ, ◌+ℤ◌}
use Rattle.integers.proofs.Parts.{sum_parts, diff_parts}
use Rattle.integers.proofs.Linear.{#, ◌⊕◌, neg, ◌≼◌}
use Rattle.octagon.specs.Octagon.{Octagon}
use Rattle.octagon.specs.Cells.{◌≐◌, In}
use Rattle.octagon.proofs.Within.{Within, Normal, within, cell_in}
use Rattle.octagon.proofs.Vertices.{vertex_12, vertex_34, vertex_56, vertex_70}
use Rattle.morphology.specs.Sets.{Eroded}
use Rattle.morphology.specs.Operations.{sums, differences}
use Rattle.morphology.proofs.Sums.{Summed, summed, addend_same}

-- the bounds of a are the sums of those of d and b
pub differing : (a b : Octagon) → Summed (differences a b) b a
unfolding differences
differing a b =
    omega (
      arith,
      diff_parts a.c0 b.c0,
      diff_parts a.c1 b.c1,
      diff_parts a.c2 b.c2,
      diff_parts a.c3 b.c3,
      diff_parts a.c4 b.c4,
      diff_parts a.c5 b.c5,
      diff_parts a.c6 b.c6,
      diff_parts a.c7 b.c7,
    )

-- differences of sums give the first bounds back
pub sums_back : (a b : Octagon) → differences (sums a b) b ≡ a
sums_back a b = addend_same (differences (sums a b) b) b a (sums a b) (differing (sums a b) b) (summed a b)

-- a position within the differences takes each cell of b into a
fits : (a b d : Octagon) → Summed d b a → (x y v w : ℤ) → Within d x y → Within b v w → Within a (x +ℤ v) (y +ℤ w)
fits a b d h x y v w i j = omega (arith, sum_parts x v, sum_parts y w)

-- and a position that takes the vertices of b into a is within them: each bound of b is reached at a vertex
reaches_12 : (a b : Octagon) (x y : ℤ) → Normal b → Eroded (In a) (In b) x y → (# x ⊕ neg (# y) ⊕ # b.c1 ≼ # a.c1) × (# x ⊕ # b.c2 ≼ # a.c2)
reaches_12 a b x y n f =
    let v = vertex_12 b n in
    let i = within (f v.x v.y (cell_in v.inside)) in
    (omega (arith, i.i1, v.at_x, v.at_y, sum_parts x v.x, sum_parts y v.y), omega (arith, i.i2, v.at_x, sum_parts x v.x))

reaches_34 : (a b : Octagon) (x y : ℤ) → Normal b → Eroded (In a) (In b) x y → (# x ⊕ # y ⊕ # b.c3 ≼ # a.c3) × (# y ⊕ # b.c4 ≼ # a.c4)
reaches_34 a b x y n f =
    let v = vertex_34 b n in
    let i = within (f v.x v.y (cell_in v.inside)) in
    (omega (arith, i.i3, v.at_x, v.at_y, sum_parts x v.x, sum_parts y v.y), omega (arith, i.i4, v.at_y, sum_parts y v.y))

reaches_56 : (a b : Octagon) (x y : ℤ) → Normal b → Eroded (In a) (In b) x y → (neg (# x) ⊕ # y ⊕ # b.c5 ≼ # a.c5) × (neg (# x) ⊕ # b.c6 ≼ # a.c6)
reaches_56 a b x y n f =
    let v = vertex_56 b n in
    let i = within (f v.x v.y (cell_in v.inside)) in
    (omega (arith, i.i5, v.at_x, v.at_y, sum_parts x v.x, sum_parts y v.y), omega (arith, i.i6, v.at_x, sum_parts x v.x))

reaches_70 : (a b : Octagon) (x y : ℤ) → Normal b → Eroded (In a) (In b) x y → (neg (# x) ⊕ neg (# y) ⊕ # b.c7 ≼ # a.c7) × (neg (# y) ⊕ # b.c0 ≼ # a.c0)
reaches_70 a b x y n f =
    let v = vertex_70 b n in
    let i = within (f v.x v.y (cell_in v.inside)) in
    (omega (arith, i.i7, v.at_x, v.at_y, sum_parts x v.x, sum_parts y v.y), omega (arith, i.i0, v.at_y, sum_parts y v.y))

-- the differences of bounds by normal bounds bound exactly the positions that fit
pub differences_exact : (a b : Octagon) → Normal b → In (differences a b) ≐ Eroded (In a) (In b)
differences_exact a b n x y = (
  λ i v w j. cell_in (fits a b (differences a b) (differing a b) x y v w (within i) (within j)),
  λ f. cell_in (from (reaches_12 a b x y n f) (reaches_34 a b x y n f) (reaches_56 a b x y n f) (reaches_70 a b x y n f)),
)
  where
    from : (# x ⊕ neg (# y) ⊕ # b.c1 ≼ # a.c1) × (# x ⊕ # b.c2 ≼ # a.c2) →
        (# x ⊕ # y ⊕ # b.c3 ≼ # a.c3) × (# y ⊕ # b.c4 ≼ # a.c4) →
        (neg (# x) ⊕ # y ⊕ # b.c5 ≼ # a.c5) × (neg (# x) ⊕ # b.c6 ≼ # a.c6) →
        (neg (# x) ⊕ neg (# y) ⊕ # b.c7 ≼ # a.c7) × (neg (# y) ⊕ # b.c0 ≼ # a.c0) → Within (differences a b) x y
    from p q r s = let h = differing a b in omega arith
