-- The lengths that the formula adds and multiplies, for an octagon that is its own normal form: how large they are. Assumes nothing.
use mathlib.Core.Path.{◌≡◌}
use Prim.Native.Nat.{ℕ, ◌+◌, ◌*◌, ◌≤◌}
use native.Mathlib.Nat.{mul-le-mul}
use native.Mathlib.Omega.{arith}
use lib.Dec.{T}
use lib.IntN.{ℤ, pos, negsuc, ◌+ℤ◌, nat_abs}
use lib.Signed.{non_neg}
use Rattle.integers.proofs.Parts.{up, dn, le_parts, parts_le}
use Rattle.integers.proofs.Linear.{Diff, #, ◌⊕◌, neg, lit, ◌≼◌, ◌≈◌}
use Rattle.octagon.specs.Octagon.{Octagon}
use Rattle.octagon.specs.Outcome.{accepted}
use Rattle.octagon.specs.Cells.{limit}
use Rattle.octagon.specs.NormalForm.{odd_side, normalised}
use Rattle.octagon.proofs.Within.{Near}
use Rattle.octagon.proofs.Sides.{odd_is}
use Rattle.octagon.proofs.NormalForms.{accepted_normal, accepted_near}
use Rattle.cell_count.specs.Area.{triangle, extent, rectangle, cut, cuts, MapLength}
use Rattle.cell_count.proofs.Formula.{Fits, extent_parts, cells_and_cuts}

-- ---- an accepted octagon

-- the map, and every larger square, holds it
pub near_fits : (r : ℕ) (a : Octagon) → limit ≤ r → Near a → Fits r a
near_fits r a h n = omega arith

-- ---- lengths

-- a length that is equal to a difference
length_is : {z : ℤ} (d : Diff) → # z ≈ d → lit 0 ≼ d → d ≼ lit (2 * limit + 1) → MapLength z
unfolding up dn
length_is {z} d e l m = record {
  least = parts_le (pos 0) z (omega arith);
  most = parts_le z (pos (2 * limit + 1)) (omega arith);
}

pub length_at : {x z : ℤ} → x ≡ z → MapLength z → MapLength x
length_at e h = rw e h

pub length_most : (z : ℤ) → MapLength z → nat_abs z ≤ 2 * limit + 1
unfolding up dn
length_most (pos n) h = omega (arith, le_parts h.most)
length_most (negsuc n) h = absurd (omega (arith, le_parts h.least))

pub length_unsigned : (z : ℤ) → MapLength z → T (non_neg z)
unfolding up dn
length_unsigned (pos n) h = tt
length_unsigned (negsuc n) h = absurd (omega (arith, le_parts h.least))

-- the six lengths of the formula
pub record Lengths (a : Octagon) : Type 0 where
  pub height : MapLength (a.c0 +ℤ a.c4 +ℤ pos 1)
  pub width : MapLength (a.c6 +ℤ a.c2 +ℤ pos 1)
  pub side1 : MapLength (odd_side a.c0 a.c1 a.c2)
  pub side3 : MapLength (odd_side a.c2 a.c3 a.c4)
  pub side5 : MapLength (odd_side a.c4 a.c5 a.c6)
  pub side7 : MapLength (odd_side a.c6 a.c7 a.c0)

pub lengths : (a : Octagon) → normalised a ≡ accepted a → Lengths a
lengths a e =
    let n = accepted_normal a a e in
    let m = accepted_near a a e in
    record {
      height = length_is (# a.c0 ⊕ # a.c4 ⊕ lit 1) (extent_parts a.c0 a.c4) (omega arith) (omega arith);
      width = length_is (# a.c6 ⊕ # a.c2 ⊕ lit 1) (extent_parts a.c6 a.c2) (omega arith) (omega arith);
      side1 = length_is (# a.c0 ⊕ # a.c2 ⊕ neg (# a.c1)) (odd_is a.c0 a.c1 a.c2) (omega arith) (omega arith);
      side3 = length_is (# a.c2 ⊕ # a.c4 ⊕ neg (# a.c3)) (odd_is a.c2 a.c3 a.c4) (omega arith) (omega arith);
      side5 = length_is (# a.c4 ⊕ # a.c6 ⊕ neg (# a.c5)) (odd_is a.c4 a.c5 a.c6) (omega arith) (omega arith);
      side7 = length_is (# a.c6 ⊕ # a.c0 ⊕ neg (# a.c7)) (odd_is a.c6 a.c7 a.c0) (omega arith) (omega arith);
    }

-- ---- products

-- the map's cells and one column more: no product and no cut is larger
abbrev pub greatest : ℕ
greatest = (2 * limit + 1) * (2 * limit + 2)

pub product_most : (m n : ℕ) → m ≤ 2 * limit + 1 → n ≤ 2 * limit + 2 → m * n ≤ greatest
product_most m n h k = mul-le-mul {n₁ = m} {m₁ = n} {n₂ = 2 * limit + 1} {m₂ = 2 * limit + 2} h k

pub record Small (a : Octagon) : Type 0 where
  pub small1 : cut a.c0 a.c1 a.c2 ≤ greatest
  pub small3 : cut a.c2 a.c3 a.c4 ≤ greatest
  pub small5 : cut a.c4 a.c5 a.c6 ≤ greatest
  pub small7 : cut a.c6 a.c7 a.c0 ≤ greatest

cut_most : (b o a : ℤ) → MapLength (odd_side b o a) → cut b o a ≤ greatest
unfolding triangle
cut_most b o a h =
    let n : ℕ = nat_abs (odd_side b o a) in
    let l : n ≤ 2 * limit + 1 = length_most (odd_side b o a) h in
    omega (arith, product_most n (n + 1) l (omega arith))

pub small : (a : Octagon) → Lengths a → Small a
small a l = record {
  small1 = cut_most a.c0 a.c1 a.c2 l.side1;
  small3 = cut_most a.c2 a.c3 a.c4 l.side3;
  small5 = cut_most a.c4 a.c5 a.c6 l.side5;
  small7 = cut_most a.c6 a.c7 a.c0 l.side7;
}

pub rectangle_most : (a : Octagon) → Lengths a → rectangle a ≤ greatest
unfolding rectangle
rectangle_most a l =
    product_most (extent a.c0 a.c4) (extent a.c6 a.c2) (length_most _ l.height)
    (omega (arith, length_most (a.c6 +ℤ a.c2 +ℤ pos 1) l.width))

-- what is cut off is within the rectangle
pub cuts_most : (a : Octagon) → normalised a ≡ accepted a → cuts a ≤ rectangle a
cuts_most a e =
    omega (arith, cells_and_cuts limit a (accepted_normal a a e) (near_fits limit a (omega arith) (accepted_near a a e)))
