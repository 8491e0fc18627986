-- The cells of an octagon whose sides are nought or more: with those cut off they are the rectangle round it.
-- Assumes nothing.
use mathlib.Core.Path.{◌≡◌, ap}
use Prim.Native.Nat.{ℕ, suc, ◌+◌, ◌*◌}
use native.Mathlib.Omega.{arith}
use lib.IntN.{ℤ, pos, ◌+ℤ◌, ◌-ℤ◌, nat_abs}
use Rattle.integers.proofs.Parts.{up, dn, sum_parts, diff_parts}
use Rattle.integers.proofs.Linear.{#, ◌⊕◌, lit, ◌≼◌, ◌≈◌, natural}
use Rattle.octagon.specs.Octagon.{Octagon}
use Rattle.octagon.specs.NormalForm.{odd_side}
use Rattle.octagon.proofs.Within.{Within, Normal, within, cell_in}
use Rattle.octagon.proofs.Sides.{odd_is}
use Rattle.cell_count.specs.Count.{one, at, row, count, inside}
use Rattle.cell_count.specs.Area.{extent, rectangle, cuts}
use Rattle.cell_count.proofs.Sums.{sum_zero, sum_window}
use Rattle.cell_count.proofs.Counts.{at_parts}
use Rattle.cell_count.proofs.Inside.{inside_is, outside}
use Rattle.cell_count.proofs.Rows.{Plan, Apart, Cell, taken, cut_off, row_cells, all_rows}

-- ---- lengths

pub extent_parts : (l h : ℤ) → # (l +ℤ h +ℤ pos 1) ≈ # l ⊕ # h ⊕ lit 1
unfolding up dn
extent_parts l h = omega (arith, sum_parts (l +ℤ h) (pos 1), sum_parts l h)

extent_is : (l h : ℤ) → lit 0 ≼ # l ⊕ # h ⊕ lit 1 → lit (extent l h) ≈ # l ⊕ # h ⊕ lit 1
extent_is l h k = omega (arith, extent_parts l h, natural (l +ℤ h +ℤ pos 1) (omega (arith, extent_parts l h)))

side_is : (b o a : ℤ) → # o ≼ # b ⊕ # a → lit (nat_abs (odd_side b o a)) ⊕ # o ≈ # b ⊕ # a
side_is b o a h = omega (arith, odd_is b o a, natural (odd_side b o a) (omega (arith, odd_is b o a)))

-- how far a bound is from the edge of the square
margin_is : (r : ℕ) (b : ℤ) → # b ≼ lit r → lit (nat_abs (pos r -ℤ b)) ⊕ # b ≈ lit r
unfolding up dn
margin_is r b h = omega (arith, diff_parts (pos r) b, natural (pos r -ℤ b) (omega (arith, diff_parts (pos r) b)))

-- ---- the plan of an octagon

-- the octagon is within the square of radius r
pub record Fits (r : ℕ) (c : Octagon) : Type 0 where
  pub fits0 : # c.c0 ≼ lit r
  pub fits2 : # c.c2 ≼ lit r
  pub fits4 : # c.c4 ≼ lit r
  pub fits6 : # c.c6 ≼ lit r

-- z is the plan of the octagon c in the square of radius r
record Planned (r : ℕ) (c : Octagon) (z : Plan) : Type 0 where
  is_left : lit z.left ⊕ # c.c6 ≈ lit r
  is_low : lit z.low ⊕ # c.c0 ≈ lit r
  is_w : lit z.w ≈ # c.c6 ⊕ # c.c2 ⊕ lit 1
  is_h : lit z.h ≈ # c.c0 ⊕ # c.c4 ⊕ lit 1
  is_1 : lit z.n1 ⊕ # c.c1 ≈ # c.c0 ⊕ # c.c2
  is_3 : lit z.n3 ⊕ # c.c3 ≈ # c.c2 ⊕ # c.c4
  is_5 : lit z.n5 ⊕ # c.c5 ≈ # c.c4 ⊕ # c.c6
  is_7 : lit z.n7 ⊕ # c.c7 ≈ # c.c6 ⊕ # c.c0

module _ (r : ℕ) (c : Octagon) (n : Normal c) (o : Fits r c) (z : Plan) (f : Planned r c z) where
  apart : Apart z
  apart = omega arith

  in_plan : (i j k : ℕ) → suc (j + k) ≡ z.h → Within c (at r i) (at r (z.low + j)) → Cell z i j k
  in_plan i j k e g = omega (arith, at_parts r i, at_parts r (z.low + j))

  plan_in : (i j k : ℕ) → suc (j + k) ≡ z.h → Cell z i j k → Within c (at r i) (at r (z.low + j))
  plan_in i j k e g = omega (arith, at_parts r i, at_parts r (z.low + j))

  line : ℕ → ℕ
  line j = row r (λ x. inside c x (at r j))

  line_is : (j k : ℕ) → suc (j + k) ≡ z.h → line (z.low + j) + (taken z.n5 z.n7 j k + taken z.n3 z.n1 j k) ≡ z.w
  unfolding line row
  line_is j k e =
      let y : ℤ = at r (z.low + j) in
      row_cells z apart j k e (2 * r + 1) (λ i. inside c (at r i) y) (omega arith)
      (λ i g. (inside_is c (at r i) y).1 (cell_in (plan_in i j k e g))) (λ i g. in_plan i j k e (within ((inside_is c (at r i) y).0 g)))

  line_none : (j : ℕ) → ((i : ℕ) → Within c (at r i) (at r j) → ⊥) → line j ≡ 0
  unfolding line row one
  line_none j h = sum_zero (2 * r + 1) (λ i _. ap one (outside c (at r i) (at r j) (λ g. h i (within g))))

  planned : count r (inside c) + cut_off z ≡ z.h * z.w
  unfolding count line
  planned =
      omega (
        arith,
        all_rows z apart (λ j. line (z.low + j)) line_is,
        sum_window (2 * r + 1) z.low z.h line (omega arith)
            (λ j b. line_none j (λ i g. omega (arith, at_parts r j))) (λ j b. line_none j (λ i g. omega (arith, at_parts r j))),
      )

-- ---- the formula

abbrev plan : ℕ → Octagon → Plan
plan r c = record {
  left = nat_abs (pos r -ℤ c.c6);
  low = nat_abs (pos r -ℤ c.c0);
  w = extent c.c6 c.c2;
  h = extent c.c0 c.c4;
  n1 = nat_abs (odd_side c.c0 c.c1 c.c2);
  n3 = nat_abs (odd_side c.c2 c.c3 c.c4);
  n5 = nat_abs (odd_side c.c4 c.c5 c.c6);
  n7 = nat_abs (odd_side c.c6 c.c7 c.c0);
}

plan_is : (r : ℕ) (c : Octagon) → Normal c → Fits r c → Planned r c (plan r c)
plan_is r c n o = record {
  is_left = margin_is r c.c6 o.fits6;
  is_low = margin_is r c.c0 o.fits0;
  is_w = extent_is c.c6 c.c2 (omega arith);
  is_h = extent_is c.c0 c.c4 (omega arith);
  is_1 = side_is c.c0 c.c1 c.c2 n.s1;
  is_3 = side_is c.c2 c.c3 c.c4 n.s3;
  is_5 = side_is c.c4 c.c5 c.c6 n.s5;
  is_7 = side_is c.c6 c.c7 c.c0 n.s7;
}

-- the octagon's cells with those cut off are the rectangle's
pub cells_and_cuts : (r : ℕ) (c : Octagon) → Normal c → Fits r c → count r (inside c) + cuts c ≡ rectangle c
unfolding rectangle cuts
cells_and_cuts r c n o = planned r c n o (plan r c) (plan_is r c n o)
