-- The cells inside the walk are those within the bounds of the outline. Assumes nothing.
use mathlib.Core.Logic.{◌↔◌}
use native.Mathlib.Omega.{arith}
use lib.IntN.{ℤ, pos, negsuc, ◌-ℤ◌, ◌*ℤ◌}
use lib.Signed.{◌≤ℤ◌}
use Rattle.integers.proofs.Parts.{up, dn, diff_parts, le_parts}
use Rattle.integers.proofs.Linear.{Diff, #, ◌⊕◌, neg, lit, ◌≼◌, ◌≈◌, le}
use Rattle.octagon.specs.Cells.{◌≐◌, In}
use Rattle.octagon.proofs.Within.{Within, within, cell_in}
use Rattle.outline.specs.declared.Outline.{Outline}
use Rattle.outline.specs.Walk.{vertex, LeftOf, InsideWalk}
use Rattle.outline.specs.Tracing.{drawn}
use Rattle.outline.proofs.Steps.{eight, once, never, reversed}
use Rattle.outline.proofs.Drawn.{walked, reached}

-- ---- one side

record Is (z : ℤ) (d : Diff) : Type 0 where
  is : # z ≈ d

plus : (a b : ℤ) → Is (pos 1 *ℤ (a -ℤ b)) (# a ⊕ neg (# b))
plus a b = omega (arith, once (a -ℤ b), diff_parts a b)

nought : (a b : ℤ) → Is (pos 0 *ℤ (a -ℤ b)) (lit 0)
nought a b = record { is = never (a -ℤ b) }

minus : (a b : ℤ) → Is (negsuc 0 *ℤ (a -ℤ b)) (# b ⊕ neg (# a))
minus a b = omega (arith, reversed (a -ℤ b), diff_parts a b)

-- a difference that is nought or more
at_least : {p q : ℤ} {d e : Diff} → Is p d → Is q e → (pos 0 ≤ℤ (p -ℤ q)) ↔ (e ≼ d)
unfolding up dn
at_least {p} {q} {d} {e} h k = (
  λ l. omega (arith, le_parts l, diff_parts p q),
  λ l. le (lit 0) (d ⊕ neg e) (omega arith) (omega (arith, diff_parts p q)) (omega arith),
)

-- ---- all eight

-- the cell (x, y) lies on or to the left of each side, as linear facts
record Inside (o : Outline) (x y : ℤ) : Type 0 where
  l0 : # (vertex o 0).y ≼ # y
  l1 : # x ⊕ neg (# (vertex o 1).x) ≼ # y ⊕ neg (# (vertex o 1).y)
  l2 : # x ≼ # (vertex o 2).x
  l3 : # x ⊕ neg (# (vertex o 3).x) ≼ # (vertex o 3).y ⊕ neg (# y)
  l4 : # y ≼ # (vertex o 4).y
  l5 : # (vertex o 5).x ⊕ neg (# x) ≼ # (vertex o 5).y ⊕ neg (# y)
  l6 : # (vertex o 6).x ≼ # x
  l7 : # (vertex o 7).x ⊕ neg (# x) ≼ # y ⊕ neg (# (vertex o 7).y)

module _ (o : Outline) (x y : ℤ) where
  side0 : LeftOf 0 (vertex o 0) x y ↔ (lit 0 ≼ # y ⊕ neg (# (vertex o 0).y))
  side0 = at_least (plus y (vertex o 0).y) (nought x (vertex o 0).x)

  side1 : LeftOf 1 (vertex o 1) x y ↔ (# x ⊕ neg (# (vertex o 1).x) ≼ # y ⊕ neg (# (vertex o 1).y))
  side1 = at_least (plus y (vertex o 1).y) (plus x (vertex o 1).x)

  side2 : LeftOf 2 (vertex o 2) x y ↔ (# x ⊕ neg (# (vertex o 2).x) ≼ lit 0)
  side2 = at_least (nought y (vertex o 2).y) (plus x (vertex o 2).x)

  side3 : LeftOf 3 (vertex o 3) x y ↔ (# x ⊕ neg (# (vertex o 3).x) ≼ # (vertex o 3).y ⊕ neg (# y))
  side3 = at_least (minus y (vertex o 3).y) (plus x (vertex o 3).x)

  side4 : LeftOf 4 (vertex o 4) x y ↔ (lit 0 ≼ # (vertex o 4).y ⊕ neg (# y))
  side4 = at_least (minus y (vertex o 4).y) (nought x (vertex o 4).x)

  side5 : LeftOf 5 (vertex o 5) x y ↔ (# (vertex o 5).x ⊕ neg (# x) ≼ # (vertex o 5).y ⊕ neg (# y))
  side5 = at_least (minus y (vertex o 5).y) (minus x (vertex o 5).x)

  side6 : LeftOf 6 (vertex o 6) x y ↔ (# (vertex o 6).x ⊕ neg (# x) ≼ lit 0)
  side6 = at_least (nought y (vertex o 6).y) (minus x (vertex o 6).x)

  side7 : LeftOf 7 (vertex o 7) x y ↔ (# (vertex o 7).x ⊕ neg (# x) ≼ # y ⊕ neg (# (vertex o 7).y))
  side7 = at_least (plus y (vertex o 7).y) (minus x (vertex o 7).x)

  told : InsideWalk o x y → Inside o x y
  told h = record {
    l0 = let l = side0.0 (h 0 (omega arith)) in omega arith;
    l1 = side1.0 (h 1 (omega arith));
    l2 = let l = side2.0 (h 2 (omega arith)) in omega arith;
    l3 = side3.0 (h 3 (omega arith));
    l4 = let l = side4.0 (h 4 (omega arith)) in omega arith;
    l5 = side5.0 (h 5 (omega arith));
    l6 = let l = side6.0 (h 6 (omega arith)) in omega arith;
    l7 = side7.0 (h 7 (omega arith));
  }

  from : Inside o x y → InsideWalk o x y
  from i =
      eight (λ k. LeftOf k (vertex o k) x y)
      (side0.1 (omega arith))
      (side1.1 i.l1)
      (side2.1 (omega arith))
      (side3.1 i.l3)
      (side4.1 (omega arith))
      (side5.1 i.l5)
      (side6.1 (omega arith))
      (side7.1 i.l7)

-- ---- and the bounds

within_inside : (o : Outline) (x y : ℤ) → Within (drawn o) x y → Inside o x y
within_inside o x y i = let w = walked o in let r = reached o in omega arith

inside_within : (o : Outline) (x y : ℤ) → Inside o x y → Within (drawn o) x y
inside_within o x y i = let w = walked o in let r = reached o in omega arith

pub inside_walk : (o : Outline) → In (drawn o) ≐ InsideWalk o
inside_walk o x y = (λ i. from o x y (within_inside o x y (within i)), λ h. cell_in (inside_within o x y (told o x y h)))
