-- Sums of two octagons' bounds, which tell the addends; and of normal bounds, whose cells are the sums of cells but for opposed rows.
-- Assumes nothing.
use mathlib.Core.Path.{◌≡◌}
use native.Mathlib.Omega.{arith}
use lib.IntN.{ℤ, ◌+ℤ◌, ◌-ℤ◌}
use Rattle.integers.proofs.Parts.{sum_parts, diff_parts}
use Rattle.integers.proofs.Linear.{#, ◌⊕◌, neg, ◌≈◌, int, int_parts, same}
use Rattle.octagon.specs.Octagon.{Octagon}
use Rattle.octagon.specs.Cells.{Cells, ◌⊆◌, ◌≐◌, In}
use Rattle.octagon.proofs.Within.{Within, Normal, within, cell_in}
use Rattle.octagon.proofs.Unique.{both_ways}
use Rattle.morphology.specs.Sets.{Dilated}
use Rattle.morphology.specs.Operations.{sums}
use Rattle.morphology.proofs.Meet.{Opposed, Common, common}

-- the bounds of s are the sums of those of a and b
pub record Summed (a b s : Octagon) : Type 0 where
  pub s0 : # s.c0 ≈ # a.c0 ⊕ # b.c0
  pub s1 : # s.c1 ≈ # a.c1 ⊕ # b.c1
  pub s2 : # s.c2 ≈ # a.c2 ⊕ # b.c2
  pub s3 : # s.c3 ≈ # a.c3 ⊕ # b.c3
  pub s4 : # s.c4 ≈ # a.c4 ⊕ # b.c4
  pub s5 : # s.c5 ≈ # a.c5 ⊕ # b.c5
  pub s6 : # s.c6 ≈ # a.c6 ⊕ # b.c6
  pub s7 : # s.c7 ≈ # a.c7 ⊕ # b.c7

pub summed : (a b : Octagon) → Summed a b (sums a b)
unfolding sums
summed a b = record {
  s0 = sum_parts a.c0 b.c0;
  s1 = sum_parts a.c1 b.c1;
  s2 = sum_parts a.c2 b.c2;
  s3 = sum_parts a.c3 b.c3;
  s4 = sum_parts a.c4 b.c4;
  s5 = sum_parts a.c5 b.c5;
  s6 = sum_parts a.c6 b.c6;
  s7 = sum_parts a.c7 b.c7;
}

-- the sums tell the bounds, and so do one addend and the sums
pub summed_same : (a b s t : Octagon) → Summed a b s → Summed a b t → s ≡ t
summed_same a b s t h k = both_ways s t (omega arith) (omega arith)

pub addend_same : (a b d s : Octagon) → Summed a b s → Summed d b s → a ≡ d
addend_same a b d s h k = both_ways a d (omega arith) (omega arith)

-- normal bounds have normal sums
pub summed_normal : (a b s : Octagon) → Summed a b s → Normal a → Normal b → Normal s
summed_normal a b s h n k = omega arith

-- the sum of two cells is within the sums
join : (a b s : Octagon) → Summed a b s → (v w x y : ℤ) → Within a v w → Within b x y → Within s (v +ℤ x) (w +ℤ y)
join a b s h v w x y i j = omega (arith, sum_parts v x, sum_parts w y)

-- so the sums hold the sums of any sets that the octagons hold
pub sums_hold : {a b : Octagon} {A B : Cells} → A ⊆ In a → B ⊆ In b → Dilated A B ⊆ In (sums a b)
sums_hold {a} {b} h k x y d =
    rw (← d.sum_x, ← d.sum_y)
    (cell_in (join a b (sums a b) (summed a b) d.ax d.ay d.bx d.by (within (h d.ax d.ay d.of_a)) (within (k d.bx d.by d.of_b))))

-- e holds (x - v, y - w) for each cell (v, w) of b: the reflection of b in (x, y)
record Mirror (b e : Octagon) (x y : ℤ) : Type 0 where
  r0 : # e.c0 ≈ # b.c4 ⊕ neg (# y)
  r1 : # e.c1 ≈ # b.c5 ⊕ # x ⊕ neg (# y)
  r2 : # e.c2 ≈ # b.c6 ⊕ # x
  r3 : # e.c3 ≈ # b.c7 ⊕ # x ⊕ # y
  r4 : # e.c4 ≈ # b.c0 ⊕ # y
  r5 : # e.c5 ≈ # b.c1 ⊕ neg (# x) ⊕ # y
  r6 : # e.c6 ≈ # b.c2 ⊕ neg (# x)
  r7 : # e.c7 ≈ # b.c3 ⊕ neg (# x) ⊕ neg (# y)

mirror : {R : Type 0} (b : Octagon) (x y : ℤ) → ((e : Octagon) → Mirror b e x y → R) → R
mirror b x y f =
    f (record {
      c0 = int (# b.c4 ⊕ neg (# y));
      c1 = int (# b.c5 ⊕ # x ⊕ neg (# y));
      c2 = int (# b.c6 ⊕ # x);
      c3 = int (# b.c7 ⊕ # x ⊕ # y);
      c4 = int (# b.c0 ⊕ # y);
      c5 = int (# b.c1 ⊕ neg (# x) ⊕ # y);
      c6 = int (# b.c2 ⊕ neg (# x));
      c7 = int (# b.c3 ⊕ neg (# x) ⊕ neg (# y));
    })
    (record { r0 = int_parts _; r1 = int_parts _; r2 = int_parts _; r3 = int_parts _; r4 = int_parts _; r5 = int_parts _; r6 = int_parts _; r7 = int_parts _ })

-- a cell within the sums is the sum of a cell of a and a cell of b
pub record Split (a b : Octagon) (x y : ℤ) : Type 0 where
  pub v : ℤ
  pub w : ℤ
  pub of_a : Within a v w
  pub of_b : Within b (x -ℤ v) (y -ℤ w)

pub split : (a b s : Octagon) → Normal a → Normal b → ¬ (Opposed a b) → ¬ (Opposed b a) → Summed a b s →
    (x y : ℤ) → Within s x y → Split a b x y
split a b s n k o o' h x y i =
    mirror b x y λ e r. go e r (common a e n (omega arith) (omega arith) (λ q. o (omega arith)) (λ q. o' (omega arith)))
  where
    go : (e : Octagon) → Mirror b e x y → Common a e → Split a b x y
    go e r t = record { v = t.x; w = t.y; of_a = t.in_left; of_b = turned t.x t.y t.in_right }
      where
        turned : (v w : ℤ) → Within e v w → Within b (x -ℤ v) (y -ℤ w)
        turned v w j = omega (arith, diff_parts x v, diff_parts y w)

there_and_back : (v x : ℤ) → v +ℤ (x -ℤ v) ≡ x
there_and_back v x = same (# x) (omega (arith, sum_parts v (x -ℤ v), diff_parts x v)) (omega arith)

-- the sums of normal bounds that are not opposed bound exactly the sums of the cells
pub sums_exact : (a b : Octagon) → Normal a → Normal b → ¬ (Opposed a b) → ¬ (Opposed b a) → In (sums a b) ≐ Dilated (In a) (In b)
sums_exact a b n k o o' x y = (to, sums_hold (λ v w i. i) (λ v w i. i) x y)
  where
    to : In (sums a b) x y → Dilated (In a) (In b) x y
    to i =
        let t = split a b (sums a b) n k o o' (summed a b) x y (within i) in
        record {
          ax = t.v;
          ay = t.w;
          bx = x -ℤ t.v;
          by = y -ℤ t.w;
          of_a = cell_in t.of_a;
          of_b = cell_in t.of_b;
          sum_x = there_and_back t.v x;
          sum_y = there_and_back t.w y;
        }
