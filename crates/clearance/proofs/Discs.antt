-- The cells at a distance from a centre or less: their smallest octagon is the one cell's, moved outward by the radius along the axes and by
-- the slant reach along the slants; a greater radius holds more cells; and the radius 0 holds the centre alone. Assumes nothing.
use mathlib.Core.Path.{◌≡◌, refl}
use Prim.Native.Nat.{ℕ, zero, suc, ◌+◌, ◌*◌, ◌≤◌}
use native.Mathlib.Nat.{mul-le-mul}
use native.Mathlib.Omega.{arith}
use lib.IntN.{ℤ, pos, negsuc, neg_ℤ, nat_abs, ◌+ℤ◌, ◌-ℤ◌}
use Rattle.integers.proofs.Parts.{up, dn, sum_parts, diff_parts, neg_up, neg_dn, parts_eq, eq_parts}
use Rattle.octagon.specs.Cells.{Cells, ◌⊆◌, ◌≐◌, Some, ReachedBy, Smallest}
use Rattle.octagon.specs.OneCell.{OneCell}
use Rattle.octagon.proofs.Smallest.{smallest_when}
use Rattle.clearance.specs.Disc.{Disc}
use Rattle.clearance.specs.Clearing.{slant_reach, octagon_about}
use Rattle.clearance.proofs.Squares.{leg, Legs, legs}
use Rattle.clearance.proofs.Reaches.{reach_meets}
use Rattle.clearance.proofs.DiscCells.{in_disc_means, in_disc_when, reaching, disc_holds}

-- ---- integers by how far they are from 0

abs_neg : (n : ℕ) → nat_abs (neg_ℤ (pos n)) ≡ n
abs_neg zero = refl
abs_neg (suc n) = refl

-- a step there, taken back
back_again : (a d : ℤ) → (a +ℤ d) -ℤ a ≡ d
back_again a d = parts_eq ((a +ℤ d) -ℤ a) d (omega (arith, sum_parts a d, diff_parts (a +ℤ d) a))

module _ (i j : ℤ) (r : ℕ) where
  -- ---- each bound is reached by a cell

  -- the cell that is moved from the centre by d and e, a columns and b rows
  at : {P : Cells} (d e : ℤ) (a b : ℕ) → nat_abs d ≡ a → nat_abs e ≡ b → a * a + b * b ≤ r * r → P (i +ℤ d) (j +ℤ e) → Some (λ x y. Disc i j r x y × P x y)
  at d e a b p q h w =
      record { x = i +ℤ d; y = j +ℤ e; cell = (in_disc_when i j r (i +ℤ d) (j +ℤ e) (rw (back_again i d, back_again j e, p, q) h), w) }

  disc_reaches : (s : ℕ) → Legs r s → ReachedBy (Disc i j r) (reaching i j r s)
  unfolding up dn
  disc_reaches s l =
      let a = l.a in
      let b = l.b in
      let left = neg_ℤ (pos a) in
      let down = neg_ℤ (pos b) in
      let back = neg_ℤ (pos r) in
      let e = l.sum in
      record {
        reached0 = at (pos 0) back 0 r refl (abs_neg r) (omega arith)
            (parts_eq (neg_ℤ (j +ℤ back)) (pos r +ℤ neg_ℤ j)
            (omega (arith, neg_up (j +ℤ back), neg_dn (j +ℤ back), sum_parts j back, neg_up (pos r), neg_dn (pos r), sum_parts (pos r) (neg_ℤ j), neg_up j, neg_dn j)));
        reached1 = at (pos a) down a b refl (abs_neg b) l.within
            (parts_eq ((i +ℤ pos a) -ℤ (j +ℤ down)) (pos s +ℤ (i -ℤ j))
            (omega (arith, diff_parts (i +ℤ pos a) (j +ℤ down), sum_parts i (pos a), sum_parts j down, neg_up (pos b), neg_dn (pos b), sum_parts (pos s) (i -ℤ j), diff_parts i j)));
        reached2 = at (pos r) (pos 0) r 0 refl refl (omega arith)
            (parts_eq (i +ℤ pos r) (pos r +ℤ i) (omega (arith, sum_parts i (pos r), sum_parts (pos r) i)));
        reached3 = at (pos a) (pos b) a b refl refl l.within
            (parts_eq ((i +ℤ pos a) +ℤ (j +ℤ pos b)) (pos s +ℤ (i +ℤ j))
            (omega (arith, sum_parts (i +ℤ pos a) (j +ℤ pos b), sum_parts i (pos a), sum_parts j (pos b), sum_parts (pos s) (i +ℤ j), sum_parts i j)));
        reached4 = at (pos 0) (pos r) 0 r refl refl (omega arith)
            (parts_eq (j +ℤ pos r) (pos r +ℤ j) (omega (arith, sum_parts j (pos r), sum_parts (pos r) j)));
        reached5 = at left (pos b) a b (abs_neg a) refl l.within
            (parts_eq (neg_ℤ (i +ℤ left) +ℤ (j +ℤ pos b)) (pos s +ℤ (neg_ℤ i +ℤ j))
            (omega (arith, sum_parts (neg_ℤ (i +ℤ left)) (j +ℤ pos b), neg_up (i +ℤ left), neg_dn (i +ℤ left), sum_parts i left, neg_up (pos a), neg_dn (pos a), sum_parts j (pos b), sum_parts (pos s) (neg_ℤ i +ℤ j), sum_parts (neg_ℤ i) j, neg_up i, neg_dn i)));
        reached6 = at back (pos 0) r 0 (abs_neg r) refl (omega arith)
            (parts_eq (neg_ℤ (i +ℤ back)) (pos r +ℤ neg_ℤ i)
            (omega (arith, neg_up (i +ℤ back), neg_dn (i +ℤ back), sum_parts i back, neg_up (pos r), neg_dn (pos r), sum_parts (pos r) (neg_ℤ i), neg_up i, neg_dn i)));
        reached7 = at left down a b (abs_neg a) (abs_neg b) l.within
            (parts_eq (neg_ℤ (i +ℤ left) -ℤ (j +ℤ down)) (pos s +ℤ (neg_ℤ i -ℤ j))
            (omega (arith, diff_parts (neg_ℤ (i +ℤ left)) (j +ℤ down), neg_up (i +ℤ left), neg_dn (i +ℤ left), sum_parts i left, neg_up (pos a), neg_dn (pos a), sum_parts j down, neg_up (pos b), neg_dn (pos b), sum_parts (pos s) (neg_ℤ i -ℤ j), diff_parts (neg_ℤ i) j, neg_up i, neg_dn i)));
      }

  -- ---- so they are the smallest

  pub disc_smallest : Smallest (octagon_about i j r) (Disc i j r)
  unfolding octagon_about
  disc_smallest =
      let k = reach_meets r in
      smallest_when (disc_holds i j r (slant_reach r) k) (disc_reaches (slant_reach r) (legs r (slant_reach r) k))

-- ---- the radius alone

-- a larger radius about the same centre holds the cells of a smaller
pub disc_wider : (i j : ℤ) (r q : ℕ) → r ≤ q → Disc i j r ⊆ Disc i j q
disc_wider i j r q l x y h = in_disc_when i j q x y (omega (arith, in_disc_means i j r x y h, mul-le-mul {n₁ = r} {m₁ = r} {n₂ = q} {m₂ = q} l l))

itself : (z : ℤ) → z -ℤ z ≡ pos 0
unfolding up dn
itself z = parts_eq (z -ℤ z) (pos 0) (omega (arith, diff_parts z z))

-- the radius 0 holds the centre
centre_in : (i j : ℤ) → Disc i j 0 i j
centre_in i j = in_disc_when i j 0 i j (rw (itself i, itself j) (omega arith))

-- and no other cell
no_distance : (z : ℤ) → nat_abs z ≤ 0 → z ≡ pos 0
no_distance (pos zero) h = refl
no_distance (pos (suc n)) h = absurd (omega arith)
no_distance (negsuc n) h = absurd (omega arith)

at_centre : (a b : ℤ) → a -ℤ b ≡ pos 0 → a ≡ b
unfolding up dn
at_centre a b e = parts_eq a b (omega (arith, diff_parts a b, eq_parts e))

pub disc_nought : (i j : ℤ) → Disc i j 0 ≐ OneCell i j
disc_nought i j x y = (
  λ h. let t = in_disc_means i j 0 x y h in
      (at_centre x i (no_distance (x -ℤ i) (leg (nat_abs (x -ℤ i)) (nat_abs (y -ℤ j)) 0 t)), at_centre y j (no_distance (y -ℤ j) (leg (nat_abs (y -ℤ j)) (nat_abs (x -ℤ i)) 0 (omega arith)))),
  λ h. rw (h.0, h.1) (centre_in i j),
)

-- so the centre is a cell of every disc about it
pub disc_centre : (i j : ℤ) (r : ℕ) → Disc i j r i j
disc_centre i j r = disc_wider i j 0 r (omega arith) i j (centre_in i j)
