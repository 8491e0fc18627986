-- The cells of a disc by their distances in columns and rows, and that each is within the bounds that reach the radius along the axes and
-- the slant reach along the slants. Assumes nothing.
use mathlib.Core.Path.{◌≡◌, refl}
use Prim.Native.Nat.{ℕ, ◌+◌, ◌*◌, ◌≤◌}
use native.Mathlib.Omega.{arith}
use lib.Dec.{leb→le, le→leb}
use lib.IntN.{ℤ, pos, negsuc, neg_ℤ, nat_abs, ◌+ℤ◌, ◌-ℤ◌}
use Rattle.integers.proofs.Parts.{up, dn, sum_parts, diff_parts, neg_up, neg_dn}
use Rattle.integers.proofs.Linear.{#, neg, lit, ◌≼◌}
use Rattle.octagon.specs.Octagon.{Octagon}
use Rattle.octagon.specs.Cells.{◌⊆◌, In}
use Rattle.octagon.proofs.Within.{Within, cell_in}
use Rattle.clearance.specs.Disc.{square, Disc, SlantReach}
use Rattle.clearance.specs.Clearing.{axes, with_slants}
use Rattle.clearance.proofs.Squares.{leg, slant}

-- ---- integers by how far they are from 0

abs_most : (z : ℤ) → (# z ≼ lit (nat_abs z)) × (neg (# z) ≼ lit (nat_abs z))
unfolding up dn
abs_most (pos n) = (omega arith, omega arith)
abs_most (negsuc n) = (omega arith, omega arith)

square_is : (z : ℤ) → square z ≡ pos (nat_abs z * nat_abs z)
square_is (pos n) = refl
square_is (negsuc n) = refl

module _ (i j : ℤ) (r : ℕ) where
  -- how many columns and how many rows a cell is from the centre
  abbrev pub across : ℤ → ℕ
  across x = nat_abs (x -ℤ i)

  abbrev pub upward : ℤ → ℕ
  upward y = nat_abs (y -ℤ j)

  pub in_disc_means : (x y : ℤ) → Disc i j r x y → across x * across x + upward y * upward y ≤ r * r
  in_disc_means x y h = leb→le _ _ (rw (square_is (x -ℤ i), square_is (y -ℤ j)) at h.le)

  pub in_disc_when : (x y : ℤ) → across x * across x + upward y * upward y ≤ r * r → Disc i j r x y
  in_disc_when x y h = rw (square_is (x -ℤ i), square_is (y -ℤ j)) (record { le = le→leb _ _ h })

  -- the bounds that reach r along the axes and s along the slants
  abbrev pub reaching : ℕ → Octagon
  reaching s = with_slants (axes i j r) i j s

  -- ---- each cell is within the bounds

  pub disc_holds : (s : ℕ) → SlantReach r s → Disc i j r ⊆ In (reaching s)
  unfolding up dn
  disc_holds s k x y h = cell_in (go (across x) (upward y) (in_disc_means x y h) (abs_most (x -ℤ i)) (abs_most (y -ℤ j)))
    where
      go : (a b : ℕ) → a * a + b * b ≤ r * r →
          (# (x -ℤ i) ≼ lit a) × (neg (# (x -ℤ i)) ≼ lit a) → (# (y -ℤ j) ≼ lit b) × (neg (# (y -ℤ j)) ≼ lit b) →
          Within (reaching s) x y
      go a b q d e =
          let la : a ≤ r = leg a b r q in
          let lb : b ≤ r = leg b a r (omega arith) in
          let ls : a + b ≤ s = slant a b r s q k in
          let dx = diff_parts x i in
          let dy = diff_parts y j in
          record {
            i0 = omega (arith, sum_parts (pos r) (neg_ℤ j), neg_up j, neg_dn j);
            i1 = omega (arith, sum_parts (pos s) (i -ℤ j), diff_parts i j);
            i2 = omega (arith, sum_parts (pos r) i);
            i3 = omega (arith, sum_parts (pos s) (i +ℤ j), sum_parts i j);
            i4 = omega (arith, sum_parts (pos r) j);
            i5 = omega (arith, sum_parts (pos s) (neg_ℤ i +ℤ j), sum_parts (neg_ℤ i) j, neg_up i, neg_dn i);
            i6 = omega (arith, sum_parts (pos r) (neg_ℤ i), neg_up i, neg_dn i);
            i7 = omega (arith, sum_parts (pos s) (neg_ℤ i -ℤ j), diff_parts (neg_ℤ i) j, neg_up i, neg_dn i);
          }
