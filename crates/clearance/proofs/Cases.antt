-- Each answer of `around` is given exactly where its case of specs/Cases.antt holds (`around_exactly`); what an accepted one means; that a
-- larger radius about the same centre holds the smaller's octagon; and that the radius 0 gives the one cell. Assumes nothing.
use mathlib.Core.Path.{◌≡◌, refl, sym, ap, subst, ◌∙◌}
use mathlib.Core.Logic.{◌↔◌}
use Prim.Native.Nat.{ℕ, ◌≤◌, ◌<◌}
use native.Mathlib.Omega.{arith}
use lib.Dec.{leb}
use lib.IntN.{ℤ}
use borrow.Author.Tests.{leb-true, leb-false, le-leb, lt-leb}
use Rattle.integers.proofs.Tests.{cases}
use Rattle.octagon.specs.Octagon.{Octagon}
use Rattle.octagon.specs.Outcome.{Outcome, accepted, refused, off_map}
use Rattle.octagon.specs.Cells.{◌⊆◌, In, OnMap, LeavesMap, Smallest}
use Rattle.octagon.specs.NormalForm.{placed, normalised}
use Rattle.octagon.specs.OneCell.{one_cell}
use Rattle.octagon.proofs.Outcomes.{accepted_same, accepted_not_refused}
use Rattle.octagon.proofs.Smallest.{smallest_unique, placed_within, placed_leaving, within_or_leaving, smallest_again}
use Rattle.octagon.proofs.OneCell.{one_cell_smallest, on_or_off}
use Rattle.clearance.specs.declared.Tree.{Tree}
use Rattle.clearance.specs.Clearing.{radius_limit, too_wide, octagon_about, cleared}
use Rattle.clearance.specs.Cases.{TreeCells, AroundCase, is_too_wide, is_centre_off, is_cell_off, is_octagon}
use Rattle.clearance.proofs.Discs.{disc_smallest, disc_wider, disc_nought, disc_centre}

module _ (t : Tree) where
  -- ---- each case gives its answer

  -- the octagon that is placed
  abbrev pub about : Octagon
  about = octagon_about t.x t.y t.radius

  smallest : Smallest about (TreeCells t)
  smallest = disc_smallest t.x t.y t.radius

  pub within_limit_placed : t.radius ≤ radius_limit → cleared t ≡ placed about
  unfolding cleared
  within_limit_placed h = rw (le-leb t.radius radius_limit h)

  pub above_limit_refused : radius_limit < t.radius → cleared t ≡ refused too_wide
  unfolding cleared
  above_limit_refused h = rw (lt-leb t.radius radius_limit h)

  -- a centre off the map is a cell off the map
  off_centre : ¬ (OnMap t.x t.y) → LeavesMap (TreeCells t)
  off_centre n = record { x = t.x; y = t.y; cell = (disc_centre t.x t.y t.radius, n) }

  given : {o : Outcome Octagon} → AroundCase t o → cleared t ≡ o
  given (is_too_wide h) = above_limit_refused h
  given (is_centre_off h n) = within_limit_placed h ∙ placed_leaving smallest (off_centre n)
  given (is_cell_off h m l) = within_limit_placed h ∙ placed_leaving smallest l
  given (is_octagon h m a s) = within_limit_placed h ∙ placed_within smallest m ∙ ap accepted (smallest_unique (λ x y. (λ i. i, λ i. i)) smallest s)

  -- ---- and one of the cases holds

  some_case : (o : Outcome Octagon) × AroundCase t o
  some_case =
      cases (leb t.radius radius_limit)
      (λ e. let h = leb-true t.radius radius_limit e in
      on_or_off t.x t.y
      (λ m. within_or_leaving smallest (λ w. (accepted about, is_octagon h w about smallest)) (λ l. (refused off_map, is_cell_off h m l)))
      (λ n. (refused off_map, is_centre_off h n)))
      (λ e. (refused too_wide, is_too_wide (leb-false t.radius radius_limit e)))

  pub around_exactly : (o : Outcome Octagon) → (cleared t ≡ o) ↔ AroundCase t o
  around_exactly o = (λ e. let c = some_case in subst (AroundCase t) (sym (given c.1) ∙ e) c.1, given)

  -- ---- what an accepted answer means

  means : {o : Outcome Octagon} (a : Octagon) → AroundCase t o → o ≡ accepted a → Smallest a (TreeCells t) × (TreeCells t ⊆ OnMap)
  means a (is_too_wide h) e = absurd (accepted_not_refused (sym e))
  means a (is_centre_off h n) e = absurd (accepted_not_refused (sym e))
  means a (is_cell_off h m l) e = absurd (accepted_not_refused (sym e))
  means a (is_octagon h m b s) e = rw (← accepted_same e) (s, m)

  -- the answer is the smallest octagon that holds the cells about the tree, and those are on the map
  pub around_means : (a : Octagon) → cleared t ≡ accepted a → Smallest a (TreeCells t) × (TreeCells t ⊆ OnMap)
  around_means a e = means a ((around_exactly (accepted a)).0 e) refl

  -- it is normalised and on the map: `normalise` gives it back
  pub around_normalised : (a : Octagon) → cleared t ≡ accepted a → normalised a ≡ accepted a
  around_normalised a e = let m = around_means a e in smallest_again m.0 m.1

-- ---- a larger radius about the same centre

abbrev tree : ℤ → ℤ → ℕ → Tree
tree x y r = record { x = x; y = y; radius = r }

-- its octagon holds the smaller's, whatever the map and the limit
pub larger_holds : (x y : ℤ) (r q : ℕ) → r ≤ q → In (octagon_about x y r) ⊆ In (octagon_about x y q)
larger_holds x y r q l =
    (disc_smallest x y r).least (octagon_about x y q) (λ u v i. (disc_smallest x y q).holds u v (disc_wider x y r q l u v i))

-- and so of the answers: where the larger is accepted, the smaller is, and lies in it
pub larger_answer : (x y : ℤ) (r q : ℕ) (b : Octagon) → r ≤ q → cleared (record { x = x; y = y; radius = q }) ≡ accepted b →
    (a : Octagon) × (cleared (record { x = x; y = y; radius = r }) ≡ accepted a) × (In a ⊆ In b)
larger_answer x y r q b l e = go ((around_exactly (tree x y q) (accepted b)).0 e) refl
  where
    go : {o : Outcome Octagon} → AroundCase (tree x y q) o → o ≡ accepted b →
        (a : Octagon) × (cleared (tree x y r) ≡ accepted a) × (In a ⊆ In b)
    go (is_too_wide h) f = absurd (accepted_not_refused (sym f))
    go (is_centre_off h n) f = absurd (accepted_not_refused (sym f))
    go (is_cell_off h m i) f = absurd (accepted_not_refused (sym f))
    go (is_octagon h m c s) f =
        let w = disc_wider x y r q l in
        let a = octagon_about x y r in
        let d = disc_smallest x y r in (
          a,
          (around_exactly (tree x y r) (accepted a)).1 (is_octagon (omega arith) (λ u v i. m u v (w u v i)) a d),
          rw (← accepted_same f) (d.least c (λ u v i. s.holds u v (w u v i))),
        )

-- ---- the radius 0

-- "Radius 0 is the one cell"
pub radius_nought : (x y : ℤ) → octagon_about x y 0 ≡ one_cell x y
radius_nought x y = smallest_unique (disc_nought x y) (disc_smallest x y 0) (one_cell_smallest x y)

-- so the answer is that cell, refused where it is off the map
pub radius_nought_answer : (x y : ℤ) → cleared (record { x = x; y = y; radius = 0 }) ≡ placed (one_cell x y)
radius_nought_answer x y = within_limit_placed (tree x y 0) (omega arith) ∙ ap placed (radius_nought x y)
