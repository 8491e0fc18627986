-- Each answer of `enclose` is given exactly where its case of specs/Cases.antt holds (`enclose_exactly`), and what an accepted one means.
-- Assumes nothing.
use mathlib.Core.Path.{◌≡◌, refl, sym, ap, subst, ◌∙◌}
use mathlib.Core.Logic.{◌↔◌, ◌⊎◌, inl, inr}
use mathlib.Core.List.{List, [], ◌∷◌}
use Prim.Native.Nat.{ℕ, zero, suc, ◌%◌, ◌/◌, ◌<◌}
use native.Mathlib.Omega.{arith}
use lib.Dec.{ltb, eqb}
use lib.ListN.{length}
use lib.Ieee.{Float}
use borrow.Author.Tests.{eqb-true, eqb-false, ltb-true, ltb-false}
use Rattle.integers.proofs.Tests.{cases}
use Rattle.octagon.specs.Octagon.{Octagon}
use Rattle.octagon.specs.Outcome.{Outcome, accepted, refused}
use Rattle.octagon.specs.Cells.{◌⊆◌, ◌≐◌, OnMap, Smallest}
use Rattle.octagon.specs.NormalForm.{normalised}
use Rattle.octagon.proofs.Outcomes.{accepted_same, accepted_not_refused}
use Rattle.octagon.proofs.Smallest.{smallest_unique, smallest_same, smallest_again}
use Rattle.tape.specs.Enclosing.{points, enclosed_points, enclosed}
use Rattle.tape.specs.Cases.{point, Inside, InsideUpTo, TapeCells, WholePoints, EncloseCase, is_empty, is_odd, is_unmeasured, is_outside, is_plot}
use Rattle.tape.proofs.Points.{points_length, points_at, enclosed_none, enclosed_half, enclosed_even}
use Rattle.tape.proofs.OnePoint.{Fault, unmeasured, outside, inside_or, cell_only}
use Rattle.tape.proofs.Gathering.{AllInside, PlaceCells, Encloses, place, places_inside, places_fault}

-- the first of a tape's first n points that has a fault
record FirstFault (t : List Float) (n : ℕ) : Type 0 where
  k : ℕ
  below : k < n
  inside : InsideUpTo t k
  number : ℕ
  fault : Fault (point t k) number

module _ (t : List Float) where
  -- ---- from the list of points to the tape

  in_list : {k : ℕ} → k < length t / 2 → k < length (points t)
  in_list h = rw points_length h

  place_point : (k : ℕ) → k < length t / 2 → place (points t) k ≡ point t k
  place_point k h = points_at t k _ h

  all_inside : (n : ℕ) → n < suc (length t / 2) → InsideUpTo t n → AllInside (points t) n
  all_inside n l f k h = rw (place_point k (omega arith)) (f k h)

  same_cells : PlaceCells (points t) ≐ TapeCells t
  same_cells x y = (
    λ c. let h : c.k < length t / 2 = rw points_length at c.in_list in record { k = c.k; in_tape = h; cell = rw (place_point c.k h) at c.cell },
    λ c. record { k = c.k; in_list = in_list c.in_tape; cell = rw (place_point c.k c.in_tape) c.cell },
  )

  -- ---- each case gives its answer

  even_enclosed : length t % 2 ≡ 0 → enclosed t ≡ enclosed_points (points t)
  even_enclosed e = enclosed_even t (λ o. omega arith)

  fault_enclosed : WholePoints t → (k : ℕ) {n : ℕ} → k < length t / 2 → InsideUpTo t k → Fault (point t k) n → enclosed t ≡ refused n
  fault_enclosed w k h f e = even_enclosed w.even ∙ places_fault (points t) k (in_list h) (all_inside k (omega arith) f) (rw (place_point k h) e)

  pub some_point : WholePoints t → 0 < length t / 2
  some_point w = go t w.some w.even
    where
      go : (t : List Float) → ¬ (t ≡ []) → length t % 2 ≡ 0 → 0 < length t / 2
      go [] n e = absurd (n refl)
      go (x ∷ []) n e = absurd (omega arith)
      go (x ∷ y ∷ u) n e = omega arith

  plot_enclosed : WholePoints t → InsideUpTo t (length t / 2) → Encloses (enclosed t) (TapeCells t)
  plot_enclosed w f = go (places_inside (points t) (in_list (some_point w)) (rw points_length (all_inside (length t / 2) (omega arith) f)))
    where
      go : Encloses (enclosed_points (points t)) (PlaceCells (points t)) → Encloses (enclosed t) (TapeCells t)
      go r = (r.0, even_enclosed w.even ∙ r.1, smallest_same same_cells r.2)

  -- ---- one of the cases holds

  -- the first n points are on the map, or one is the first that is not
  inside_up_to : (n : ℕ) → InsideUpTo t n ⊎ FirstFault t n
  inside_up_to zero = inl (λ k h. absurd (omega arith))
  inside_up_to (suc n) = go (inside_up_to n) (inside_or (point t n))
    where
      go : InsideUpTo t n ⊎ FirstFault t n → Inside (point t n) ⊎ ((m : ℕ) × Fault (point t n) m) → InsideUpTo t (suc n) ⊎ FirstFault t (suc n)
      go (inr z) p = let h = z.below in inr (record { k = z.k; below = omega arith; inside = z.inside; number = z.number; fault = z.fault })
      go (inl f) (inr e) = inr (record { k = n; below = omega arith; inside = f; number = e.0; fault = e.1 })
      go (inl f) (inl i) =
          inl (λ k h. cases (ltb k n)
          (λ b. f k (ltb-true k n b))
          (λ b. let l = ltb-false k n b in let e : n ≡ k = omega arith in subst (λ j. Inside (point t j)) e i))

  fault_case : WholePoints t → (k : ℕ) {n : ℕ} → k < length t / 2 → InsideUpTo t k → Fault (point t k) n → EncloseCase t (refused n)
  fault_case w k h f (unmeasured u) = is_unmeasured w k h f u
  fault_case w k h f (outside o) = is_outside w k h f o

  whole_case : WholePoints t → EncloseCase t (enclosed t)
  whole_case w = go (inside_up_to (length t / 2))
    where
      go : InsideUpTo t (length t / 2) ⊎ FirstFault t (length t / 2) → EncloseCase t (enclosed t)
      go (inl f) = let r = plot_enclosed w f in rw r.1 (is_plot w r.0 f r.2)
      go (inr z) = rw (fault_enclosed w z.k z.below z.inside z.fault) (fault_case w z.k z.below z.inside z.fault)

  enclose_case : EncloseCase t (enclosed t)
  enclose_case =
      cases (eqb (length t % 2) 1)
      (λ b. let e = eqb-true (length t % 2) 1 b in rw (enclosed_half t e) (is_odd e))
      (λ b. let o = eqb-false (length t % 2) 1 b in
      cases (eqb (length t) 0)
      (λ c. let l = eqb-true (length t) 0 c in rw (enclosed_none t l) (is_empty (no_numbers t l)))
      (λ c. whole_case (record { some = λ e. eqb-false (length t) 0 c (ap length e); even = omega arith })))
    where
      no_numbers : (u : List Float) → length u ≡ 0 → u ≡ []
      no_numbers [] e = refl
      no_numbers (x ∷ u) e = absurd (omega arith)

  pub enclose_exactly : (o : Outcome Octagon) → (enclosed t ≡ o) ↔ EncloseCase t o
  enclose_exactly o = (λ e. rw e at enclose_case, given)
    where
      given : {o : Outcome Octagon} → EncloseCase t o → enclosed t ≡ o
      given (is_empty e) = enclosed_none t (ap length e)
      given (is_odd e) = enclosed_half t e
      given (is_unmeasured w k h f u) = fault_enclosed w k h f (unmeasured u)
      given (is_outside w k h f u) = fault_enclosed w k h f (outside u)
      given (is_plot w a f s) = let r = plot_enclosed w f in r.1 ∙ ap accepted (smallest_unique (λ x y. (λ c. c, λ c. c)) r.2 s)

-- ---- what an accepted answer means

-- the case of an accepted answer
pub record IsPlot (t : List Float) (a : Octagon) : Type 0 where
  pub whole : WholePoints t
  pub inside : InsideUpTo t (length t / 2)
  pub smallest : Smallest a (TapeCells t)

pub enclosed_plot : (t : List Float) (a : Octagon) → enclosed t ≡ accepted a → IsPlot t a
enclosed_plot t a q = go ((enclose_exactly t (accepted a)).0 q) refl
  where
    go : {o : Outcome Octagon} → EncloseCase t o → o ≡ accepted a → IsPlot t a
    go (is_empty e) q = absurd (accepted_not_refused (sym q))
    go (is_odd e) q = absurd (accepted_not_refused (sym q))
    go (is_unmeasured w k h f u) q = absurd (accepted_not_refused (sym q))
    go (is_outside w k h f u) q = absurd (accepted_not_refused (sym q))
    go (is_plot w b f s) q = rw (← accepted_same q) (record { whole = w; inside = f; smallest = s })

inside_cells : (t : List Float) → InsideUpTo t (length t / 2) → TapeCells t ⊆ OnMap
inside_cells t f x y c = let i = f c.k c.in_tape in let e = cell_only i.cell c.cell in rw (e.0, e.1) i.on

-- the answer is the smallest octagon that holds the cells of the points, and those are on the map
pub enclosed_means : (t : List Float) (a : Octagon) → enclosed t ≡ accepted a → Smallest a (TapeCells t) × (TapeCells t ⊆ OnMap)
enclosed_means t a q = let p = enclosed_plot t a q in (p.smallest, inside_cells t p.inside)

-- it is normalised and on the map: `normalise` gives it back
pub enclosed_normalised : (t : List Float) (a : Octagon) → enclosed t ≡ accepted a → normalised a ≡ accepted a
enclosed_normalised t a q = let m = enclosed_means t a q in smallest_again m.0 m.1
