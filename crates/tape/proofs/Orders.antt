-- "The order of the points and repeated points do not alter an accepted answer." Assumes nothing.
use mathlib.Core.Path.{◌≡◌, refl, sym, ap, subst}
use mathlib.Core.List.{List, [], ◌∷◌}
use Prim.Native.Nat.{ℕ, zero, suc, ◌%◌, ◌/◌, ◌<◌}
use native.Mathlib.Omega.{arith}
use lib.ListN.{length}
use lib.Ieee.{Float}
use Rattle.octagon.specs.Octagon.{Octagon}
use Rattle.octagon.specs.Outcome.{accepted}
use Rattle.octagon.specs.Cells.{◌⊆◌}
use Rattle.octagon.proofs.Smallest.{smallest_same}
use Rattle.tape.specs.Enclosing.{enclosed}
use Rattle.tape.specs.Cases.{CellOf, Inside, InsideUpTo, TapeCells, PointsAmong, SamePoints, is_plot}
use Rattle.tape.proofs.Cases.{enclose_exactly, enclosed_plot, some_point}

among_cells : (t u : List Float) → PointsAmong t u → TapeCells u ⊆ TapeCells t
among_cells t u h x y c =
    let r = h c.k c.in_tape in
    record { k = r.0; in_tape = r.1; cell = subst (λ p. CellOf p x y) r.2 c.cell }

among_inside : (t u : List Float) → PointsAmong t u → InsideUpTo t (length t / 2) → InsideUpTo u (length u / 2)
among_inside t u h f k l = let r = h k l in subst Inside (sym r.2) (f r.0 r.1)

pub order_no_matter : (t u : List Float) (a : Octagon) → length u % 2 ≡ 0 → SamePoints t u → enclosed t ≡ accepted a → enclosed u ≡ accepted a
order_no_matter t u a e s q =
    let p = enclosed_plot t a q in
    let r = s.back 0 (some_point t p.whole) in
    (enclose_exactly u (accepted a)).1
    (is_plot (record { some = not_empty r.0 r.1; even = e }) a (among_inside t u s.there p.inside)
    (smallest_same (λ x y. (among_cells u t s.back x y, among_cells t u s.there x y)) p.smallest))
  where
    not_empty : (k : ℕ) → k < length u / 2 → ¬ (u ≡ [])
    not_empty k h z = let l : length u ≡ 0 = ap length z in omega arith

-- for one: two points in turn, and the second of them before the first, which is there twice
pub turned_about : (e n f m : Float) → SamePoints (e ∷ n ∷ f ∷ m ∷ []) (f ∷ m ∷ e ∷ n ∷ e ∷ n ∷ [])
turned_about e n f m = record { there = to; back = from }
  where
    to : PointsAmong (e ∷ n ∷ f ∷ m ∷ []) (f ∷ m ∷ e ∷ n ∷ e ∷ n ∷ [])
    to zero h = (1, omega arith, refl)
    to (suc zero) h = (0, omega arith, refl)
    to (suc (suc zero)) h = (0, omega arith, refl)
    to (suc (suc (suc k))) h = absurd (omega arith)

    from : PointsAmong (f ∷ m ∷ e ∷ n ∷ e ∷ n ∷ []) (e ∷ n ∷ f ∷ m ∷ [])
    from zero h = (1, omega arith, refl)
    from (suc zero) h = (0, omega arith, refl)
    from (suc (suc k)) h = absurd (omega arith)
