-- The points of a tape: by their number, as `point t k` has them, and by pairs, as the code takes them. Assumes nothing.
use mathlib.Core.Path.{◌≡◌, refl, sym, ap, ◌∙◌}
use mathlib.Core.List.{List, [], ◌∷◌}
use Prim.Native.Nat.{ℕ, zero, suc, ◌+◌, ◌-◌, ◌*◌, ◌/◌, ◌%◌, ◌<◌, ◌≤◌}
use native.Mathlib.Omega.{arith}
use lib.ListN.{length, take, drop, get_or}
use lib.Ieee.{Float}
use Rattle.std.proofs.lemmas.List.{take_all}
use Rattle.std.specs.Simd.{first_chunks}
use borrow.Author.Tests.{ne_eqb}
use Rattle.octagon.specs.Outcome.{refused, then}
use Rattle.outline.specs.declared.place.Place.{Place}
use Rattle.tape.specs.Enclosing.{no_point, half_point, place_at, points, paired, gathered, point_cell, enclosed_points, enclosed}
use Rattle.tape.specs.Cases.{point}

-- ---- by their number

-- a tape has as many points as pairs of numbers
pub points_length : (t : List Float) → length (points t) ≡ length t / 2
points_length [] = refl
points_length (e ∷ []) = refl
points_length (e ∷ n ∷ t) = let h : length (points t) ≡ length t / 2 = points_length t in omega arith

-- past its first point a tape counts on
point_next : (e n : Float) (t : List Float) (k : ℕ) → point (e ∷ n ∷ t) (suc k) ≡ point t k
point_next e n t k =
    let h : 2 * suc k ≡ suc (suc (2 * k)) = omega arith in
    let l : 2 * suc k + 1 ≡ suc (suc (2 * k + 1)) = omega arith in
    rw (l, h)

-- the list's element k is point k, whatever stands past its end
pub points_at : (t : List Float) (k : ℕ) (d : Place) → k < length t / 2 → get_or (points t) k d ≡ point t k
points_at [] k d h = absurd (omega arith)
points_at (e ∷ []) k d h = absurd (omega arith)
points_at (e ∷ n ∷ t) zero d h = refl
points_at (e ∷ n ∷ t) (suc k) d h = points_at t k d (omega arith) ∙ sym (point_next e n t k)

-- ---- by pairs

-- the points of a tape are those of its pairs
pub points_paired : (t : List Float) → points t ≡ paired (first_chunks 2 (length t / 2) t)
points_paired [] = refl
points_paired (e ∷ []) = refl
points_paired (e ∷ n ∷ t) =
    let h : length (e ∷ n ∷ t) / 2 ≡ suc (length t / 2) = omega arith in
    rw h (ap (λ l. place_at (e ∷ n ∷ []) 0 ∷ l) (points_paired t))

-- ---- the whole tape

pub enclosed_none : (t : List Float) → length t ≡ 0 → enclosed t ≡ refused no_point
unfolding enclosed
enclosed_none [] h = refl
enclosed_none (e ∷ t) h = absurd (omega arith)

pub enclosed_half : (t : List Float) → length t % 2 ≡ 1 → enclosed t ≡ refused half_point
unfolding enclosed
enclosed_half t h = rw h

-- an even number of numbers: the points decide
pub enclosed_even : (t : List Float) → ¬ (length t % 2 ≡ 1) → enclosed t ≡ enclosed_points (points t)
unfolding enclosed
enclosed_even t h = rw (ne_eqb (length t % 2) 1 h)

-- and the first pair decides, with the rest as a pattern cuts them off
first_decides : (ps : List (List Float)) → 1 ≤ length ps →
    enclosed_points (paired ps) ≡ then (point_cell (place_at (get_or ps 0 []) 0)) (λ c. gathered c (paired (take (length ps - 1) (drop 1 ps))))
first_decides [] h = absurd (omega (arith, h))
first_decides (p ∷ ps) h = rw (take_all (length (p ∷ ps) - 1) ps (omega arith))

pub enclosed_by_pairs : (t : List Float) (ps : List (List Float)) → ps ≡ first_chunks 2 (length t / 2) t → 1 ≤ length ps → ¬ (length t % 2 ≡ 1) →
    enclosed t ≡ then (point_cell (place_at (get_or ps 0 []) 0)) (λ c. gathered c (paired (take (length ps - 1) (drop 1 ps))))
enclosed_by_pairs t ps e h o = enclosed_even t o ∙ ap enclosed_points (points_paired t ∙ ap paired (sym e)) ∙ first_decides ps h
