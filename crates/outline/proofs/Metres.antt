-- Vertices in metres, in the words of document 01: exact quarters, and what each refusal says. Assumes nothing.
use mathlib.Core.Path.{◌≡◌, refl, sym, ap, ◌∙◌}
use mathlib.Core.Bool.{true}
use mathlib.Core.Logic.{◌↔◌, ◌⊎◌, inl, inr, ⊎_elim}
use Prim.Native.Nat.{ℕ, ◌<◌, ◌≤◌}
use native.Mathlib.Nat.{lt_irrefl, mul-pos, zero-mul, zero-lt-suc}
use native.Mathlib.Omega.{arith}
use lib.Dec.{ltb}
use lib.IntN.{ℤ, pos, negsuc}
use lib.Ieee.{fin}
use lib.Ieee.Fits.{down_pos}
use mir.Syntax.{w32}
use mir.Val.{SFits}
use borrow.Author.Tests.{lt-ltb, le-ltb, ltb-true, ltb-false}
use Rattle.integers.proofs.Range.{room_near, room_fits32}
use Rattle.integers.proofs.Tests.{cases, true_is_not_false}
use Rattle.octagon.specs.Octagon.{Octagon}
use Rattle.octagon.specs.Outcome.{Outcome, accepted, refused}
use Rattle.octagon.specs.Cells.{OnMap, limit}
use Rattle.octagon.specs.NormalForm.{normalised}
use Rattle.octagon.proofs.Outcomes.{accepted_same, refused_same, accepted_not_refused}
use Rattle.octagon.proofs.Within.{on_grid}
use Rattle.octagon.proofs.NormalForms.{refused_only}
use Rattle.outline.specs.declared.Outline.{Outline}
use Rattle.outline.specs.declared.place.Place.{Place}
use Rattle.outline.specs.Walk.{vertex}
use Rattle.outline.specs.Outlining.{outlined}
use Rattle.outline.specs.Meaning.{InMetres}
use Rattle.outline.specs.Places.{Exactly, HeldCell, place_of, no_vertex, place_of_vertex, located, quarter}
use Rattle.outline.proofs.Tracings as tracings
use Rattle.outline.proofs.Vertices.{vertices}
use Rattle.outline.proofs.RoundTrips.{outline_octagon, outlined_refusals}
use Rattle.outline.proofs.Over.{over_exact}

-- ---- the vertices of an accepted outline are on the map

pub vertex_on_map : (c : Octagon) (o : Outline) → outlined c ≡ accepted o → (k : ℕ) → k < 8 → OnMap (vertex o k).x (vertex o k).y
vertex_on_map c o q k h =
    let t = outline_octagon c o q in
    (tracings.accepted_means o t.0 t.2).on_the_map (vertex o k).x (vertex o k).y (vertices o t.0 t.2 k h).inside

fits : {x y : ℤ} → OnMap x y → SFits w32 x × SFits w32 y
fits {x} {y} m =
    let g = on_grid m in
    (room_fits32 (room_near 32 limit x tt g.east (omega arith)), room_fits32 (room_near 32 limit y tt g.north (omega arith)))

pub vertex_fits : (c : Octagon) (o : Outline) → outlined c ≡ accepted o → (k : ℕ) → k < 8 → HeldCell (vertex o k)
vertex_fits c o q k h = let f = fits (vertex_on_map c o q k h) in record { fits_x = f.0; fits_y = f.1 }

-- ---- exact quarters

-- of every number of cells that an i32 holds, on the map or off it
pub quarter_exact : {z : ℤ} → SFits w32 z → Exactly z 4 (quarter z)
quarter_exact {z} f = over_exact z 2 (omega arith) f.sfits

pub place_exact : {x y : ℤ} → SFits w32 x → SFits w32 y → Exactly x 4 (place_of x y).east × Exactly y 4 (place_of x y).north
place_exact f g = (quarter_exact f, quarter_exact g)

-- "zero is positive zero": minus zero is exactly no number of quarters
pub no_minus_zero : (z e : ℤ) → ¬ (Exactly z 4 (fin true 0 e))
no_minus_zero (pos n) e v = true_is_not_false v.0
no_minus_zero (negsuc n) e v = lt_irrefl 0 (rw (← v.1, zero-mul, zero-mul) at (mul-pos (zero-lt-suc n) (down_pos e)))

-- ---- the answers

place_when : (o : Outline) (k : ℕ) → k ≤ 7 → place_of_vertex o k ≡ accepted (place_of (vertex o k).x (vertex o k).y)
unfolding place_of_vertex
place_when o k h = rw (le-ltb 7 k h)

no_vertex_when : (o : Outline) (k : ℕ) → 7 < k → place_of_vertex o k ≡ refused no_vertex
unfolding place_of_vertex
no_vertex_when o k h = rw (lt-ltb 7 k h)

located_is : (c : Octagon) (o : Outline) → outlined c ≡ accepted o → (k : ℕ) → located c k ≡ place_of_vertex o k
unfolding located
located_is c o q k = rw q

located_refused : (c : Octagon) (n : ℕ) → outlined c ≡ refused n → (k : ℕ) → located c k ≡ refused n
unfolding located
located_refused c n q k = rw q

in_metres : (c : Octagon) (o : Outline) → outlined c ≡ accepted o → (k : ℕ) → k ≤ 7 → InMetres c k (place_of (vertex o k).x (vertex o k).y)
in_metres c o q k h =
    let f = vertex_fits c o q k (omega arith) in
    record { outline = o; its_outline = q; a_vertex = h; east_exact = quarter_exact f.fits_x; north_exact = quarter_exact f.fits_y }

-- each answer, with what it says of the bounds c and the number k
pub data Locating (c : Octagon) (k : ℕ) : Outcome Place → Type 0 where
  is_place : (p : Place) → InMetres c k p → Locating c k (accepted p)
  is_past : (o : Outline) → outlined c ≡ accepted o → 7 < k → Locating c k (refused no_vertex)
  is_refused : (n : ℕ) → normalised c ≡ refused n → Locating c k (refused n)

pub locating : (c : Octagon) (k : ℕ) → Locating c k (located c k)
locating c k = go (outlined c) refl
  where
    go : (t : Outcome Outline) → outlined c ≡ t → Locating c k (located c k)
    go (accepted o) q =
        cases (ltb 7 k)
        (λ h. let l = ltb-true 7 k h in rw (located_is c o q k, no_vertex_when o k l) (is_past o q l))
        (λ h. let l = ltb-false 7 k h in rw (located_is c o q k, place_when o k l) (is_place (place_of (vertex o k).x (vertex o k).y) (in_metres c o q k l)))
    go (refused n) q = rw (located_refused c n q k) (is_refused n ((outlined_refusals c n).0 q))

-- "each number in a place is exactly a quarter of the cell number"
pub accepted_means : (c : Octagon) (k : ℕ) (p : Place) → located c k ≡ accepted p → InMetres c k p
accepted_means c k p = go (locating c k)
  where
    go : {t : Outcome Place} → Locating c k t → t ≡ accepted p → InMetres c k p
    go (is_place r m) q = rw (← accepted_same q) m
    go (is_past o e l) q = absurd (accepted_not_refused (sym q))
    go (is_refused n e) q = absurd (accepted_not_refused (sym q))

-- and every vertex of an octagon on the map has a place
pub accepted_when : (c : Octagon) (o : Outline) → outlined c ≡ accepted o → (k : ℕ) → k ≤ 7 → (p : Place) × (located c k ≡ accepted p)
accepted_when c o q k h = (place_of (vertex o k).x (vertex o k).y, located_is c o q k ∙ place_when o k h)

-- "7 when the corner number is above 7": exactly then, where the bounds are accepted
pub refused_no_vertex : (c : Octagon) (k : ℕ) → (located c k ≡ refused no_vertex) ↔ (((o : Outline) × (outlined c ≡ accepted o)) × (7 < k))
refused_no_vertex c k = (to (locating c k), λ h. located_is c h.0.0 h.0.1 k ∙ no_vertex_when h.0.0 k h.1)
  where
    to : {t : Outcome Place} → Locating c k t → t ≡ refused no_vertex → ((o : Outline) × (outlined c ≡ accepted o)) × (7 < k)
    to (is_place r m) q = absurd (accepted_not_refused q)
    to (is_past o e l) q = ((o, e), l)
    to (is_refused n e) q =
        let z : n ≡ no_vertex = refused_same q in
        absurd (⊎_elim (λ f. omega arith) (λ f. omega arith) (refused_only c n e))

-- "Normalise's refusals": they come first, and there is no other
pub refused_first : (c : Octagon) (k n : ℕ) → normalised c ≡ refused n → located c k ≡ refused n
refused_first c k n q = located_refused c n ((outlined_refusals c n).1 q) k

pub refused_or : (c : Octagon) (k n : ℕ) → located c k ≡ refused n → (normalised c ≡ refused n) ⊎ (n ≡ no_vertex)
refused_or c k n = go (locating c k)
  where
    go : {t : Outcome Place} → Locating c k t → t ≡ refused n → (normalised c ≡ refused n) ⊎ (n ≡ no_vertex)
    go (is_place r m) q = absurd (accepted_not_refused q)
    go (is_past o e l) q = inr (sym (refused_same q))
    go (is_refused m e) q = inl (e ∙ ap refused (refused_same q))
