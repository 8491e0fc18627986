-- Normalise, in the words of document 01: what is accepted, what each refusal says, and that the normal form is the only one.
-- Assumes nothing.
use mathlib.Core.Path.{◌≡◌, refl, sym, ◌∙◌, ap}
use mathlib.Core.Logic.{◌↔◌, ◌⊎◌, inl, inr}
use Prim.Native.Nat.{ℕ}
use native.Mathlib.Omega.{arith}
use Rattle.octagon.specs.Octagon.{Octagon}
use Rattle.octagon.specs.Outcome.{Outcome, accepted, refused, no_cell, off_map}
use Rattle.octagon.specs.Cells.{◌⊆◌, ◌≐◌, Empty, Some, In, OnMap, LeavesMap, Normalised, OnlyOne, Represents}
use Rattle.octagon.specs.NormalForm.{normal_form, normalised}
use Rattle.octagon.proofs.Outcomes.{accepted_same, refused_same, accepted_not_refused}
use Rattle.octagon.proofs.Within.{Normal, Near}
use Rattle.octagon.proofs.Vertices.{normal_some, normal_normalised, reached_normal}
use Rattle.octagon.proofs.Map.{near_cells, cells_near}
use Rattle.octagon.proofs.Unique.{unique}
use Rattle.octagon.proofs.Normalising.{some_normal, form_cells, Normalising, is_normal, is_empty, is_off, normalising}

-- accepted: exactly the same cells, each bound reached, every cell on the map
pub accepted_means : (c a : Octagon) → normalised c ≡ accepted a → Represents a (In c)
accepted_means c a = go (normalising c)
  where
    go : {o : Outcome Octagon} → Normalising c o → o ≡ accepted a → Represents a (In c)
    go (is_normal b e n m s) q =
        rw (← accepted_same q) (record { cells = s; is_normalised = normal_normalised b n; on_the_map = near_cells b m })
    go (is_empty h) q = absurd (accepted_not_refused (sym q))
    go (is_off n h) q = absurd (accepted_not_refused (sym q))

-- its bounds as the proofs use them
pub accepted_normal : (c a : Octagon) → normalised c ≡ accepted a → Normal a
accepted_normal c a e = reached_normal a (accepted_means c a e).is_normalised.reached

pub accepted_near : (c a : Octagon) → normalised c ≡ accepted a → Near a
accepted_near c a e = cells_near a (accepted_normal c a e) (accepted_means c a e).on_the_map

-- and that is so for all bounds that hold a cell and whose cells are on the map
pub accepted_when : (c : Octagon) → Some (In c) → In c ⊆ OnMap → (a : Octagon) × (normalised c ≡ accepted a)
accepted_when c s h = go (normalising c) refl
  where
    go : {o : Outcome Octagon} → Normalising c o → normalised c ≡ o → (a : Octagon) × (normalised c ≡ accepted a)
    go (is_normal b e n m t) q = (b, q)
    go (is_empty f) q = absurd (f s.x s.y s.cell)
    go (is_off n f) q = absurd (f.cell.1 (h f.x f.y f.cell.0))

-- refusal 1 exactly where no cell is within the bounds
pub refused_no_cell : (c : Octagon) → (normalised c ≡ refused no_cell) ↔ Empty (In c)
refused_no_cell c = (to (normalising c), from (normalising c) refl)
  where
    to : {o : Outcome Octagon} → Normalising c o → o ≡ refused no_cell → Empty (In c)
    to (is_normal b e n m s) q = absurd (accepted_not_refused q)
    to (is_empty h) q = h
    to (is_off n h) q = absurd (let z = refused_same q in omega arith)

    from : {o : Outcome Octagon} → Normalising c o → normalised c ≡ o → Empty (In c) → normalised c ≡ refused no_cell
    from (is_normal b e n m s) q f = let t = normal_some b n in absurd (f t.x t.y ((s t.x t.y).0 t.cell))
    from (is_empty h) q f = q
    from (is_off n h) q f = absurd (f h.x h.y h.cell.0)

-- refusal 2 exactly where some cell within the bounds is off the map
pub refused_off_map : (c : Octagon) → (normalised c ≡ refused off_map) ↔ LeavesMap (In c)
refused_off_map c = (to (normalising c), from (normalising c) refl)
  where
    to : {o : Outcome Octagon} → Normalising c o → o ≡ refused off_map → LeavesMap (In c)
    to (is_normal b e n m s) q = absurd (accepted_not_refused q)
    to (is_empty h) q = absurd (let z = refused_same q in omega arith)
    to (is_off n h) q = h

    from : {o : Outcome Octagon} → Normalising c o → normalised c ≡ o → LeavesMap (In c) → normalised c ≡ refused off_map
    from (is_normal b e n m s) q f = absurd (f.cell.1 (near_cells b m f.x f.y ((s f.x f.y).1 f.cell.0)))
    from (is_empty h) q f = absurd (h f.x f.y f.cell.0)
    from (is_off n h) q f = q

-- and no other refusal is ever given
pub refused_only : (c : Octagon) (k : ℕ) → normalised c ≡ refused k → (k ≡ no_cell) ⊎ (k ≡ off_map)
refused_only c k = go (normalising c)
  where
    go : {o : Outcome Octagon} → Normalising c o → o ≡ refused k → (k ≡ no_cell) ⊎ (k ≡ off_map)
    go (is_normal b e n m s) q = absurd (accepted_not_refused q)
    go (is_empty h) q = inl (sym (refused_same q))
    go (is_off n h) q = inr (sym (refused_same q))

-- ---- one normal form

-- bounds that hold a cell, on the map or off it, have a normal form: the same cells, each bound reached
pub normal_form_is : (c : Octagon) → Some (In c) → Normalised (normal_form c) × (In (normal_form c) ≐ In c)
normal_form_is c s = (normal_normalised (normal_form c) (some_normal c s), form_cells c)

-- two normalised octagons with the same cells are equal, bound for bound
pub normalised_unique : (a b : Octagon) → Normalised a → Normalised b → In a ≐ In b → a ≡ b
normalised_unique a b n m h = unique n.reached m.reached h

-- each octagon that holds a cell has one normalised form
pub one_normal_form : (c : Octagon) → Some (In c) → OnlyOne (λ a. Normalised a × (In a ≐ In c))
one_normal_form c s =
    let f = normal_form_is c s in
    record {
      one = normal_form c;
      holds = f;
      no_other = λ b h. normalised_unique b (normal_form c) h.0 f.0 (λ x y. (λ i. (f.1 x y).1 ((h.1 x y).0 i), λ i. (h.1 x y).1 ((f.1 x y).0 i)));
    }

-- normalised bounds on the map are their own normal form
pub normal_answer : (a : Octagon) → Normal a → Near a → normalised a ≡ accepted a
normal_answer a n m =
    let r = accepted_when a (normal_some a n) (near_cells a m) in
    let t = accepted_means a r.0 r.1 in
    r.1 ∙ ap accepted (unique t.is_normalised.reached (normal_normalised a n).reached t.cells)

-- so normalising an accepted answer gives it back
pub normalised_again : (c a : Octagon) → normalised c ≡ accepted a → normalised a ≡ accepted a
normalised_again c a q = normal_answer a (accepted_normal c a q) (accepted_near c a q)
