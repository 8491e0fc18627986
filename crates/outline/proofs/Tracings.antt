-- An outline and its octagon, in the words of document 01: what is accepted and what each refusal says, on the map and on a smaller one.
-- Assumes nothing.
use mathlib.Core.Path.{◌≡◌, refl, sym, ap, ◌∙◌}
use mathlib.Core.Bool.{cond}
use mathlib.Core.Logic.{◌↔◌, ◌⊎◌, inl, inr}
use Prim.Native.Nat.{ℕ, ◌≤◌}
use native.Mathlib.Omega.{arith}
use Rattle.octagon.specs.Octagon.{Octagon}
use Rattle.octagon.specs.Outcome.{Outcome, accepted, refused, then, off_map}
use Rattle.octagon.specs.Cells.{◌⊆◌, Square, Leaves, OnMap, LeavesMap, limit}
use Rattle.octagon.specs.NormalForm.{is_within}
use Rattle.octagon.proofs.Outcomes.{accepted_same, refused_same, accepted_not_refused}
use Rattle.octagon.proofs.Within.{NearTo}
use Rattle.octagon.proofs.Vertices.{normal_normalised}
use Rattle.octagon.proofs.Map.{within_test, near_square, near_cells}
use Rattle.outline.specs.declared.Outline.{Outline}
use Rattle.outline.specs.Closing.{Closes}
use Rattle.outline.specs.Walk.{InsideWalk}
use Rattle.outline.specs.Tracing.{not_closed, drawn, traced, traced_in}
use Rattle.outline.specs.Meaning.{OctagonOf}
use Rattle.outline.proofs.Inside.{inside_walk}
use Rattle.outline.proofs.TracingCases.{Tracing, is_octagon, is_open, is_off, tracing, TracingIn, is_octagon_in, is_open_in, is_off_in, tracing_in}

-- accepted: exactly the cells inside the walk, each bound reached, every cell on the map
pub accepted_means : (o : Outline) (a : Octagon) → traced o ≡ accepted a → OctagonOf o a
accepted_means o a = go (tracing o)
  where
    go : {t : Outcome Octagon} → Tracing o t → t ≡ accepted a → OctagonOf o a
    go (is_octagon b e k n m) q =
        rw (← accepted_same q) (record { same_cells = rw e (inside_walk o); is_normalised = normal_normalised b n; on_the_map = near_cells b m; closed = k })
    go (is_open h) q = absurd (accepted_not_refused (sym q))
    go (is_off k h) q = absurd (accepted_not_refused (sym q))

-- an accepted answer is the bounds that the vertices reach
pub accepted_drawn : (o : Outline) (a : Octagon) → traced o ≡ accepted a → a ≡ drawn o
accepted_drawn o a = go (tracing o)
  where
    go : {t : Outcome Octagon} → Tracing o t → t ≡ accepted a → a ≡ drawn o
    go (is_octagon b e k n m) q = sym (accepted_same q) ∙ e
    go (is_open h) q = absurd (accepted_not_refused (sym q))
    go (is_off k h) q = absurd (accepted_not_refused (sym q))

-- ---- on the smaller map from -r to r, by way of the whole one

module _ (r : ℕ) (l : r ≤ limit) (o : Outline) where
  -- accepted: the octagon of the outline, with its even bounds at most r
  pub in_near : (a : Octagon) → traced_in r o ≡ accepted a → (traced o ≡ accepted a) × NearTo r a
  in_near a = go (tracing_in r l o)
    where
      go : {t : Outcome Octagon} → TracingIn r o t → t ≡ accepted a → (traced o ≡ accepted a) × NearTo r a
      go (is_octagon_in b e m) q = let f = accepted_same q in (e ∙ ap accepted f, rw f at m)
      go (is_open_in h) q = absurd (accepted_not_refused (sym q))
      go (is_off_in k h) q = absurd (accepted_not_refused (sym q))

  -- so every cell inside the walk is on the smaller map
  pub in_means : (a : Octagon) → traced_in r o ≡ accepted a → (traced o ≡ accepted a) × (InsideWalk o ⊆ Square r)
  in_means a q =
      let n = in_near a q in
      (n.0, λ x y i. near_square r a n.1 x y (((accepted_means o a n.0).same_cells x y).1 i))

  -- and that is so wherever the outline closes and its cells are on the smaller map
  pub in_when : Closes o → InsideWalk o ⊆ Square r → (a : Octagon) × (traced_in r o ≡ accepted a)
  in_when k h = go (tracing_in r l o) refl
    where
      go : {t : Outcome Octagon} → TracingIn r o t → traced_in r o ≡ t → (a : Octagon) × (traced_in r o ≡ accepted a)
      go (is_octagon_in b e m) q = (b, q)
      go (is_open_in f) q = absurd (f k)
      go (is_off_in c f) q = absurd (f.cell.1 (h f.x f.y f.cell.0))

  -- 3 exactly where it does not close
  pub in_not_closed : (traced_in r o ≡ refused not_closed) ↔ (¬ (Closes o))
  in_not_closed = (to (tracing_in r l o), from (tracing_in r l o) refl)
    where
      to : {t : Outcome Octagon} → TracingIn r o t → t ≡ refused not_closed → ¬ (Closes o)
      to (is_octagon_in b e m) q = absurd (accepted_not_refused q)
      to (is_open_in h) q = h
      to (is_off_in k h) q = absurd (let z = refused_same q in omega arith)

      from : {t : Outcome Octagon} → TracingIn r o t → traced_in r o ≡ t → ¬ (Closes o) → traced_in r o ≡ refused not_closed
      from (is_octagon_in b e m) q f = absurd (f (accepted_means o b e).closed)
      from (is_open_in h) q f = q
      from (is_off_in k h) q f = absurd (f k)

  -- 2 exactly where it closes and some cell lies off the smaller map
  pub in_off_map : (traced_in r o ≡ refused off_map) ↔ (Closes o × Leaves r (InsideWalk o))
  in_off_map = (to (tracing_in r l o), from (tracing_in r l o) refl)
    where
      to : {t : Outcome Octagon} → TracingIn r o t → t ≡ refused off_map → Closes o × Leaves r (InsideWalk o)
      to (is_octagon_in b e m) q = absurd (accepted_not_refused q)
      to (is_open_in h) q = absurd (let z = refused_same q in omega arith)
      to (is_off_in k h) q = (k, h)

      from : {t : Outcome Octagon} → TracingIn r o t → traced_in r o ≡ t → Closes o × Leaves r (InsideWalk o) → traced_in r o ≡ refused off_map
      from (is_octagon_in b e m) q f =
          let s = f.1 in
          absurd (s.cell.1 (near_square r b m s.x s.y (((accepted_means o b e).same_cells s.x s.y).1 s.cell.0)))
      from (is_open_in h) q f = absurd (h f.0)
      from (is_off_in k h) q f = q

  -- and no other refusal is ever given
  pub in_refused_only : (k : ℕ) → traced_in r o ≡ refused k → (k ≡ not_closed) ⊎ (k ≡ off_map)
  in_refused_only k = go (tracing_in r l o)
    where
      go : {t : Outcome Octagon} → TracingIn r o t → t ≡ refused k → (k ≡ not_closed) ⊎ (k ≡ off_map)
      go (is_octagon_in b e m) q = absurd (accepted_not_refused q)
      go (is_open_in h) q = inl (sym (refused_same q))
      go (is_off_in c h) q = inr (sym (refused_same q))

-- ---- on the whole map, which is the map from -limit to limit

pub in_limit : (o : Outline) → traced_in limit o ≡ traced o
unfolding traced_in
in_limit o = go (tracing o)
  where
    go : {t : Outcome Octagon} → Tracing o t → then t (λ a. cond (is_within limit a) (accepted a) (refused off_map)) ≡ t
    go (is_octagon a e k n m) = rw (within_test limit a m)
    go (is_open h) = refl
    go (is_off k h) = refl

-- accepted wherever the outline closes and its cells are on the map
pub accepted_when : (o : Outline) → Closes o → InsideWalk o ⊆ OnMap → (a : Octagon) × (traced o ≡ accepted a)
accepted_when o = rw (in_limit o) at (in_when limit (omega arith) o)

-- "3 when it does not close": exactly where one of the two equations fails
pub refused_not_closed : (o : Outline) → (traced o ≡ refused not_closed) ↔ (¬ (Closes o))
refused_not_closed o = rw (in_limit o) at (in_not_closed limit (omega arith) o)

-- "2 as above": exactly where it closes and some cell lies off the map
pub refused_off_map : (o : Outline) → (traced o ≡ refused off_map) ↔ (Closes o × LeavesMap (InsideWalk o))
refused_off_map o = rw (in_limit o) at (in_off_map limit (omega arith) o)

-- and no other refusal is ever given
pub refused_only : (o : Outline) (k : ℕ) → traced o ≡ refused k → (k ≡ not_closed) ⊎ (k ≡ off_map)
refused_only o = rw (in_limit o) at (in_refused_only limit (omega arith) o)
