-- Each answer for an outline with what it says of the outline, on the map and on a smaller one: what proofs/Tracings.antt goes by.
-- Assumes nothing.
use mathlib.Core.Path.{◌≡◌, refl, sym, ◌∙◌}
use mathlib.Core.Bool.{cond}
use Prim.Native.Nat.{ℕ, ◌≤◌}
use Rattle.integers.proofs.Tests.{cases, true_is_not_false}
use Rattle.octagon.specs.Octagon.{Octagon}
use Rattle.octagon.specs.Outcome.{Outcome, accepted, refused, then, off_map}
use Rattle.octagon.specs.Cells.{In, Leaves, LeavesMap, limit}
use Rattle.octagon.specs.NormalForm.{is_within, is_on_map, placed}
use Rattle.octagon.proofs.Within.{Normal, NearTo, Near}
use Rattle.octagon.proofs.Vertices.{normal_reached}
use Rattle.octagon.proofs.Map.{test_within, past_reached, square_larger, test_near, far_cell}
use Rattle.outline.specs.declared.Outline.{Outline}
use Rattle.outline.specs.Closing.{Closes, closes}
use Rattle.outline.specs.Walk.{InsideWalk}
use Rattle.outline.specs.Tracing.{not_closed, drawn, traced, traced_in}
use Rattle.outline.proofs.Closed.{test_closes, closes_test}
use Rattle.outline.proofs.Drawn.{closed_normal}
use Rattle.outline.proofs.Inside.{inside_walk}

-- each answer, with what it says of the outline
pub data Tracing (o : Outline) : Outcome Octagon → Type 0 where
  is_octagon : (a : Octagon) → a ≡ drawn o → Closes o → Normal a → Near a → Tracing o (accepted a)
  is_open : ¬ (Closes o) → Tracing o (refused not_closed)
  is_off : Closes o → LeavesMap (InsideWalk o) → Tracing o (refused off_map)

pub tracing : (o : Outline) → Tracing o (traced o)
unfolding traced placed
tracing o =
    cases (closes o)
    (λ h. cases (is_on_map (drawn o))
    (λ m. rw (h, m) (is_octagon (drawn o) refl (test_closes o h) (closed_normal o (test_closes o h)) (test_near (drawn o) m)))
    (λ m. rw (h, m) (is_off (test_closes o h) (leaves (far_cell (drawn o) (closed_normal o (test_closes o h)) m)))))
    (λ h. rw h (is_open (λ k. true_is_not_false (sym (closes_test o k) ∙ h))))
  where
    leaves : LeavesMap (In (drawn o)) → LeavesMap (InsideWalk o)
    leaves f = record { x = f.x; y = f.y; cell = ((inside_walk o f.x f.y).0 f.cell.0, f.cell.1) }

-- ---- on the smaller map from -r to r, by way of the whole one

-- each answer, with what it says of the outline
pub data TracingIn (r : ℕ) (o : Outline) : Outcome Octagon → Type 0 where
  is_octagon_in : (a : Octagon) → traced o ≡ accepted a → NearTo r a → TracingIn r o (accepted a)
  is_open_in : ¬ (Closes o) → TracingIn r o (refused not_closed)
  is_off_in : Closes o → Leaves r (InsideWalk o) → TracingIn r o (refused off_map)

module _ (r : ℕ) (l : r ≤ limit) (o : Outline) where
  pub tracing_in : TracingIn r o (traced_in r o)
  unfolding traced_in
  tracing_in = go (tracing o) refl
    where
      leaves : (a : Octagon) → a ≡ drawn o → Leaves r (In a) → Leaves r (InsideWalk o)
      leaves a e f = record { x = f.x; y = f.y; cell = ((inside_walk o f.x f.y).0 (rw e at f.cell.0), f.cell.1) }

      go : {t : Outcome Octagon} → Tracing o t → traced o ≡ t → TracingIn r o (then t (λ a. cond (is_within r a) (accepted a) (refused off_map)))
      go (is_octagon a e k n m) q =
          cases (is_within r a)
          (λ h. rw h (is_octagon_in a q (test_within r a h)))
          (λ h. rw h (is_off_in k (leaves a e (past_reached r a (normal_reached a n) h))))
      go (is_open f) q = is_open_in f
      go (is_off k f) q = is_off_in k (record { x = f.x; y = f.y; cell = (f.cell.0, λ m. f.cell.1 (square_larger r limit l m)) })
