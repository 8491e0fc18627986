-- The hull of two smallest octagons is the smallest of both sets. Assumes nothing.
use mathlib.Core.Path.{◌≡◌}
use mathlib.Core.Logic.{inl, inr}
use lib.IntN.{ℤ, neg_ℤ, ◌+ℤ◌, ◌-ℤ◌}
use Rattle.integers.specs.Minimum.{max_ℤ}
use Rattle.integers.proofs.Minimum.{max_ind, max_right}
use Rattle.octagon.specs.Octagon.{Octagon}
use Rattle.octagon.specs.Cells.{Cells, Either, Some, In, Smallest}
use Rattle.octagon.proofs.Unique.{AtMost}
use Rattle.octagon.proofs.Smallest.{at_most_in, some_in, smallest_when}
use Rattle.tape.specs.Hull.{hull}
use Rattle.tape.proofs.HullBounds.{hull_left}

hull_right : (a b : Octagon) → AtMost b (hull a b)
unfolding hull
hull_right a b = record {
  m0 = max_right a.c0 b.c0;
  m1 = max_right a.c1 b.c1;
  m2 = max_right a.c2 b.c2;
  m3 = max_right a.c3 b.c3;
  m4 = max_right a.c4 b.c4;
  m5 = max_right a.c5 b.c5;
  m6 = max_right a.c6 b.c6;
  m7 = max_right a.c7 b.c7;
}

-- the greater of two bounds is reached by a cell of one set or the other
reached_either : {A B : Cells} (f : ℤ → ℤ → ℤ) {v w : ℤ} → Some (λ x y. A x y × (f x y ≡ v)) → Some (λ x y. B x y × (f x y ≡ w)) →
    Some (λ x y. Either A B x y × (f x y ≡ max_ℤ v w))
reached_either {A} {B} f {v} {w} r s =
    max_ind (λ z. Some (λ x y. Either A B x y × (f x y ≡ z))) v w (λ _. some_in (λ x y i. inl i) r) (λ _. some_in (λ x y i. inr i) s)

pub hull_smallest : {a b : Octagon} {A B : Cells} → Smallest a A → Smallest b B → Smallest (hull a b) (Either A B)
unfolding hull
hull_smallest {a} {b} {A} {B} s t =
    let r = s.reached in
    let q = t.reached in
    smallest_when holds
    (record {
      reached0 = reached_either (λ x y. neg_ℤ y) r.reached0 q.reached0;
      reached1 = reached_either (λ x y. x -ℤ y) r.reached1 q.reached1;
      reached2 = reached_either (λ x y. x) r.reached2 q.reached2;
      reached3 = reached_either (λ x y. x +ℤ y) r.reached3 q.reached3;
      reached4 = reached_either (λ x y. y) r.reached4 q.reached4;
      reached5 = reached_either (λ x y. neg_ℤ x +ℤ y) r.reached5 q.reached5;
      reached6 = reached_either (λ x y. neg_ℤ x) r.reached6 q.reached6;
      reached7 = reached_either (λ x y. neg_ℤ x -ℤ y) r.reached7 q.reached7;
    })
  where
    holds : (x y : ℤ) → Either A B x y → In (hull a b) x y
    holds x y (inl i) = at_most_in a (hull a b) (hull_left a b) x y (s.holds x y i)
    holds x y (inr i) = at_most_in b (hull a b) (hull_right a b) x y (t.holds x y i)
