-- The smallest octagon that holds a set of cells: there is one at most, it is normalised, and it is on the map, and so placed, where the
-- set is. For the cells of an octagon it is the normal form. Assumes nothing.
use mathlib.Core.Path.{◌≡◌, ap, ◌∙◌}
use mathlib.Core.Bool.{true}
use mathlib.Core.Logic.{◌↔◌}
use Prim.Native.Nat.{◌+◌}
use native.Mathlib.Omega.{arith}
use lib.IntN.{ℤ, pos}
use mir.Syntax.{w32}
use Rattle.integers.proofs.Parts.{up, dn}
use Rattle.integers.proofs.Tests.{cases}
use Rattle.octagon.specs.Octagon.{Octagon}
use Rattle.octagon.specs.Outcome.{accepted, refused, off_map}
use Rattle.octagon.specs.Cells.{Cells, ◌⊆◌, ◌≐◌, Some, In, OnMap, LeavesMap, ReachedBy, Normalised, Smallest, limit}
use Rattle.octagon.specs.NormalForm.{is_on_map, placed, normalised}
use Rattle.octagon.specs.Widths.{Held}
use Rattle.octagon.proofs.Within.{Within, OnGrid, within, cell_in, on_grid}
use Rattle.octagon.proofs.Vertices.{reached_normal}
use Rattle.octagon.proofs.Map.{near_cells, cells_near, near_held, on_map_exactly, far_reached}
use Rattle.octagon.proofs.Unique.{AtMost, at_mosts, both_ways}
use Rattle.octagon.proofs.NormalForms.{accepted_means, accepted_when}

-- ---- bounds that are reached by the cells of a set

-- bounds that are each at most another octagon's hold no further cells
pub at_most_in : (a b : Octagon) → AtMost a b → In a ⊆ In b
at_most_in a b m x y i = cell_in (go (within i))
  where
    go : Within a x y → Within b x y
    go k = omega arith

-- what is said of some cell of a set is said of some cell of a greater one
pub some_in : {A B P : Cells} → A ⊆ B → Some (λ x y. A x y × P x y) → Some (λ x y. B x y × P x y)
some_in h r = record { x = r.x; y = r.y; cell = (h r.x r.y r.cell.0, r.cell.1) }

reached_in : {a : Octagon} {A B : Cells} → A ⊆ B → ReachedBy A a → ReachedBy B a
reached_in h r = record {
  reached0 = some_in h r.reached0;
  reached1 = some_in h r.reached1;
  reached2 = some_in h r.reached2;
  reached3 = some_in h r.reached3;
  reached4 = some_in h r.reached4;
  reached5 = some_in h r.reached5;
  reached6 = some_in h r.reached6;
  reached7 = some_in h r.reached7;
}

-- ---- the smallest

-- bounds that hold a set and are reached by its cells are the smallest
pub smallest_when : {a : Octagon} {A : Cells} → A ⊆ In a → ReachedBy A a → Smallest a A
smallest_when {a} h r = record { holds = h; least = λ b k. at_most_in a b (at_mosts b r k); reached = r }

-- a set has one smallest octagon at most
pub smallest_unique : {a b : Octagon} {A B : Cells} → A ≐ B → Smallest a A → Smallest b B → a ≡ b
smallest_unique {a} {b} e s t =
    both_ways a b
    (at_mosts b s.reached (λ x y i. t.holds x y ((e x y).0 i)))
    (at_mosts a t.reached (λ x y i. s.holds x y ((e x y).1 i)))

pub smallest_same : {a : Octagon} {A B : Cells} → A ≐ B → Smallest a A → Smallest a B
smallest_same e s = smallest_when (λ x y i. s.holds x y ((e x y).1 i)) (reached_in (λ x y. (e x y).0) s.reached)

pub smallest_normalised : {a : Octagon} {A : Cells} → Smallest a A → Normalised a
smallest_normalised s =
    let r = s.reached.reached0 in
    record { some = record { x = r.x; y = r.y; cell = s.holds r.x r.y r.cell.0 }; reached = reached_in s.holds s.reached }

-- the octagon of the whole map
whole_map : Octagon
whole_map = record {
  c0 = pos limit;
  c1 = pos (limit + limit);
  c2 = pos limit;
  c3 = pos (limit + limit);
  c4 = pos limit;
  c5 = pos (limit + limit);
  c6 = pos limit;
  c7 = pos (limit + limit);
}

-- it holds the map, so the smallest octagon of a set on the map is on the map
pub smallest_on_map : {a : Octagon} {A : Cells} → Smallest a A → A ⊆ OnMap → In a ⊆ OnMap
unfolding up dn whole_map
smallest_on_map s h x y i = near_cells whole_map (omega arith) x y (s.least whole_map (λ u v k. cell_in (go u v (on_grid (h u v k)))) x y i)
  where
    go : (u v : ℤ) → OnGrid limit u v → Within whole_map u v
    go u v g = omega arith

-- ---- its place on the map

module _ {a : Octagon} {A : Cells} (s : Smallest a A) where
  -- the test on its bounds tells whether the set is on the map
  pub test_means : is_on_map a ≡ true → A ⊆ OnMap
  test_means h x y i = (on_map_exactly a (smallest_normalised s)).0 h x y (s.holds x y i)

  pub placed_within : A ⊆ OnMap → placed a ≡ accepted a
  unfolding placed
  placed_within h = rw ((on_map_exactly a (smallest_normalised s)).1 (smallest_on_map s h))

  -- on the map, its bounds fit 32 bits
  pub smallest_held : A ⊆ OnMap → Held w32 a
  smallest_held h =
      let n = reached_normal a (smallest_normalised s).reached in
      near_held a n (cells_near a n (smallest_on_map s h))

  pub placed_leaving : LeavesMap A → placed a ≡ refused off_map
  unfolding placed
  placed_leaving l = cases (is_on_map a) (λ h. absurd (l.cell.1 (test_means h l.x l.y l.cell.0))) (λ h. rw h)

  pub within_or_leaving : {R : Type 0} → (A ⊆ OnMap → R) → (LeavesMap A → R) → R
  within_or_leaving f g = cases (is_on_map a) (λ h. f (test_means h)) (λ h. g (far_reached a s.reached h))

  -- it leaves the map exactly where the set does
  pub smallest_leaves : LeavesMap (In a) ↔ LeavesMap A
  smallest_leaves = (
    λ l. within_or_leaving (λ h. absurd (l.cell.1 (smallest_on_map s h l.x l.y l.cell.0))) (λ k. k),
    λ l. some_in s.holds l,
  )

-- ---- of the cells of an octagon

-- the smallest octagon that holds the cells of c is the one that is normalised and has them
pub smallest_own : (c a : Octagon) → Smallest a (In c) ↔ (Normalised a × (In a ≐ In c))
smallest_own c a = (
  λ s. (smallest_normalised s, λ x y. (s.least c (λ u v k. k) x y, s.holds x y)),
  λ n. smallest_when (λ x y. (n.1 x y).1) (reached_in (λ x y. (n.1 x y).0) n.0.reached),
)

-- and `normalise` accepts it exactly where those cells are on the map
pub smallest_accepted : (c a : Octagon) → (normalised c ≡ accepted a) ↔ (Smallest a (In c) × (In c ⊆ OnMap))
smallest_accepted c a = (means a, given)
  where
    means : (b : Octagon) → normalised c ≡ accepted b → Smallest b (In c) × (In c ⊆ OnMap)
    means b e =
        let r = accepted_means c b e in
        ((smallest_own c b).1 (r.is_normalised, r.cells), λ x y i. r.on_the_map x y ((r.cells x y).1 i))

    given : Smallest a (In c) × (In c ⊆ OnMap) → normalised c ≡ accepted a
    given h =
        let r = h.0.reached.reached0 in
        let w = accepted_when c (record { x = r.x; y = r.y; cell = r.cell.0 }) h.1 in
        w.1 ∙ ap accepted (smallest_unique (λ x y. (λ k. k, λ k. k)) (means w.0 w.1).0 h.0)

-- the smallest octagon of a set is that of its own cells
pub smallest_itself : {a : Octagon} {A : Cells} → Smallest a A → Smallest a (In a)
smallest_itself {a} s = (smallest_own a a).1 (smallest_normalised s, λ x y. (λ i. i, λ i. i))

-- so `normalise` gives a smallest octagon back, where the set is on the map
pub smallest_again : {a : Octagon} {A : Cells} → Smallest a A → A ⊆ OnMap → normalised a ≡ accepted a
smallest_again {a} s m = (smallest_accepted a a).1 (smallest_itself s, smallest_on_map s m)
