-- The test that normalised bounds are within a square, and so on the map, in cells: also of bounds that any set of cells reaches, which
-- leaves the square where the test fails; and that bounds on the map fit an i32. Assumes nothing.
use mathlib.Core.Path.{◌≡◌, sym, ◌∙◌}
use mathlib.Core.Logic.{◌↔◌}
use mathlib.Core.Bool.{true, false}
use Prim.Native.Nat.{ℕ, ◌+◌, ◌≤◌}
use native.Mathlib.Omega.{arith}
use lib.IntN.{ℤ, pos}
use lib.Signed.{le_z}
use mir.Syntax.{w32}
use Rattle.integers.proofs.Parts.{up, dn, eq_parts, neg_up, neg_dn}
use Rattle.integers.proofs.Linear.{#, lit}
use Rattle.integers.proofs.Tests.{and_le, test_le, le_test, and_true, true_is_not_false}
use Rattle.integers.proofs.Between.{decide}
use Rattle.integers.proofs.Range.{room_near, room_fits32}
use Rattle.octagon.specs.Octagon.{Octagon}
use Rattle.octagon.specs.Cells.{Cells, ◌⊆◌, Some, In, Square, Leaves, OnMap, LeavesMap, ReachedBy, Normalised, limit}
use Rattle.octagon.specs.NormalForm.{is_within, is_on_map}
use Rattle.octagon.specs.Widths.{Held}
use Rattle.octagon.proofs.Within.{Within, Normal, NearTo, Near, OnGrid, within, cell_in, on_grid, on_square}
use Rattle.octagon.proofs.Vertices.{reached_normal, normal_reached, vertex_12, vertex_34, vertex_56, vertex_70}

-- ---- a square, and the test that normalised bounds are within it

module _ (r : ℕ) (c : Octagon) where
  pub test_within : is_within r c ≡ true → NearTo r c
  unfolding up dn
  test_within h =
      let p6 = and_le _ c.c6 (pos r) h in
      let p4 = and_le _ c.c4 (pos r) p6.0 in
      let p2 = and_le (le_z c.c0 (pos r)) c.c2 (pos r) p4.0 in
      record { near0 = test_le c.c0 (pos r) p2.0; near2 = p2.1; near4 = p4.1; near6 = p6.1 }

  pub within_test : NearTo r c → is_within r c ≡ true
  unfolding up dn
  within_test n =
      and_true (and_true (and_true
      (le_test c.c0 (pos r) n.near0)
      (le_test c.c2 (pos r) n.near2))
      (le_test c.c4 (pos r) n.near4))
      (le_test c.c6 (pos r) n.near6)

  pub near_square : NearTo r c → In c ⊆ Square r
  near_square n x y i = on_square (go (within i))
    where
      go : Within c x y → OnGrid r x y
      go k = omega arith

  pub square_near : Normal c → In c ⊆ Square r → NearTo r c
  square_near n h =
      let v1 = vertex_12 c n in
      let v3 = vertex_34 c n in
      let v5 = vertex_56 c n in
      let v7 = vertex_70 c n in
      let g1 = on_grid (h v1.x v1.y (cell_in v1.inside)) in
      let g3 = on_grid (h v3.x v3.y (cell_in v3.inside)) in
      let g5 = on_grid (h v5.x v5.y (cell_in v5.inside)) in
      let g7 = on_grid (h v7.x v7.y (cell_in v7.inside)) in
      record {
        near0 = omega (arith, v7.at_y, g7.south);
        near2 = omega (arith, v1.at_x, g1.east);
        near4 = omega (arith, v3.at_y, g3.north);
        near6 = omega (arith, v5.at_x, g5.west);
      }

  -- the test holds of normalised bounds exactly where every cell is in the square
  pub within_exactly : Normalised c → (is_within r c ≡ true) ↔ (In c ⊆ Square r)
  within_exactly n = (λ h. near_square (test_within h), λ h. within_test (square_near (reached_normal c n.reached) h))

  -- a bound past r is reached by a cell outside the square
  pub past_reached : {A : Cells} → ReachedBy A c → is_within r c ≡ false → Leaves r A
  past_reached {A} q h =
      decide (# c.c0) (lit r)
      (λ m0. decide (# c.c2) (lit r)
      (λ m2. decide (# c.c4) (lit r)
      (λ m4. decide (# c.c6) (lit r)
      (λ m6. absurd (true_is_not_false (sym (within_test (record { near0 = m0; near2 = m2; near4 = m4; near6 = m6 })) ∙ h)))
      (λ f. off q.reached6 (λ x y e m. omega (arith, eq_parts e, on_grid m, neg_up x, neg_dn x))))
      (λ f. off q.reached4 (λ x y e m. omega (arith, eq_parts e, on_grid m))))
      (λ f. off q.reached2 (λ x y e m. omega (arith, eq_parts e, on_grid m))))
      (λ f. off q.reached0 (λ x y e m. omega (arith, eq_parts e, on_grid m, neg_up y, neg_dn y)))
    where
      off : {P : Cells} → Some (λ x y. A x y × P x y) → ((x y : ℤ) → P x y → ¬ (Square r x y)) → Leaves r A
      off s k = record { x = s.x; y = s.y; cell = (s.cell.0, k s.x s.y s.cell.1) }

-- a larger square holds a smaller one
pub square_larger : (r t : ℕ) → r ≤ t → {x y : ℤ} → Square r x y → Square t x y
square_larger r t l {x} {y} m = on_square (go (on_grid m))
  where
    go : OnGrid r x y → OnGrid t x y
    go k = omega arith

-- ---- the map

pub test_near : (c : Octagon) → is_on_map c ≡ true → Near c
unfolding is_on_map
test_near c h = test_within limit c h

pub near_test : (c : Octagon) → Near c → is_on_map c ≡ true
unfolding is_on_map
near_test c n = within_test limit c n

pub near_cells : (c : Octagon) → Near c → In c ⊆ OnMap
near_cells c = near_square limit c

pub cells_near : (c : Octagon) → Normal c → In c ⊆ OnMap → Near c
cells_near c = square_near limit c

-- the test holds of normalised bounds exactly where every cell is on the map
pub on_map_exactly : (c : Octagon) → Normalised c → (is_on_map c ≡ true) ↔ (In c ⊆ OnMap)
unfolding is_on_map
on_map_exactly c = within_exactly limit c

-- a bound past the limit is reached by a cell off the map
pub far_reached : {A : Cells} (c : Octagon) → ReachedBy A c → is_on_map c ≡ false → LeavesMap A
unfolding is_on_map
far_reached c = past_reached limit c

pub far_cell : (c : Octagon) → Normal c → is_on_map c ≡ false → LeavesMap (In c)
far_cell c n = far_reached c (normal_reached c n)

-- ---- the bounds

pub near_held : (c : Octagon) → Normal c → Near c → Held w32 c
near_held c n m = record {
  held0 = room_fits32 (room_near 32 limit c.c0 tt m.near0 (omega arith));
  held1 = room_fits32 (room_near 32 (limit + limit) c.c1 tt (omega arith) (omega arith));
  held2 = room_fits32 (room_near 32 limit c.c2 tt m.near2 (omega arith));
  held3 = room_fits32 (room_near 32 (limit + limit) c.c3 tt (omega arith) (omega arith));
  held4 = room_fits32 (room_near 32 limit c.c4 tt m.near4 (omega arith));
  held5 = room_fits32 (room_near 32 (limit + limit) c.c5 tt (omega arith) (omega arith));
  held6 = room_fits32 (room_near 32 limit c.c6 tt m.near6 (omega arith));
  held7 = room_fits32 (room_near 32 (limit + limit) c.c7 tt (omega arith) (omega arith));
}
