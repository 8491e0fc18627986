-- Coordinates in the map's cells: what the tests of the code say of the cell, and that they find it. Assumes nothing.
use mathlib.Core.Path.{◌≡◌, refl, sym, ◌∙◌}
use mathlib.Core.Bool.{Bool, true, false, not}
use mathlib.Core.Logic.{◌↔◌}
use Prim.Native.Nat.{ℕ, ◌+◌, ◌*◌, ◌^◌, ◌<◌}
use native.Mathlib.Omega.{arith}
use lib.IntN.{ℤ, pos, negsuc, ◌+ℤ◌, ◌-ℤ◌, ◌*ℤ◌}
use lib.Signed.{mag, le_z}
use lib.Ieee.{Float, nan, inf, fin, up as raised, down, le}
use lib.Ieee.Fits.{down_pos}
use borrow.Author.Tests.{not-true}
use Rattle.integers.proofs.Parts.{up, dn, sum_parts, diff_parts, le_parts, parts_le, parts_eq}
use Rattle.integers.proofs.Linear.{#, ◌⊕◌, neg, lit, ◌≼◌}
use Rattle.integers.proofs.Tests.{cases, T_true, test_le, true_T, true_is_not_false, both_true, and_true, not_le_told, parts_lt}
use Rattle.octagon.specs.Cells.{limit}
use Rattle.octagon.specs.Outcome.{accepted}
use Rattle.octagon.proofs.Outcomes.{accepted_not_refused}
use Rattle.tape.specs.Snapping.{with_sign, edge, within_edges, Nearest, Spans, snapped}
use Rattle.tape.proofs.Scales.{twice_less, twice_more}
use Rattle.tape.proofs.Edges.{first, past, le_edge, between}
use Rattle.tape.proofs.Coordinates.{at_most_cell, snap_exactly, snap_greatest}

-- a cell of the map, or one beside it
pub record Close (k : ℤ) : Type 0 where
  pub over : neg (# k) ≼ lit (limit + 1)
  pub under : # k ≼ lit (limit + 1)

pub edge_fits : (k : ℤ) → Close k → mag ((k +ℤ k) -ℤ pos 1) < 2 ^ 31
unfolding up dn
edge_fits k c =
    let twice = sum_parts k k in
    let less = diff_parts (k +ℤ k) (pos 1) in
    go ((k +ℤ k) -ℤ pos 1) (omega (arith, c.over)) (omega (arith, c.under))
  where
    go : (z : ℤ) → neg (lit (limit + limit + 3)) ≼ # z → # z ≼ lit (limit + limit + 3) → mag z < 2 ^ 31
    go (pos n) h l = omega arith
    go (negsuc n) h l = omega arith

-- ---- the edges that are at most e are those of the cells up to its own

edge_reached : (k n : ℤ) (s : Bool) (m : ℕ) (x : ℤ) → Close k → snapped (fin s m x) ≡ accepted n → (le (edge k) (fin s m x) ≡ true) ↔ (# k ≼ # n)
edge_reached k n s m x c q =
    let g = snap_greatest (fin s m x) s (m * raised x) (down x) (down_pos x) (refl, refl) n q k in
    let t = le_edge k (edge_fits k c) s m x in
    (λ h. le_parts (g.0 (record { le = true_T (sym t ∙ h) })), λ h. t ∙ T_true _ (g.1 (parts_le k n h)).le)

-- ---- the nearest whole number of quarters is the cell, or the one before it

-- the upper edge of a cell is the lower edge of the next
next_edge : (n : ℤ) → (n +ℤ n) +ℤ pos 1 ≡ ((n +ℤ pos 1) +ℤ (n +ℤ pos 1)) -ℤ pos 1
unfolding up dn
next_edge n =
    let k = n +ℤ pos 1 in
    parts_eq ((n +ℤ n) +ℤ pos 1) ((k +ℤ k) -ℤ pos 1)
    (omega (arith, sum_parts n n, sum_parts (n +ℤ n) (pos 1), sum_parts n (pos 1), sum_parts k k, diff_parts (k +ℤ k) (pos 1)))

module _ (n : ℤ) (s : Bool) (m : ℕ) (x : ℤ) (near : Nearest n (fin s m x)) where
  abbrev next : ℤ
  next = n +ℤ pos 1

  abbrev w : ℤ
  w = with_sign s (8 * (m * raised x))

  -- e is at most the upper edge of n, which is the lower edge of the next cell, and so below the upper edge of that
  at_most_edge : # w ≼ # (((next +ℤ next) -ℤ pos 1) *ℤ pos (down x))
  at_most_edge = rw (← next_edge n) (le_parts near.1)

  below_next : # w ⊕ lit 1 ≼ # (((next +ℤ next) +ℤ pos 1) *ℤ pos (down x))
  below_next = omega (arith, at_most_edge, twice_less next (down x), twice_more next (down x), down_pos x)

  -- so the code compares with an edge of a cell of the map, or of the one past the last
  own_close : within_edges (fin s m x) ≡ true → Close next
  unfolding up dn
  own_close h =
      let b = between s m x h in
      let high = at_most_cell n (pos limit) w (down x) (le_parts near.0) b.passed in
      let low = at_most_cell first next w (down x) b.reached below_next in
      record { over = omega arith; under = omega (arith, sum_parts n (pos 1)) }

  by_spans : (k : ℤ) → Spans k s (m * raised x) (down x) → snapped (fin s m x) ≡ accepted k
  by_spans k = (snap_exactly (fin s m x) s (m * raised x) (down x) (down_pos x) (refl, refl) k).1

  own_next : Close next → le (edge next) (fin s m x) ≡ true → snapped (fin s m x) ≡ accepted next
  own_next c h =
      by_spans next (record {
        reached = record { le = true_T (sym (le_edge next (edge_fits next c) s m x) ∙ h) };
        passed = parts_lt w (((next +ℤ next) +ℤ pos 1) *ℤ pos (down x)) below_next;
      })

  own_here : Close next → le (edge next) (fin s m x) ≡ false → snapped (fin s m x) ≡ accepted n
  own_here c h =
      let Edge_of = ((next +ℤ next) -ℤ pos 1) *ℤ pos (down x) in
      by_spans n (record {
        reached = near.0;
        passed = rw (next_edge n) (parts_lt w Edge_of (not_le_told Edge_of w (sym (le_edge next (edge_fits next c) s m x) ∙ h)));
      })

-- the same of any coordinate: only a finite one has a nearest number of quarters
pub next_close : (e : Float) (n : ℤ) → within_edges e ≡ true → Nearest n e → Close (n +ℤ pos 1)
next_close nan n h near = absurd near
next_close (inf s) n h near = absurd near
next_close (fin s m x) n h near = own_close n s m x near h

pub snaps_next : (e : Float) (n : ℤ) → Nearest n e → Close (n +ℤ pos 1) → le (edge (n +ℤ pos 1)) e ≡ true → snapped e ≡ accepted (n +ℤ pos 1)
snaps_next nan n near = absurd near
snaps_next (inf s) n near = absurd near
snaps_next (fin s m x) n near = own_next n s m x near

pub snaps_here : (e : Float) (n : ℤ) → Nearest n e → Close (n +ℤ pos 1) → le (edge (n +ℤ pos 1)) e ≡ false → snapped e ≡ accepted n
snaps_here nan n near = absurd near
snaps_here (inf s) n near = absurd near
snaps_here (fin s m x) n near = own_here n s m x near

-- ---- a cell of the map

-- a finite coordinate is between the map's edges exactly where its cell is one of the map's, either way
pub between_exactly : (e : Float) (n : ℤ) → snapped e ≡ accepted n → (within_edges e ≡ true) ↔ ((neg (# n) ≼ lit limit) × (# n ≼ lit limit))
unfolding snapped up dn
between_exactly nan n q = absurd (accepted_not_refused (sym q))
between_exactly (inf s) n q = absurd (accepted_not_refused (sym q))
between_exactly (fin s m x) n q = (to, from)
  where
    most : # n ⊕ lit 1 ≼ # past → # n ≼ lit limit
    most h = omega arith

    low : (le (edge first) (fin s m x) ≡ true) ↔ (# first ≼ # n)
    low = edge_reached first n s m x (record { over = omega arith; under = omega arith }) q

    high : (le (edge past) (fin s m x) ≡ true) ↔ (# past ≼ # n)
    high = edge_reached past n s m x (record { over = omega arith; under = omega arith }) q

    to : within_edges (fin s m x) ≡ true → (neg (# n) ≼ lit limit) × (# n ≼ lit limit)
    to h =
        let p = both_true (le (edge first) (fin s m x)) (not (le (edge past) (fin s m x))) h in
        let f = not-true (le (edge past) (fin s m x)) p.1 in
        (omega (arith, low.0 p.0), most (cases (le_z past n) (λ t. absurd (true_is_not_false (sym (high.1 (test_le past n t)) ∙ f))) (λ t. not_le_told past n t)))

    from : (neg (# n) ≼ lit limit) × (# n ≼ lit limit) → within_edges (fin s m x) ≡ true
    from h = and_true (low.1 (omega arith)) (cases (le (edge past) (fin s m x)) (λ t. absurd (omega (arith, high.0 t))) (λ f. rw f refl))
