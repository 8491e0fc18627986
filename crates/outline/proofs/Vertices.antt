-- The vertices of an accepted outline, in the words of document 01: where they lie, which the start
-- is, and when the walk comes back to it. Assumes nothing.
use mathlib.Core.Path.{◌≡◌, ap}
use mathlib.Core.Logic.{◌↔◌}
use Prim.Native.Nat.{ℕ, ◌+◌, ◌%◌, ◌<◌}
use native.Mathlib.Omega.{arith}
use lib.IntN.{ℤ, neg_ℤ}
use Rattle.integers.proofs.Parts.{sum_parts, diff_parts, neg_up, neg_dn, eq_parts, parts_eq, parts_le}
use Rattle.integers.proofs.Linear.{#, ◌⊕◌, neg, ◌≈◌, same}
use Rattle.octagon.specs.Octagon.{Octagon}
use Rattle.octagon.specs.Outcome.{accepted}
use Rattle.octagon.specs.Cells.{In}
use Rattle.octagon.proofs.Within.{Within, within, cell_in}
use Rattle.outline.specs.declared.Outline.{Outline}
use Rattle.outline.specs.declared.walk.Cell.{Cell}
use Rattle.outline.specs.Closing.{Closes}
use Rattle.outline.specs.Walk.{vertex}
use Rattle.outline.specs.Tracing.{drawn, traced}
use Rattle.outline.specs.Meaning.{PastStart, Reaches, IsVertex}
use Rattle.outline.proofs.Steps.{eight}
use Rattle.outline.proofs.Tracings.{accepted_drawn, accepted_means}
use Rattle.outline.proofs.Drawn.{walked, reached}

-- ---- one bound

module _ (a : Octagon) (v : Cell) where
  on0 : # a.c0 ≈ neg (# v.y) → Reaches a 0 v.x v.y
  on0 h = same (neg (# v.y)) (omega (arith, neg_up v.y, neg_dn v.y)) h

  on1 : # a.c1 ≈ # v.x ⊕ neg (# v.y) → Reaches a 1 v.x v.y
  on1 h = same (# v.x ⊕ neg (# v.y)) (omega (arith, diff_parts v.x v.y)) h

  on2 : # a.c2 ≈ # v.x → Reaches a 2 v.x v.y
  on2 h = same (# v.x) (omega arith) h

  on3 : # a.c3 ≈ # v.x ⊕ # v.y → Reaches a 3 v.x v.y
  on3 h = same (# v.x ⊕ # v.y) (sum_parts v.x v.y) h

  on4 : # a.c4 ≈ # v.y → Reaches a 4 v.x v.y
  on4 h = same (# v.y) (omega arith) h

  on5 : # a.c5 ≈ neg (# v.x) ⊕ # v.y → Reaches a 5 v.x v.y
  on5 h = same (neg (# v.x) ⊕ # v.y) (omega (arith, sum_parts (neg_ℤ v.x) v.y, neg_up v.x, neg_dn v.x)) h

  on6 : # a.c6 ≈ neg (# v.x) → Reaches a 6 v.x v.y
  on6 h = same (neg (# v.x)) (omega (arith, neg_up v.x, neg_dn v.x)) h

  on7 : # a.c7 ≈ neg (# v.x) ⊕ neg (# v.y) → Reaches a 7 v.x v.y
  on7 h = same (neg (# v.x) ⊕ neg (# v.y)) (omega (arith, diff_parts (neg_ℤ v.x) v.y, neg_up v.x, neg_dn v.x)) h

-- ---- each vertex of an outline that closes

module _ (o : Outline) (k : Closes o) where
  abbrev a : Octagon
  a = drawn o

  cell : (n : ℕ) → n < 8 → Within a (vertex o n).x (vertex o n).y
  cell =
      let w = walked o in
      let r = reached o in
      eight (λ n. Within a (vertex o n).x (vertex o n).y)
      (omega arith) (omega arith) (omega arith) (omega arith) (omega arith) (omega arith) (omega arith) (omega arith)

  before : (n : ℕ) → n < 8 → Reaches a ((n + 7) % 8) (vertex o n).x (vertex o n).y
  before =
      let w = walked o in
      let r = reached o in
      eight (λ n. Reaches a ((n + 7) % 8) (vertex o n).x (vertex o n).y)
      (on7 a (vertex o 0) (omega arith))
      (on0 a (vertex o 1) (omega arith))
      (on1 a (vertex o 2) (omega arith))
      (on2 a (vertex o 3) (omega arith))
      (on3 a (vertex o 4) (omega arith))
      (on4 a (vertex o 5) (omega arith))
      (on5 a (vertex o 6) (omega arith))
      (on6 a (vertex o 7) (omega arith))

  own : (n : ℕ) → n < 8 → Reaches a n (vertex o n).x (vertex o n).y
  own =
      let w = walked o in
      let r = reached o in
      eight (λ n. Reaches a n (vertex o n).x (vertex o n).y)
      (on0 a (vertex o 0) (omega arith))
      (on1 a (vertex o 1) (omega arith))
      (on2 a (vertex o 2) (omega arith))
      (on3 a (vertex o 3) (omega arith))
      (on4 a (vertex o 4) (omega arith))
      (on5 a (vertex o 5) (omega arith))
      (on6 a (vertex o 6) (omega arith))
      (on7 a (vertex o 7) (omega arith))

  is_vertex : (n : ℕ) → n < 8 → IsVertex a n (vertex o n)
  is_vertex n h = record { inside = cell_in (cell n h); before = before n h; own = own n h }

-- "corner k+1 is corner k moved nk steps along dk": each is a cell of the octagon, where two bounds meet
pub vertices : (o : Outline) (a : Octagon) → traced o ≡ accepted a → (k : ℕ) → k < 8 → IsVertex a k (vertex o k)
vertices o a q = rw (accepted_drawn o a q) (is_vertex o (accepted_means o a q).closed)

-- "the start is the lowest corner, and of the lowest the leftmost": no cell is lower, and none as low is further left
start_of : (o : Outline) → Closes o → (x y : ℤ) → Within (drawn o) x y → PastStart o x y
start_of o k x y i =
    let w = walked o in
    let r = reached o in
    record { lowest = parts_le o.j y (omega arith); leftmost = λ e. parts_le o.i x (omega (arith, eq_parts e)) }

pub start : (o : Outline) (a : Octagon) → traced o ≡ accepted a → (x y : ℤ) → In a x y → PastStart o x y
start o a q x y i = start_of o (accepted_means o a q).closed x y (within (rw (accepted_drawn o a q) at i))

-- "it closes": exactly where the walk comes back to its start
pub closes_when : (o : Outline) → Closes o ↔ (vertex o 8 ≡ vertex o 0)
closes_when o = (to, from)
  where
    to : Closes o → vertex o 8 ≡ vertex o 0
    to k =
        let w = walked o in
        let x : (vertex o 8).x ≡ (vertex o 0).x = parts_eq (vertex o 8).x (vertex o 0).x (omega arith) in
        let y : (vertex o 8).y ≡ (vertex o 0).y = parts_eq (vertex o 8).y (vertex o 0).y (omega arith) in
        λ i. record { x = x i; y = y i }

    from : vertex o 8 ≡ vertex o 0 → Closes o
    from e = let w = walked o in omega (arith, eq_parts (ap (λ v. v.x) e), eq_parts (ap (λ v. v.y) e))
