-- How far a walk can go: from a start and lengths of 32 bits every vertex, and every move, is within 64. Assumes nothing.
use Prim.Native.Nat.{ℕ, zero, suc, ◌*◌, ◌^◌, ◌<◌, ◌≤◌}
use native.Mathlib.Nat.{mul-le-mul_right, lt_of_le_of_lt}
use native.Mathlib.Omega.{arith}
use lib.IntN.{ℤ, pos, negsuc, neg_ℤ, ◌+ℤ◌, ◌*ℤ◌}
use lib.Signed.{mag}
use mir.Syntax.{w32, w64}
use mir.Val.{Fits, SFits}
use Rattle.integers.specs.Range.{Room}
use Rattle.integers.proofs.Parts.{up, dn, sum_up, sum_dn, neg_up, neg_dn}
use Rattle.integers.proofs.Range.{room, room_i32, room_parts}
use Rattle.outline.specs.declared.Outline.{Outline}
use Rattle.outline.specs.declared.walk.Cell.{Cell}
use Rattle.outline.specs.Walk.{east, north, side, vertex}
use Rattle.outline.proofs.Steps.{eight}

-- ---- a product of an i32 and a u32

neg_mag : (m : ℕ) → mag (neg_ℤ (pos m)) ≤ m
neg_mag zero = omega arith
neg_mag (suc m) = omega arith

below : (a n : ℕ) → a ≤ 2 ^ 31 → n < 2 ^ 32 → a * n < 2 ^ 63
below a n h l = lt_of_le_of_lt (mul-le-mul_right n h) (omega arith)

pub product_fits : (d : ℤ) (n : ℕ) → SFits w32 d → Fits w32 n → SFits w64 (d *ℤ pos n)
product_fits (pos a) n f g = record { sfits = below a n (omega (arith, f.sfits)) g.fits }
product_fits (negsuc a) n f g = record { sfits = lt_of_le_of_lt (neg_mag (suc a * n)) (below (suc a) n (omega (arith, f.sfits)) g.fits) }

-- ---- the vertices

-- an outline as the machine holds it
pub record Held (o : Outline) : Type 0 where
  pub held_i : SFits w32 o.i
  pub held_j : SFits w32 o.j
  pub held0 : Fits w32 o.n0
  pub held1 : Fits w32 o.n1
  pub held2 : Fits w32 o.n2
  pub held3 : Fits w32 o.n3
  pub held4 : Fits w32 o.n4
  pub held5 : Fits w32 o.n5
  pub held6 : Fits w32 o.n6
  pub held7 : Fits w32 o.n7

-- a coordinate at most l from 0
pub record Far (l : ℕ) (z : ℤ) : Type 0 where
  pub over : up z ≤ l
  pub under : dn z ≤ l

side_fits : (o : Outline) → Held o → (k : ℕ) → k < 8 → side o k < 2 ^ 32
side_fits o h =
    eight (λ k. side o k < 2 ^ 32)
    h.held0.fits h.held1.fits h.held2.fits h.held3.fits h.held4.fits h.held5.fits h.held6.fits h.held7.fits

-- a step is at most 1 each way
abbrev Small : ℤ → Type 0
Small d = (n : ℕ) → Far n (d *ℤ pos n)

one : Small (pos 1)
unfolding up dn
one n = omega arith

none : Small (pos 0)
unfolding up dn
none n = omega arith

minus_one : Small (negsuc 0)
unfolding up dn
minus_one n = omega (arith, neg_up (pos (1 * n)), neg_dn (pos (1 * n)))

east_small : (k : ℕ) → k < 8 → Small (east k)
east_small = eight (λ k. Small (east k)) one one none minus_one minus_one minus_one none one

north_small : (k : ℕ) → k < 8 → Small (north k)
north_small = eight (λ k. Small (north k)) none one one one none minus_one minus_one minus_one

start_far : {z : ℤ} → SFits w32 z → Far (2 ^ 32) z
start_far f = let p = room_parts (room_i32 30 tt f) in omega arith

step_far : (k : ℕ) (a b : ℤ) (n : ℕ) → n < 2 ^ 32 → Far (suc k * 2 ^ 32) a → Far n b → Far (suc (suc k) * 2 ^ 32) (a +ℤ b)
step_far k a b n h f g = omega (arith, sum_up a b, sum_dn a b)

pub vertex_far : (o : Outline) → Held o → (k : ℕ) → k ≤ 8 → Far (suc k * 2 ^ 32) (vertex o k).x × Far (suc k * 2 ^ 32) (vertex o k).y
unfolding vertex
vertex_far o h zero l = let p = start_far h.held_i in let q = start_far h.held_j in omega arith
vertex_far o h (suc k) l =
    let f = vertex_far o h k (omega arith) in
    let n = side_fits o h k (omega arith) in (
      step_far k (vertex o k).x (east k *ℤ pos (side o k)) (side o k) n f.0 (east_small k (omega arith) (side o k)),
      step_far k (vertex o k).y (north k *ℤ pos (side o k)) (side o k) n f.1 (north_small k (omega arith) (side o k)),
    )

-- the coordinates of vertex k leave room for sums
pub record Roomy (v : Cell) : Type 0 where
  pub room_x : Room 2 v.x
  pub room_y : Room 2 v.y

pub vertex_room : (o : Outline) → Held o → (k : ℕ) → k ≤ 8 → Roomy (vertex o k)
vertex_room o h k l =
    let f = vertex_far o h k l in
    record { room_x = room 2 (omega (arith, f.0)) (omega (arith, f.0)); room_y = room 2 (omega (arith, f.1)) (omega (arith, f.1)) }
