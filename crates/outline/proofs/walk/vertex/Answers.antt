-- `vertex` meets its contract: the two moves of a turn lead to the next vertex, whose cell fits 64 bits. Assumes nothing.
use mathlib.Core.Path.{◌≡◌, ◌∙◌, ap}
use Prim.Native.Nat.{ℕ, suc}
use native.Mathlib.Numerals.{add-one}
use native.Mathlib.Omega.{arith}
use borrow.Author.Rules.{rules}
use mir.Syntax.{w32, w64}
use mir.Val.{SFits, to_z, of_z}
use mir.Facts.{to_z-of_z}
use lib.IntN.{ℤ, pos, ◌+ℤ◌, ◌*ℤ◌}
use lib.ListN.{get_or}
use Rattle.integers.proofs.Range.{kept, widened, room_fits}
use Rattle.outline.specs.Walk.{vertex}
use Rattle.outline.specs.declared.Outline.{Outline}
use Rattle.outline.specs.declared.walk.Cell.{Cell}
use Rattle.outline.proofs.Range.{Held, vertex_room}
use Rattle.outline.proofs.walk.vertex.Goals.{After-sides, Start}
use Rattle.outline.proofs.walk.vertex.Goals as goal

-- a coordinate and a move, as they are read back
read_back : {x v d e : ℤ} {n l : ℕ} → x ≡ v → SFits w32 d → d ≡ e → n ≡ l →
    x +ℤ to_z w32 (of_z w32 d) *ℤ pos n ≡ v +ℤ e *ℤ pos l
read_back p r q h = rw (to_z-of_z r, p, q, h)

-- the cell after the loop
cell : (o : Outline) {m k : ℕ} {x y : ℤ} → x ≡ (vertex o m).x → y ≡ (vertex o m).y → m ≡ k →
    ◌≡◌ {A = Cell} (record { x = x; y = y }) (vertex o k)
cell o e f q = rw (e, f, q)

held : (c : Start) → Held c.args.o
held c = search rules

-- the two moves of a turn lead to the next vertex
x_next : (c : After-sides) →
    to_z w64 c.loop-m.x-bits +ℤ to_z w32 (of_z w32 c.step_along-d.result.east) *ℤ pos (get_or c.sides.result c.loop-m.m 0)
    ≡ (vertex c.args.o (suc c.loop-m.m)).x
unfolding vertex
x_next c = read_back c.loop-m.invariant.0 (search rules) c.step_along-d.ensures.east (ap (λ n. get_or n c.loop-m.m 0) c.sides.ensures)

y_next : (c : After-sides) →
    to_z w64 c.loop-m.y-bits +ℤ to_z w32 (of_z w32 c.step_along-d.result.north) *ℤ pos (get_or c.sides.result c.loop-m.m 0)
    ≡ (vertex c.args.o (suc c.loop-m.m)).y
unfolding vertex
y_next c = read_back c.loop-m.invariant.1 (search rules) c.step_along-d.ensures.north (ap (λ n. get_or n c.loop-m.m 0) c.sides.ensures)

pub overflow_cast-x : goal.overflow_cast-x
overflow_cast-x c = widened (held (goal.at.overflow_cast-x c).Start).held_i

pub overflow_cast-y : goal.overflow_cast-y
overflow_cast-y c = widened (held (goal.at.overflow_cast-y c).Start).held_j

pub loop-m-init : goal.loop-m-init
unfolding vertex
loop-m-init c =
    let h = held (goal.at.loop-m-init c).Start in (
      rw (to_z-of_z (widened h.held_i), to_z-of_z h.held_i),
      rw (to_z-of_z (widened h.held_j), to_z-of_z h.held_j),
    )

pub moved-x-requires : goal.moved-x-requires
moved-x-requires c =
    let h = held (goal.at.moved-x-requires c).Start in
    rw (x_next (goal.at.moved-x-requires c).After-sides) (room_fits (vertex_room _ h _ (omega arith)).room_x)

pub moved-y-requires : goal.moved-y-requires
moved-y-requires c =
    let h = held (goal.at.moved-y-requires c).Start in
    rw (y_next (goal.at.moved-y-requires c).After-sides) (room_fits (vertex_room _ h _ (omega arith)).room_y)

pub loop-m-preserved : goal.loop-m-preserved
loop-m-preserved c =
    let m = c.loop-m.m in
    let at = goal.at.loop-m-preserved c in (
      kept w64 c.moved-x.type_inv ∙ c.moved-x.ensures ∙ rw (← add-one m) at (x_next at.After-sides),
      kept w64 c.moved-y.type_inv ∙ c.moved-y.ensures ∙ rw (← add-one m) at (y_next at.After-sides),
    )

pub returns : goal.returns
returns c = cell _ c.loop-m.invariant.0 c.loop-m.invariant.1 (omega arith)
