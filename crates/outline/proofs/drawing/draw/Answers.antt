-- `draw` meets its contract: four vertices, and the test's two answers. Assumes nothing.
use mathlib.Core.Path.{◌≡◌, ◌∙◌, ap}
use mathlib.Core.Bool.{Bool, true, false}
use Prim.Native.Nat.{ℕ, ◌≤◌}
use native.Mathlib.Omega.{arith}
use lib.IntN.{ℤ, pos, neg_ℤ, ◌-ℤ◌, +ℤ_idl}
use mir.Syntax.{w64}
use mir.Val.{to_z, of_z, SFits}
use mir.Facts.{to_z-of_z}
use borrow.Author.Rules.{rules}
use Rattle.integers.specs.Range.{Room}
use Rattle.integers.proofs.Range.{room_fits, room_add, room_neg, room_back, room_pos}
use Rattle.octagon.specs.NormalForm.{are_within_limit, is_on_map, placed}
use Rattle.outline.specs.declared.Outline.{Outline}
use Rattle.outline.specs.declared.walk.Cell.{Cell}
use Rattle.outline.specs.Walk.{vertex}
use Rattle.outline.specs.Tracing.{bounds_at, drawn}
use Rattle.outline.proofs.Range.{Held, Roomy, vertex_room}
use Rattle.outline.proofs.drawing.draw.Goals.{Start}
use Rattle.outline.proofs.drawing.draw.Goals as goal

negated : {a : ℤ} → Room 2 a → SFits w64 (pos 0 -ℤ to_z w64 (of_z w64 a))
negated r = room_fits (room_add (room_pos 2 0 tt) (room_neg (room_back r)))

same_drawn : (o : Outline) {a b c d : Cell} → a ≡ vertex o 1 → b ≡ vertex o 3 → c ≡ vertex o 5 → d ≡ vertex o 7 → bounds_at a b c d ≡ drawn o
unfolding drawn
same_drawn o e1 e3 e5 e7 = rw (e1, e3, e5, e7)

-- the even bounds as they are read back
same_test : (a b c d : Cell) → Roomy a → Roomy b → Roomy c → Roomy d →
    are_within_limit
    (to_z w64 (of_z w64 (pos 0 -ℤ to_z w64 (of_z w64 a.y))))
    (to_z w64 (of_z w64 b.x))
    (to_z w64 (of_z w64 c.y))
    (to_z w64 (of_z w64 (pos 0 -ℤ to_z w64 (of_z w64 d.x))))
    ≡ is_on_map (bounds_at a b c d)
unfolding is_on_map bounds_at
same_test a b c d p q r s =
    rw (
      to_z-of_z (negated p.room_y),
      to_z-of_z (negated s.room_x),
      to_z-of_z (room_fits p.room_y),
      to_z-of_z (room_fits q.room_x),
      to_z-of_z (room_fits r.room_y),
      to_z-of_z (room_fits s.room_x),
      +ℤ_idl (neg_ℤ a.y),
      +ℤ_idl (neg_ℤ d.x),
    )

held : (c : Start) → Held c.args.o
held c = search rules

-- the vertices that were walked to
roomy : (o : Outline) → Held o → (k : ℕ) {v : Cell} → k ≤ 8 → v ≡ vertex o k → Roomy v
roomy o h k l e = rw e (vertex_room o h k l)

-- the test is made on the even bounds of the outline
tested : (o : Outline) → Held o → {a b c d : Cell} {t : Bool} → a ≡ vertex o 1 → b ≡ vertex o 3 → c ≡ vertex o 5 → d ≡ vertex o 7 →
    t ≡ are_within_limit
    (to_z w64 (of_z w64 (pos 0 -ℤ to_z w64 (of_z w64 a.y))))
    (to_z w64 (of_z w64 b.x))
    (to_z w64 (of_z w64 c.y))
    (to_z w64 (of_z w64 (pos 0 -ℤ to_z w64 (of_z w64 d.x)))) →
    t ≡ is_on_map (drawn o)
tested o h e1 e3 e5 e7 q =
    q ∙
    same_test _ _ _ _ (roomy o h 1 (omega arith) e1) (roomy o h 3 (omega arith) e3) (roomy o h 5 (omega arith) e5) (roomy o h 7 (omega arith) e7) ∙
    ap is_on_map (same_drawn o e1 e3 e5 e7)

pub overflow_sub-v1 : goal.overflow_sub-v1
overflow_sub-v1 c =
    let h = held (goal.at.overflow_sub-v1 c).Start in
    negated (roomy c.args.o h 1 (omega arith) c.vertex-v1.ensures).room_y

pub overflow_sub-v7 : goal.overflow_sub-v7
overflow_sub-v7 c =
    let h = held (goal.at.overflow_sub-v7 c).Start in
    negated (roomy c.args.o h 7 (omega arith) c.vertex-v7.ensures).room_x

pub bounds_at-requires : goal.bounds_at-requires
bounds_at-requires c =
    let h = held (goal.at.bounds_at-requires c).Start in
    let t = tested c.args.o h c.vertex-v1.ensures c.vertex-v3.ensures c.vertex-v5.ensures c.vertex-v7.ensures c.on_map.ensures in
    let g : is_on_map (drawn c.args.o) ≡ true = search (rules, t) in
    rw (same_drawn c.args.o c.vertex-v1.ensures c.vertex-v3.ensures c.vertex-v5.ensures c.vertex-v7.ensures)
    (c.requires g)

pub returns : goal.returns
unfolding placed
returns c =
    let h = held (goal.at.returns c).Start in
    let t = tested c.args.o h c.vertex-v1.ensures c.vertex-v3.ensures c.vertex-v5.ensures c.vertex-v7.ensures c.on_map.ensures in
    let g : is_on_map (drawn c.args.o) ≡ true = search (rules, t) in
    rw (
      g,
      c.bounds_at.ensures,
      same_drawn c.args.o c.vertex-v1.ensures c.vertex-v3.ensures c.vertex-v5.ensures c.vertex-v7.ensures,
    )

pub returns-then-not-on_map : goal.returns-then-not-on_map
unfolding placed
returns-then-not-on_map c =
    let h = held (goal.at.returns-then-not-on_map c).Start in
    let t = tested c.args.o h c.vertex-v1.ensures c.vertex-v3.ensures c.vertex-v5.ensures c.vertex-v7.ensures c.on_map.ensures in
    let f : is_on_map (drawn c.args.o) ≡ false = search (rules, t) in
    rw f
