-- `cuts` meets its contract: the sum of four cuts fits. Assumes nothing.
use mathlib.Core.Path.{◌≡◌, ◌∙◌, ap}
use Prim.Native.Nat.{ℕ, ◌+◌}
use native.Mathlib.Omega.{arith}
use borrow.Author.Rules.{rules}
use mir.Syntax.{w32}
use Rattle.integers.proofs.Range.{signs}
use Rattle.octagon.specs.Widths.{Held}
use Rattle.octagon.proofs.Fields.{back, back_is}
use Rattle.cell_count.specs.Area.{cuts}
use Rattle.cell_count.proofs.Lengths.{Lengths, lengths, Small, small}
use Rattle.cell_count.proofs.cuts.Goals.{Start}
use Rattle.cell_count.proofs.cuts.Goals as goal

held : (c : Start) → Held w32 c.args.a.bounds
held c = search signs

-- the bounds as they are read back
sized : (c : Start) → Lengths (back w32 c.args.a.bounds)
sized c = rw (back_is w32 c.args.a.bounds (held c)) (lengths c.args.a.bounds c.args.a.is_normal)

each : (c : Start) → Small (back w32 c.args.a.bounds)
each c = small (back w32 c.args.a.bounds) (sized c)

total : {w x y z w' x' y' z' : ℕ} → w ≡ w' → x ≡ x' → y ≡ y' → z ≡ z' → w + x + (y + z) ≡ w' + x' + (y' + z')
total d e f g = omega arith

pub overflow_add-result : goal.overflow_add-result
overflow_add-result c =
    let k1 = c.before in
    let s : Start = search in
    let m = each s in
    record { fits = omega (arith, k1.cut.ensures, c.cut-2.ensures, m) }

pub overflow_add-result-2 : goal.overflow_add-result-2
overflow_add-result-2 c =
    let k3 = c.before in
    let s : Start = search in
    let m = each s in
    record { fits = omega (arith, k3.cut-3.ensures, c.cut-4.ensures, m) }

pub overflow_add-result-3 : goal.overflow_add-result-3
overflow_add-result-3 c =
    let k3 = c.before in
    let k2 = k3.before in
    let k1 = k2.before in
    let s : Start = search in
    let m = each s in
    record { fits = omega (arith, k1.cut.ensures, k2.cut-2.ensures, k3.cut-3.ensures, c.cut-4.ensures, m) }

pub returns : goal.returns
unfolding cuts
returns c =
    let k3 = c.before in
    let k2 = k3.before in
    let k1 = k2.before in
    let s : Start = search in
    total k1.cut.ensures k2.cut-2.ensures k3.cut-3.ensures c.cut-4.ensures ∙ ap cuts (back_is w32 s.args.a.bounds (held s))

pub cut-requires : goal.cut-requires
cut-requires c = let l = sized (search) in search rules

pub cut-requires-2 : goal.cut-requires-2
cut-requires-2 c = let l = sized (search) in search rules

pub cut-requires-3 : goal.cut-requires-3
cut-requires-3 c = let l = sized (search) in search rules

pub cut-requires-4 : goal.cut-requires-4
cut-requires-4 c = let l = sized (search) in search rules
