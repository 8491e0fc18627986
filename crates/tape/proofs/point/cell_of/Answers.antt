-- `cell_of` meets its contract: a point whose coordinates are between the map's edges is on the map. Assumes nothing.
use mathlib.Core.Path.{◌≡◌, sym, ap, ap₂, ◌∙◌}
use mathlib.Core.Bool.{true}
use borrow.Author.Rules.{rules}
use mir.Syntax.{w32}
use mir.Val.{to_z, of_z}
use Rattle.integers.proofs.Range.{kept}
use Rattle.octagon.specs.Cells.{OnMap}
use Rattle.octagon.specs.Outcome.{accepted}
use Rattle.octagon.specs.OneCell.{one_cell}
use Rattle.octagon.proofs.OneCell.{one_cell_held}
use Rattle.tape.specs.Snapping.{within_edges}
use Rattle.tape.proofs.PointTests.{tests_on, tests_inside}
use Rattle.tape.proofs.point.cell_of.Goals.{After-snap-then-within_edges}
use Rattle.tape.proofs.point.cell_of.Goals as goal

on_the_map : (c : After-snap-then-within_edges) → OnMap c.snap.result c.snap-then-within_edges.result
on_the_map c =
    let p = c.args.p in
    let e : within_edges p.east ≡ true = search rules in
    let n : within_edges p.north ≡ true = search rules in
    tests_on p _ _ e n (sym c.snap.ensures) (sym c.snap-then-within_edges.ensures)

-- the cell as it is read back
read_back : (c : After-snap-then-within_edges) →
    one_cell (to_z w32 (of_z w32 c.snap.result)) (to_z w32 (of_z w32 c.snap-then-within_edges.result)) ≡ one_cell c.snap.result c.snap-then-within_edges.result
read_back c = ap₂ one_cell (kept w32 c.snap.type_inv) (kept w32 c.snap-then-within_edges.type_inv)

pub one_cell-requires : goal.one_cell-requires
one_cell-requires c =
    let s : After-snap-then-within_edges = search in
    rw (read_back s) (one_cell_held _ _ (on_the_map s))

pub returns-then-within_edges : goal.returns-then-within_edges
returns-then-within_edges c =
    let s : After-snap-then-within_edges = search in
    ap accepted (c.one_cell.ensures ∙ read_back s) ∙ sym (tests_inside c.args.p _ _ (on_the_map s) (sym c.snap.ensures) (sym c.snap-then-within_edges.ensures))
