-- `walk` meets its contract: each turn writes what is lost, and the walk from there on is the rest. Assumes nothing.
use mathlib.Core.Path.{◌≡◌, sym, ◌∙◌}
use Prim.Native.Nat.{◌+◌, ◌≤◌}
use native.Mathlib.Omega.{arith}
use native.Mathlib.Numerals.{add-one}
use lib.ListN.{length}
use Rattle.cell_count.specs.Area.{area}
use Rattle.cell_count.proofs.Counted.{area_some}
use Rattle.spectrum.specs.Spectra.{open_cells}
use Rattle.spectrum.proofs.Frames.{Frame, frame_of}
use Rattle.spectrum.proofs.Cases.{open_none}
use Rattle.spectrum.proofs.Ends.{few_open}
use Rattle.spectrum.proofs.Losses.{fewer}
use Rattle.spectrum.proofs.Progress.{begun, filled_up, last_written, one_more}
use Rattle.spectrum.proofs.walk.Goals.{After-open_cells-open, Start}
use Rattle.spectrum.proofs.walk.Goals as goal

framed : (c : Start) → Frame c.args.b.bounds c.args.b.bounds
framed c = frame_of _ _ c.requires

-- the plot's cells are those that no folds open
own_cells : (c : Start) → area c.args.a.bounds ≡ open_cells c.args.a.bounds c.args.b.bounds 0
own_cells c = sym (open_none _ _ _ _ c.args.a.is_normal c.args.b.is_normal)

-- the cells that are open after the turn's trim
now_open : (c : After-open_cells-open) → c.open_cells-open.result ≡ open_cells c.args.a.bounds c.args.b.bounds (c.loop-n.n + 1)
now_open c = c.open_cells-open.ensures

pub loop-n-init : goal.loop-n-init
loop-n-init c =
    let e = c.area-still.ensures in
    (begun _ _, e ∙ own_cells (search), omega (arith, e, area_some _ _ c.args.a.is_normal), omega arith)

pub overflow_sub-lost : goal.overflow_sub-lost
overflow_sub-lost c =
    let l = c.loop-n in
    let i = l.invariant in
    omega (arith, now_open c, i.1, rw (← add-one l.n) at (fewer _ _ _ _ l.n c.args.a.is_normal (framed (search)) (omega (arith, i.3)) (omega (arith, i.1, i.2))))

pub returns-then-open-eq0 : goal.returns-then-open-eq0
returns-then-open-eq0 c =
    let i = c.loop-n.invariant in
    let e = now_open (search) in
    let r = last_written _ _ i.0 (omega (arith, i.0.as_long)) (sym e ∙ c.if-open-eq0.true) in
    record { result_value = rw (own_cells (search)) r.0; list_after = rw (own_cells (search), i.1, e) r.1 }

pub loop-n-preserved : goal.loop-n-preserved
loop-n-preserved c =
    let l = c.loop-n in
    let i = l.invariant in
    let e = now_open (search) in
    let k : 1 ≤ c.open_cells-open.result = omega (arith, c.if-open-eq0.false) in
    let r = one_more _ _ i.0 (omega (arith, i.0.as_long)) (rw e at k) in
    (rw (i.1, e) r, e, k, few_open _ _ _ _ c.args.a.is_normal (framed (search)) (l.n + 1) (omega (arith, i.3)) (rw e at k))

pub returns : goal.returns
returns c =
    let i = c.loop-n.invariant in
    let r = filled_up _ _ i.0 (omega (arith, i.0.as_long)) in
    let n : length c.loop-n.list ≡ c.loop-n.n = omega (arith, i.0.bounded, i.0.as_long) in
    record { result_value = rw (own_cells (search), n) r.0; list_after = rw (own_cells (search)) r.1 }
