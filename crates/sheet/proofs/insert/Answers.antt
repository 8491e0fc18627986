-- `insert` meets its contract. Assumes nothing.
use mathlib.Core.Path.{sym, ◌∙◌}
use native.Mathlib.Omega.{arith}
use Rattle.std.proofs.lemmas.Result.{err_from_is_err_and}
use Rattle.sheet.proofs.Outlines.{accepted_fits}
use Rattle.sheet.proofs.Inserts.{insert_outline, insert_sheet}
use Rattle.sheet.proofs.insert.Goals as goal

pub insert_fitting-requires : goal.insert_fitting-requires
insert_fitting-requires c = accepted_fits c.args.r _ (omega arith) (sym c.in_ok-to_octagon.ensures)

pub returns-in_err-to_octagon : goal.returns-in_err-to_octagon
returns-in_err-to_octagon c =
    let a = c.args in
    let p = err_from_is_err_and c.from_residual.result c.from_residual.ensures.1 in rw (p.1, p.2) (insert_outline a.sheet.now a.len a.r (sym c.in_err-to_octagon.ensures))

pub returns : goal.returns
returns c =
    let a = c.args in
    let t = c.insert_fitting.ensures in
    let e = insert_sheet a.sheet.now a.len a.r (sym c.in_ok-to_octagon.ensures) in
    (t.result_value ∙ e.0, t.sheet_after ∙ e.1)
