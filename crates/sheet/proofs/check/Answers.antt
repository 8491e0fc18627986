-- `check` meets its contract. Assumes nothing.
use mathlib.Core.Path.{sym, ap, ◌∙◌}
use Rattle.octagon.specs.Outcome.{accepted}
use Rattle.std.proofs.lemmas.Result.{err_from_is_err_and}
use Rattle.sheet.proofs.Checks.{checked_refused, checked_count}
use Rattle.sheet.proofs.RowsLeft.{rows_many}
use Rattle.sheet.proofs.check.Goals as goal

pub returns-in_err-inspect : goal.returns-in_err-inspect
returns-in_err-inspect c =
    let a = c.args in
    let p = err_from_is_err_and c.from_residual.result c.from_residual.ensures.1 in rw (p.1, p.2) (sym (checked_refused a.sheet.now a.len (sym c.in_err-inspect.ensures.sheet)))

pub returns : goal.returns
returns c =
    let x = c.in_ok-inspect.field-0 in
    sym (checked_count c.args.sheet.now c.args.len (sym c.in_ok-inspect.ensures.sheet) ∙ ap accepted (rows_many x.bytes.now x.rows))
