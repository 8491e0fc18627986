-- `convert` meets its contract. Assumes nothing.
use mathlib.Core.Path.{sym, ◌∙◌}
use Rattle.std.proofs.lemmas.Result.{err_from_is_err_and}
use Rattle.sheet.proofs.Conversions.{convert_first, convert_rest}
use Rattle.sheet.proofs.convert.Goals as goal

pub returns-in_err-x-clause-result_value : goal.returns-in_err-x-clause-result_value
returns-in_err-x-clause-result_value c =
    let a = c.args in
    let p = err_from_is_err_and c.from_residual.result c.from_residual.ensures.1 in
    rw (p.1, p.2) (convert_first a.first.now _ a.second.now (sym c.in_err-x.ensures.sheet))

pub returns-clause-result_value : goal.returns-clause-result_value
returns-clause-result_value c =
    let a = c.args in
    let t = c.convert_records.ensures in
    let e = convert_rest a.first.now _ a.second.now (sym c.in_ok-x.ensures.sheet) in
    (t.result_value ∙ e.0, t.u_after ∙ e.1)
