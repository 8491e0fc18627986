-- `join` meets its contract. Assumes nothing.
use mathlib.Core.Path.{sym, ◌∙◌}
use Rattle.std.proofs.lemmas.Result.{err_from_is_err_and}
use Rattle.sheet.proofs.Joins.{join_first, join_second, join_both}
use Rattle.sheet.proofs.join.Goals as goal

pub returns-in_err-a-clause-result_value : goal.returns-in_err-a-clause-result_value
returns-in_err-a-clause-result_value c =
    let a = c.args in
    let p = err_from_is_err_and c.from_residual.result c.from_residual.ensures.1 in
    rw (p.1, p.2) (join_first a.first.now _ a.second.now _ a.third.now (sym c.in_err-a.ensures.sheet))

pub returns-in_err-b-clause-result_value : goal.returns-in_err-b-clause-result_value
returns-in_err-b-clause-result_value c =
    let a = c.args in
    let p = err_from_is_err_and c.from_residual-in_err-b.result c.from_residual-in_err-b.ensures.1 in
    rw (p.1, p.2) (join_second a.first.now _ a.second.now _ a.third.now (sym c.in_ok-a.ensures.sheet) (sym c.in_err-b.ensures.sheet))

pub returns-clause-result_value : goal.returns-clause-result_value
returns-clause-result_value c =
    let a = c.args in
    let t = c.join_records.ensures in
    let e = join_both a.first.now _ a.second.now _ a.third.now (sym c.in_ok-a.ensures.sheet) (sym c.in_ok-b.ensures.sheet) in
    (t.result_value ∙ e.0, t.u_after ∙ e.1)
