-- `fetch` meets its contract. Assumes nothing.
use mathlib.Core.Path.{sym, ◌∙◌}
use Rattle.std.proofs.lemmas.Result.{err_from_is_err_and}
use Rattle.sheet.proofs.FetchCases.{not_fetched}
use Rattle.sheet.proofs.ReadCases.{read_checked}
use Rattle.sheet.proofs.fetch.Goals as goal

pub returns-in_err-check : goal.returns-in_err-check
returns-in_err-check c =
    let a = c.args in
    let p = err_from_is_err_and c.from_residual.result c.from_residual.ensures.1 in rw (p.1, p.2) (sym (not_fetched a.sheet.now a.len a.k _ (sym c.in_err-check.ensures)))

pub returns : goal.returns
returns c = let a = c.args in c.read.ensures ∙ read_checked a.sheet.now a.len a.k _ (sym c.in_ok-check.ensures)
