-- `kx_sheet_check` meets its contract. Assumes nothing.
use Rattle.koxirmeta_c.specs.Calls.{fitted}
use Rattle.koxirmeta_c.proofs.Fitting.{same}
use Rattle.koxirmeta_c.proofs.sheets.kx_sheet_check.Goals as goal

pub returns : goal.returns
unfolding fitted
returns c = same c.check.ensures c.give_value.ensures
