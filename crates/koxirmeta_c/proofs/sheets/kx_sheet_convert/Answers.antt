-- `kx_sheet_convert` meets its contract. Assumes nothing.
use Rattle.koxirmeta_c.specs.Calls.{fitted}
use Rattle.koxirmeta_c.proofs.Fitting.{same}
use Rattle.koxirmeta_c.proofs.sheets.kx_sheet_convert.Goals as goal

pub returns-clause-hands : goal.returns-clause-hands
unfolding fitted
returns-clause-hands c = (same c.convert.ensures.result_value.0 c.give_value.ensures, c.convert.ensures.result_value.1)
