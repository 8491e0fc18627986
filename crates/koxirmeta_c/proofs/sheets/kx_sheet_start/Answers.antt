-- `kx_sheet_start` meets its contract. Assumes nothing.
use Rattle.koxirmeta_c.specs.Calls.{fitted}
use Rattle.koxirmeta_c.proofs.Fitting.{same}
use Rattle.koxirmeta_c.proofs.sheets.kx_sheet_start.Goals as goal

pub returns : goal.returns
unfolding fitted
returns c = (same c.start.ensures.0 c.give_value.ensures, c.start.ensures.1)
