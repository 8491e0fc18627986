-- `put_number` meets its contract: a space, and then the number. Assumes nothing.
use mathlib.Core.List.{[], ◌∷◌}
use Rattle.report.specs.Decimal.{decimal}
use Rattle.report.specs.Lines.{space}
use Rattle.report.proofs.Pages.{fits_then, written_then}
use Rattle.report.proofs.page.Page.put_number.Goals as goal

pub put_decimal-requires : goal.put_decimal-requires
put_decimal-requires c = fits_then {v = space ∷ []} (decimal c.args.n) c.requires c.put_byte.ensures

pub returns : goal.returns
returns c = written_then c.put_byte.ensures c.put_decimal.ensures
