-- `is_same` meets its contract. Assumes nothing.
use mathlib.Core.Path.{◌∙◌}
use Rattle.sheet.proofs.SameRecords.{equal_is_same}
use Rattle.sheet.proofs.encoding.StoredRecord.is_same.Goals as goal

pub returns : goal.returns
returns c = rw (← c.plot.ensures, ← c.plot-2.ensures) (c.eq.ensures ∙ equal_is_same c.plot.result c.plot-2.result)
