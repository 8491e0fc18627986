-- `put_integer` meets its contract: a space, and then the signed number. Assumes nothing.
use mathlib.Core.List.{[], ◌∷◌}
use mir.Facts.{to_z-of_z}
use Rattle.report.specs.Decimal.{signed_decimal}
use Rattle.report.specs.Lines.{space}
use Rattle.report.proofs.Pages.{fits_then, written_then}
use Rattle.report.proofs.page.Page.put_integer.Goals as goal

pub put_signed_decimal-requires : goal.put_signed_decimal-requires
put_signed_decimal-requires c = rw (to_z-of_z c.ranges.z) (fits_then {v = space ∷ []} (signed_decimal c.args.z) c.requires c.put_byte.ensures)

pub returns : goal.returns
returns c = written_then c.put_byte.ensures (rw (to_z-of_z c.ranges.z) at c.put_signed_decimal.ensures)
