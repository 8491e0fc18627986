-- `put_signed_decimal` meets its contract: the sign, and then the digits of the magnitude. Assumes nothing.
use lib.IntN.{nat_abs}
use mir.Facts.{to_z-of_z}
use Rattle.report.specs.Decimal.{decimal, sign, signed_decimal}
use Rattle.report.proofs.Pages.{fits_first, fits_then, written_then}
use Rattle.report.proofs.page.Page.put_signed_decimal.Goals as goal

pub put_sign-requires : goal.put_sign-requires
unfolding signed_decimal
put_sign-requires c = rw (to_z-of_z c.ranges.z) (fits_first c.args.self.now (sign c.args.z) (decimal (nat_abs c.args.z)) c.requires)

pub put_decimal-requires : goal.put_decimal-requires
unfolding signed_decimal
put_decimal-requires c =
    let e = to_z-of_z c.ranges.z in
    rw (c.unsigned_abs.ensures.value, e) (fits_then (decimal (nat_abs c.args.z)) c.requires (rw e at c.put_sign.ensures))

pub returns : goal.returns
unfolding signed_decimal
returns c =
    let e = to_z-of_z c.ranges.z in
    written_then (rw e at c.put_sign.ensures) (rw (c.unsigned_abs.ensures.value, e) at c.put_decimal.ensures)
