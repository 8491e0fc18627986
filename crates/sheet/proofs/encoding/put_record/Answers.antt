-- `put_record` meets its contract. Assumes nothing.
use mathlib.Core.Path.{ap, ◌∙◌}
use native.Mathlib.Omega.{arith}
use Rattle.records.specs.Numbers.{twos}
use Rattle.records.specs.Parts.{splice}
use Rattle.sheet.proofs.Layouts.{narrow_fields, within_length}
use Rattle.sheet.proofs.RecordBytes.{written_record}
use Rattle.sheet.proofs.TwosComplement.{narrow_kept}
use Rattle.sheet.proofs.encoding.put_record.Goals as goal

pub to_twos-requires : goal.to_twos-requires
to_twos-requires c =
    let n = narrow_fields c.args.each.bytes 1 in
    let f = c.requires.1.fits_i in
    rw (c.widths-widths.ensures, narrow_kept _ _ n f) (n, f)

pub to_twos-requires-2 : goal.to_twos-requires-2
to_twos-requires-2 c =
    let n = narrow_fields c.args.each.bytes 2 in
    let f = c.requires.1.fits_j in
    rw (c.widths-widths.ensures, narrow_kept _ _ n f) (n, f)

pub pack-requires : goal.pack-requires
pack-requires c = (omega arith, (omega arith, rw c.widths-widths.ensures (omega (arith, within_length c.args.each.bytes, c.requires.0))))

pub returns : goal.returns
returns c =
    let r = c.args.r in
    let L = c.args.each.bytes in
    let e = c.widths-widths.ensures in
    (rw e at c.pack.ensures)
    ∙ ap (splice _ _) (written_record _ r _ _
    ((rw e at c.to_twos.ensures) ∙ ap (twos _) (narrow_kept _ _ (narrow_fields L 1) c.requires.1.fits_i))
    ((rw e at c.to_twos-2.ensures) ∙ ap (twos _) (narrow_kept _ _ (narrow_fields L 2) c.requires.1.fits_j)))
