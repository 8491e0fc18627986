-- `read_record` meets its contract. Assumes nothing.
use native.Mathlib.Omega.{arith}
use native.Mathlib.Nat.{pow-le-pow_right}
use Rattle.records.proofs.Fields.{narrow_at}
use lib.ListN.{get_or}
use Rattle.sheet.specs.Layout.{fee_width, decoded}
use Rattle.sheet.proofs.encoding.read_record.Goals as goal

pub outline_of-outline-requires-clause-widths_bound : goal.outline_of-outline-requires-clause-widths_bound
outline_of-outline-requires-clause-widths_bound c =
    let n = narrow_at c.args.widths.now c.requires.narrow_widths.0 in
    (n 1, n 2)

pub outline_of-outline-requires-clause-v_bound : goal.outline_of-outline-requires-clause-v_bound
outline_of-outline-requires-clause-v_bound c = (c.unpack-v.ensures.fit 1 (omega arith), c.unpack-v.ensures.fit 2 (omega arith))

-- a fee row is of 16 bits
pub overflow_cast-fee_row : goal.overflow_cast-fee_row
overflow_cast-fee_row c =
    let w = c.args.widths.now in
    record {
      fits = omega (arith, c.unpack-v.ensures.fit 11 (omega arith), pow-le-pow_right {n = 256} (omega arith) {i = get_or w 11 0} {j = fee_width} c.requires.narrow_widths.1);
    }

pub returns : goal.returns
unfolding decoded
returns c = rw (c.outline_of-outline.ensures, c.unpack-v.ensures.values)
