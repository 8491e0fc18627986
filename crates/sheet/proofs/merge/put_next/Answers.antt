-- `put_next` meets its contract. Assumes nothing.
use mathlib.Core.Path.{sym, ◌∙◌}
use Rattle.sheet.proofs.RowsLeft.{rows_in, head_within, head_octagon}
use Rattle.sheet.proofs.Turns.{leads_there, second_there, takes_first, takes_second}
use Rattle.sheet.proofs.merge.put_next.Goals as goal

pub put_row-requires : goal.put_row-requires
put_row-requires c =
    let x = c.args.x in
    let h = leads_there x c.args.y (sym c.requires.one_value ∙ c.if-one.true) in
    record {
      each_in_bounds = ((head_within x.bytes.now x.rows (rows_in x) h).0, c.requires.some_left.1);
      octagon = head_octagon x.bytes.now x.rows (rows_in x) h;
    }

pub put_row-requires-else-one : goal.put_row-requires-else-one
put_row-requires-else-one c =
    let y = c.args.y in
    let h = second_there c.args.x y c.requires.some_left.0 (sym c.requires.one_value ∙ c.if-one.false) in
    record {
      each_in_bounds = ((head_within y.bytes.now y.rows (rows_in y) h).0, c.requires.some_left.1);
      octagon = head_octagon y.bytes.now y.rows (rows_in y) h;
    }

pub returns-then-one : goal.returns-then-one
returns-then-one c =
    let a = c.args in
    let d = sym c.requires.one_value ∙ c.if-one.true in
    record { plot = _; next = takes_first a.x a.y c.requires.some_left.0 d; put = c.put_row.ensures }

pub returns-else-one : goal.returns-else-one
returns-else-one c =
    let a = c.args in
    let d = sym c.requires.one_value ∙ c.if-one.false in
    record { plot = _; next = takes_second a.x a.y c.requires.some_left.0 d; put = c.put_row-else-one.ensures }
