-- `insert_fitting` meets its contract. Assumes nothing.
use mathlib.Core.Path.{sym, ◌∙◌}
use borrow.Author.Rules.{rules}
use Rattle.records.specs.Numbers.{AreBytes}
use Rattle.std.proofs.lemmas.Result.{err_from_is_err_and}
use Rattle.sheet.proofs.Plots.{plots_fit}
use Rattle.sheet.proofs.RowsLeft.{rows_in}
use Rattle.sheet.proofs.Inserts.{taken_room, taken_written}
use Rattle.sheet.proofs.inserting.insert_fitting.Goals as goal

pub returns-in_err-x : goal.returns-in_err-x
returns-in_err-x c =
    let e = sym c.in_err-x.ensures.sheet in
    let p = err_from_is_err_and c.from_residual.result c.from_residual.ensures.1 in rw (p.1, p.2) (record { result_value = rw e; sheet_after = rw e })

-- the old records fit, since a check accepted them
pub put_sheet-requires : goal.put_sheet-requires
put_sheet-requires c =
    let x = c.in_ok-x.x in
    let b = c.in_ok-x.ensures.bytes in
    let t = taken_room x c.args.r c.in_ok-n.n c.in_ok-n.ensures in
    let bytes : AreBytes c.args.sheet.now = λ i. search rules in
    record {
      place = (rw (← b) c.rank-k.ensures.0, c.rank-k.ensures.1);
      record_length = rw (← b) t.0;
      trailer_length_bound = t.1;
      all = (plots_fit x.rows.each.bytes c.args.sheet.now x.rows.at x.rows.count 0 bytes (rw b at (rows_in x).ascending), c.requires);
    }

pub returns-clause-sheet_after : goal.returns-clause-sheet_after
returns-clause-sheet_after c =
    let x = c.in_ok-x.x in
    let b = c.in_ok-x.ensures.bytes in
    c.put_sheet.ensures ∙ rw (← b) (taken_written x c.args.r c.in_ok-n.n c.in_ok-n.ensures c.args.len (rw (← b) at (sym c.in_ok-x.ensures.sheet)))
