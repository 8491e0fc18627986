-- `left` meets its contract. Assumes nothing.
use mathlib.Core.Bool.{true}
use native.Mathlib.Omega.{arith}
use Rattle.records.proofs.Rows.{mul_pred}
use Rattle.sheet.proofs.RowsLeft.{left_plots}
use Rattle.sheet.proofs.SurveyedRows.{surveyed_left}
use Rattle.sheet.proofs.stored.Records.left.Goals as goal

pub invariant_of-result : goal.invariant_of-result
invariant_of-result c =
    let r = c.args.self in
    let x = r.rows in
    let h = c.requires c.if-not-taken.false in
    record {
      within = omega (arith, mul_pred x.each.bytes x.count h, r.within);
      short = omega (arith, mul_pred x.each.bytes x.count h, r.short);
      surveyed = surveyed_left _ r.bytes.now x h r.surveyed;
    }

pub returns : goal.returns
returns c =
    let a = c.args in
    rw c.if-not-taken.false (left_plots a.self.bytes.now a.self.rows true (λ _. c.requires c.if-not-taken.false))
