-- `survey` meets its contract: the record that is next decides, or those that are left do. Assumes nothing.
use mathlib.Core.Path.{◌≡◌, sym, ◌∙◌}
use Prim.Native.Nat.{◌+◌, ◌-◌, ◌*◌}
use native.Mathlib.Omega.{arith}
use Rattle.std.proofs.lemmas.Result.{err_from_is_err_and}
use Rattle.records.proofs.Rows.{mul_more}
use Rattle.sheet.proofs.Surveys.{survey_refused, survey_more, survey_end}
use Rattle.sheet.proofs.checking.survey.Goals as goal

pub returns-in_err-before : goal.returns-in_err-before
returns-in_err-before c =
    let l = c.loop-k in
    let a = c.args in
    let x = a.x in
    let h = rw (c.record.ensures.plot, c.record.ensures.each) at (sym c.in_err-before.ensures) in
    let p = err_from_is_err_and c.from_residual.result c.from_residual.ensures.1 in
    rw (p.1, p.2) (sym (l.invariant ∙ survey_refused _ tt l.before x.each.bytes a.s.now (x.at + x.each.bytes * l.k) (x.count - l.k) _ (omega arith) h))

pub loop-k-preserved : goal.loop-k-preserved
loop-k-preserved c =
    let l = c.loop-k in
    let a = c.args in
    let x = a.x in
    let h = rw (c.record.ensures.plot, c.record.ensures.each) at (sym c.in_ok-before.ensures) in
    let next : x.at + x.each.bytes * (l.k + 1) ≡ x.at + x.each.bytes * l.k + x.each.bytes = omega (arith, mul_more x.each.bytes l.k) in
    let fewer : x.count - (l.k + 1) ≡ x.count - l.k - 1 = omega arith in
    rw (next, fewer)
    (l.invariant ∙ survey_more _ tt l.before x.each.bytes a.s.now (x.at + x.each.bytes * l.k) (x.count - l.k) _ (omega arith) h)

pub returns : goal.returns
returns c =
    let l = c.loop-k in
    let a = c.args in
    let x = a.x in
    sym (l.invariant ∙ survey_end _ tt l.before x.each.bytes a.s.now (x.at + x.each.bytes * l.k) (x.count - l.k) (omega arith))
