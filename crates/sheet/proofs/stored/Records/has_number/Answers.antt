-- `has_number` meets its contract: the record that is next has the number, or those that are left decide. Assumes nothing.
use mathlib.Core.Path.{◌≡◌, sym, ap, ◌∙◌}
use Prim.Native.Nat.{◌+◌, ◌-◌, ◌*◌}
use native.Mathlib.Omega.{arith}
use Rattle.records.proofs.Rows.{mul_more}
use Rattle.sheet.specs.declared.Record.{Record}
use Rattle.sheet.proofs.Plots.{present_here, present_on, present_end}
use Rattle.sheet.proofs.stored.Records.has_number.Goals as goal

pub returns-then-number-v : goal.returns-then-number-v
returns-then-number-v c =
    let l = c.loop-k in
    let e = c.number.ensures ∙ ap (λ (r : Record). r.number) c.record.ensures.plot in
    let x = c.args.self.rows in
    sym (l.invariant ∙ present_here x.each.bytes c.args.self.bytes.now (x.at + x.each.bytes * l.k) (x.count - l.k) c.args.v _ (omega arith) e c.if-number-v.true)

pub loop-k-preserved : goal.loop-k-preserved
loop-k-preserved c =
    let l = c.loop-k in
    let e = c.number.ensures ∙ ap (λ (r : Record). r.number) c.record.ensures.plot in
    let x = c.args.self.rows in
    let p : x.at + x.each.bytes * (l.k + 1) ≡ x.at + x.each.bytes * l.k + x.each.bytes = omega (arith, mul_more x.each.bytes l.k) in
    let n : x.count - (l.k + 1) ≡ x.count - l.k - 1 = omega arith in
    rw (p, n)
    (l.invariant ∙ present_on x.each.bytes c.args.self.bytes.now (x.at + x.each.bytes * l.k) (x.count - l.k) c.args.v _ (omega arith) e c.if-number-v.false)

pub returns : goal.returns
returns c =
    let l = c.loop-k in
    let x = c.args.self.rows in
    sym (l.invariant ∙ present_end x.each.bytes c.args.self.bytes.now (x.at + x.each.bytes * l.k) (x.count - l.k) c.args.v (omega arith))
