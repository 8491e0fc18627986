-- `rank` meets its contract: the place is that of the record that is next, or those that are left decide. Assumes nothing.
use mathlib.Core.Path.{◌≡◌, ap, ◌∙◌}
use Prim.Native.Nat.{◌+◌, ◌-◌, ◌*◌}
use native.Mathlib.Omega.{arith}
use Rattle.records.proofs.Rows.{mul_more}
use Rattle.sheet.specs.declared.Record.{Record}
use Rattle.sheet.proofs.Plots.{plots_none, rank_here, rank_on}
use Rattle.sheet.proofs.stored.Records.rank.Goals as goal

pub returns-then-v-number : goal.returns-then-v-number
returns-then-v-number c =
    let l = c.loop-k in
    let e = c.number.ensures ∙ ap (λ (r : Record). r.number) c.record.ensures.plot in
    let x = c.args.self.rows in (
      omega (arith, rank_here x.each.bytes c.args.self.bytes.now (x.at + x.each.bytes * l.k) (x.count - l.k) c.args.v _ (omega arith) e c.if-v-number.true),
      omega arith,
    )

pub loop-k-preserved : goal.loop-k-preserved
loop-k-preserved c =
    let l = c.loop-k in
    let e = c.number.ensures ∙ ap (λ (r : Record). r.number) c.record.ensures.plot in
    let x = c.args.self.rows in
    let p : x.at + x.each.bytes * (l.k + 1) ≡ x.at + x.each.bytes * l.k + x.each.bytes = omega (arith, mul_more x.each.bytes l.k) in
    let n : x.count - (l.k + 1) ≡ x.count - l.k - 1 = omega arith in
    rw (p, n)
    (omega (arith, rank_on x.each.bytes c.args.self.bytes.now (x.at + x.each.bytes * l.k) (x.count - l.k) c.args.v _ (omega arith) e (omega arith)))

pub returns : goal.returns
returns c =
    let l = c.loop-k in
    let x = c.args.self.rows in
    (omega (arith, rw (plots_none x.each.bytes c.args.self.bytes.now (x.at + x.each.bytes * l.k) (x.count - l.k) (omega arith)) at l.invariant), omega arith)
