-- `pack` meets its contract: what is left after each field, and at the end. Assumes nothing.
use mathlib.Core.Path.{◌≡◌, sym, ◌∙◌}
use native.Mathlib.Omega.{arith}
use lib.ListN.{length}
use lib.Seq.{drop-length}
use Rattle.records.proofs.Splices.{splice_nil}
use Rattle.records.proofs.Steps.{total_width_more, pack_more}
use Rattle.sheet.proofs.numbers.pack.Goals as goal

pub loop-k-preserved : goal.loop-k-preserved
loop-k-preserved g c =
    let l = c.loop-k in
    let a = c.args in
    let w = total_width_more a.widths.now l.k (omega arith) in
    let n = c.put_number.auto.s in
    let e = c.put_number.ensures in (
      omega arith,
      omega arith,
      omega arith,
      rw e (pack_more l.s a.widths.now a.values.now l.p l.k (omega arith) (omega arith) l.invariant.1 ∙ l.invariant.3),
    )

pub returns : goal.returns
returns g c =
    let l = c.loop-k in
    let ws = c.args.widths.now in
    let e : l.k ≡ length ws = omega arith in
    sym (splice_nil l.s l.p) ∙ (rw (e, drop-length) at l.invariant.3)
