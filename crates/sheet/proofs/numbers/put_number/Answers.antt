-- `put_number` meets its contract. The invariant: what is left of the number, put from index at + i on, gives the whole. Assumes nothing.
use mathlib.Core.Path.{◌≡◌, sym, ◌∙◌}
use Prim.Native.Nat.{◌+◌, ◌-◌}
use native.Mathlib.Omega.{arith}
use lib.ListN.{length-set}
use Rattle.records.proofs.Splices.{splice_nil}
use Rattle.records.proofs.Steps.{put_more}
use Rattle.sheet.proofs.numbers.put_number.Goals as goal

pub loop-i-preserved : goal.loop-i-preserved
loop-i-preserved c =
    let l = c.loop-i in
    let a = c.args in
    let e : a.at + (l.i + 1) ≡ a.at + l.i + 1 = omega arith in
    let f : a.width - (l.i + 1) ≡ a.width - l.i - 1 = omega arith in
    (omega arith, simp length-set l.invariant.1, rw (e, f) (put_more l.s (a.at + l.i) (a.width - l.i) l.rest (omega arith) (omega arith) ∙ l.invariant.2))

pub returns : goal.returns
returns c =
    let l = c.loop-i in
    let a = c.args in
    let e : a.width - l.i ≡ 0 = omega arith in
    sym (splice_nil l.s (a.at + l.i)) ∙ (rw e at l.invariant.2)
