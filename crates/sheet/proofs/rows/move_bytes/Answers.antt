-- `move_bytes` meets its contract. The invariant: the bytes from the i-th on are moved. Assumes nothing.
use mathlib.Core.Path.{◌≡◌, refl, sym}
use Prim.Native.Nat.{◌+◌, ◌-◌}
use native.Mathlib.Omega.{arith}
use lib.ListN.{length-set}
use Rattle.records.proofs.Splices.{splice_nil}
use Rattle.records.proofs.Steps.{move_more}
use Rattle.sheet.proofs.rows.move_bytes.Goals as goal

pub loop-i-init : goal.loop-i-init
loop-i-init c =
    let a = c.args in
    let e : a.count - a.count ≡ 0 = omega arith in
    (omega arith, refl, rw e (sym (splice_nil a.s.now (a.to + a.count))))

pub loop-i-preserved : goal.loop-i-preserved
loop-i-preserved c =
    let l = c.loop-i in
    let a = c.args in
    let j = l.i - 1 in
    let e₁ : a.to + l.i ≡ a.to + j + 1 = omega arith in
    let e₂ : a.from + l.i ≡ a.from + j + 1 = omega arith in
    let e₃ : a.count - j ≡ a.count - l.i + 1 = omega arith in
    let m = rw (e₁, e₂) at l.invariant.2 in
    (omega arith, simp length-set l.invariant.1, rw (m, e₃) (move_more a.s.now (a.from + j) (a.to + j) (a.count - l.i) (omega arith) (omega arith)))
