-- `read_number` meets its contract: one byte more fits, and is the next digit. Assumes nothing.
use Prim.Native.Nat.{◌+◌, ◌-◌}
use native.Mathlib.Omega.{arith}
use Rattle.records.proofs.Steps.{leaves_room, number_from_more}
use Rattle.sheet.proofs.numbers.read_number.Goals as goal

pub loop-i-preserved : goal.loop-i-preserved
loop-i-preserved c =
    let l = c.loop-i in
    let a = c.args in
    number_from_more a.s.now a.at a.width l.i l.v c.from.result c.requires.1 c.loop-i-test.true l.invariant c.from.ensures (omega (arith, c.from.ensures, c.type_inv.s (a.at + (l.i - 1))))

pub overflow_mul-v : goal.overflow_mul-v
overflow_mul-v c =
    let l = c.loop-i in
    omega (arith, leaves_room c.args.width l.i l.v c.requires.0 c.loop-i-test.true l.invariant.below)

pub overflow_add-v : goal.overflow_add-v
overflow_add-v c =
    let l = c.loop-i in
    let a = c.args in
    omega (arith, leaves_room a.width l.i l.v c.requires.0 c.loop-i-test.true l.invariant.below, c.from.ensures, c.type_inv.s (a.at + (l.i - 1)))
