-- `to_twos` meets its contract. Assumes nothing.
use mathlib.Core.Path.{◌≡◌, ◌∙◌}
use Prim.Native.Nat.{◌<◌, ◌≤◌, ◌^◌}
use native.Mathlib.Omega.{arith}
use lib.IntN.{ℤ, pos, ◌+ℤ◌}
use mir.Syntax.{w32, w64}
use mir.Val.{to_z, of_z}
use Rattle.records.specs.Numbers.{twos}
use Rattle.records.proofs.Numbers.{twos_below}
use Rattle.sheet.proofs.TwosComplement.{power_top, pos_bits, read_back, lifted, as_it_is}
use Rattle.sheet.proofs.signed.to_twos.Goals.{After-power, Else-wide-lt0, Start}
use Rattle.sheet.proofs.signed.to_twos.Goals as goal

-- the local `wide`, as it is read from its bits, and the number that is to come out
abbrev wide : Start → ℤ
wide s = to_z w64 (of_z w64 (to_z w32 (of_z w32 s.args.x)))

abbrev bytes_of : Start → ℤ
bytes_of s = pos (twos s.args.width s.args.x)

wide_is : (s : Start) → wide s ≡ s.args.x
wide_is s = read_back s.args.x s.ranges.x

-- both are small
top : (c : After-power) → c.power.result ≤ 2 ^ 32
top c = let s = c.before.before in omega (arith, c.power.ensures, power_top s.args.width s.requires.0)

small : (s : Start) → twos s.args.width s.args.x < 2 ^ 32
small s = omega (arith, twos_below s.args.width s.args.x s.requires.1, power_top s.args.width s.requires.0)

-- what each case computes
sum : (c : After-power) → wide c.before.before +ℤ to_z w64 c.power.result ≡ bytes_of c.before.before
sum c =
    let s = c.before.before in
    rw (pos_bits c.power.result (omega (arith, top c)), c.power.ensures, wide_is s)
    (lifted s.args.width s.args.x s.requires.1 (rw (wide_is s) at c.if-wide-lt0.true))

sum_read : (c : After-power) → to_z w64 (of_z w64 (wide c.before.before +ℤ to_z w64 c.power.result)) ≡ bytes_of c.before.before
sum_read c = rw (sum c) (pos_bits _ (omega (arith, small c.before.before)))

kept : (c : Else-wide-lt0) → wide c.before ≡ bytes_of c.before
kept c = let s = c.before in wide_is s ∙ as_it_is s.args.width s.args.x (rw (wide_is s) at c.if-wide-lt0.false)

pub overflow_cast-result : goal.overflow_cast-result
overflow_cast-result c = record { sfits = omega (arith, top c) }

pub overflow_add-result : goal.overflow_add-result
overflow_add-result c = rw (sum c) (record { sfits = omega (arith, small c.before.before) })

pub overflow_cast-result-then-wide-lt0 : goal.overflow_cast-result-then-wide-lt0
overflow_cast-result-then-wide-lt0 c = rw (sum_read c) (tt, record { fits = omega (arith, small c.before.before) })

pub returns-then-wide-lt0 : goal.returns-then-wide-lt0
returns-then-wide-lt0 c = rw (sum_read c)

pub returns-else-wide-lt0 : goal.returns-else-wide-lt0
returns-else-wide-lt0 c = rw (kept c)
