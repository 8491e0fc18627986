-- `reaches` meets its contract: the sum fits, the cast is exact, and so is the product with 0.125. Assumes nothing.
use mathlib.Core.Path.{ap}
use Prim.Native.Nat.{◌+◌}
use native.Mathlib.Omega.{arith}
use lib.IntN.{pos, ◌+ℤ◌, ◌-ℤ◌}
use lib.Ieee.{le, of_bits}
use mir.Syntax.{w32}
use mir.Val.{SFits}
use mir.Facts.{to_z-of_z}
use Rattle.integers.proofs.Parts.{up, dn, sum_parts, le_parts}
use Rattle.integers.proofs.Range.{near_fits}
use Rattle.octagon.specs.Cells.{limit}
use Rattle.outline.proofs.Over.{over_mul}
use Rattle.tape.proofs.Between.{Close, edge_fits}
use Rattle.tape.proofs.snapping.reaches.Goals.{Start}
use Rattle.tape.proofs.snapping.reaches.Goals as goal

close : (c : Start) → Close c.args.n
unfolding up dn
close c = let l = le_parts c.requires.0 in let h = le_parts c.requires.1 in record { over = omega arith; under = omega arith }

twice : (c : Start) → SFits w32 (c.args.n +ℤ c.args.n)
twice c =
    let n = c.args.n in
    let k = close c in
    let sum = sum_parts n n in
    near_fits w32 (limit + limit + 2) (n +ℤ n) (omega arith) (omega (arith, k.under)) (omega (arith, k.over))

less : (c : Start) → SFits w32 ((c.args.n +ℤ c.args.n) -ℤ pos 1)
less c = record { sfits = edge_fits c.args.n (close c) }

pub returns : goal.returns
unfolding of_bits
returns c =
    let s : Start = search in
    simp (to_z-of_z s.ranges.n, to_z-of_z (twice s), to_z-of_z (less s)) (ap (λ f. le f s.args.e) (over_mul ((s.args.n +ℤ s.args.n) -ℤ pos 1) 2 (less s).sfits))
