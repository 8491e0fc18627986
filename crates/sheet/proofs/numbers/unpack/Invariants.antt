-- `unpack` meets its contract. The invariant: the numbers of k fields are read, and the others are read from index p on. Assumes nothing.
use mathlib.Core.Path.{◌≡◌}
use mathlib.Core.Bool.{true}
use mathlib.Core.List.{◌++◌}
use Prim.Native.Nat.{◌+◌, ◌≤◌}
use lib.ListN.{length, take, drop}
use Rattle.records.specs.Numbers.{total_width, narrow, unpacked}
use Rattle.sheet.proofs.numbers.unpack.Given as goal

abbrev pub invariant-loop-k : goal.invariant-loop-k
invariant-loop-k g l =
    (l.k ≤ length l.widths) × (l.p + total_width (drop l.k l.widths) ≤ length l.s) × (narrow (drop l.k l.widths) ≡ true) × (length l.values ≡ length l.initial.values)
    × (take l.k l.values ++ unpacked (drop l.k l.widths) (drop l.p l.s) ≡ unpacked l.widths (drop l.at l.s))
