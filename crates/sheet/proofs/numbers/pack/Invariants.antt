-- `pack` meets its contract. The invariant: the fields that are left, put from index p on, give the whole. Assumes nothing.
use mathlib.Core.Path.{◌≡◌}
use Prim.Native.Nat.{◌+◌, ◌≤◌}
use lib.ListN.{length, drop}
use Rattle.records.specs.Numbers.{total_width, packed}
use Rattle.records.specs.Parts.{splice}
use Rattle.sheet.proofs.numbers.pack.Given as goal

abbrev pub invariant-loop-k : goal.invariant-loop-k
invariant-loop-k g l =
    (l.k ≤ length l.widths) × (l.p + total_width (drop l.k l.widths) ≤ length l.s) × (length l.s ≡ length l.initial.s)
    × (splice l.s l.p (packed (drop l.k l.widths) (drop l.k l.values)) ≡ splice l.initial.s l.at (packed l.widths l.values))
