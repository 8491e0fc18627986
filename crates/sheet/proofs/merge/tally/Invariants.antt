-- `tally` meets its contract. The invariant: the records that are left decide, and those that were passed are counted. Assumes nothing.
use mathlib.Core.Path.{◌≡◌}
use Prim.Native.Nat.{◌+◌}
use lib.ListN.{length}
use Rattle.sheet.specs.Merging.{conflict, merged}
use Rattle.sheet.specs.Stored.{plots_of}
use Rattle.sheet.proofs.merge.tally.Given as goal

abbrev pub invariant-loop-x : goal.invariant-loop-x
invariant-loop-x l =
    (l.all + length (merged (plots_of l.x) (plots_of l.y)) ≡ length (merged (plots_of l.initial.x) (plots_of l.initial.y)))
    × (conflict (plots_of l.initial.x) (plots_of l.initial.y) ≡ conflict (plots_of l.x) (plots_of l.y))

abbrev pub decreases-loop-x : goal.decreases-loop-x
decreases-loop-x l = l.x.rows.count + l.y.rows.count
