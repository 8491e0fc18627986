-- `put_merged` meets its contract. The invariant: the records that are left are still to be written. Assumes nothing.
use mathlib.Core.Path.{◌≡◌}
use Prim.Native.Nat.{◌+◌, ◌*◌, ◌≤◌}
use lib.ListN.{length}
use Rattle.records.specs.Parts.{splice}
use Rattle.sheet.specs.Layout.{record_length}
use Rattle.sheet.specs.Merging.{merged}
use Rattle.sheet.specs.Sheets.{rows_bytes}
use Rattle.sheet.specs.Stored.{plots_of}
use Rattle.sheet.proofs.merge.put_merged.Given as goal

abbrev pub invariant-loop-x : goal.invariant-loop-x
invariant-loop-x l =
    (length l.u ≡ length l.initial.u) × (l.o + record_length * length (merged (plots_of l.x) (plots_of l.y)) ≤ length l.initial.u)
    × (splice l.u l.o (rows_bytes record_length (merged (plots_of l.x) (plots_of l.y))) ≡ splice l.initial.u l.to (rows_bytes record_length (merged (plots_of l.initial.x) (plots_of l.initial.y))))

abbrev pub decreases-loop-x : goal.decreases-loop-x
decreases-loop-x l = l.x.rows.count + l.y.rows.count
