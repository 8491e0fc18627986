-- `put_narrow` meets its contract. The invariant: the records from number k on are still to be written. Assumes nothing.
use mathlib.Core.Path.{◌≡◌}
use Prim.Native.Nat.{◌+◌, ◌-◌, ◌*◌}
use lib.ListN.{length}
use Rattle.records.specs.Parts.{splice}
use Rattle.sheet.specs.Layout.{fee_length}
use Rattle.sheet.specs.Rows.{plots_in}
use Rattle.sheet.specs.Sheets.{plots_from, rows_bytes}
use Rattle.sheet.proofs.converting.put_narrow.Given as goal

abbrev pub invariant-loop-k : goal.invariant-loop-k
invariant-loop-k l =
    (length l.u ≡ length l.initial.u)
    × (splice l.u (l.to + fee_length * l.k) (rows_bytes fee_length (plots_from l.x.each.bytes l.s (l.x.at + l.x.each.bytes * l.k) (l.x.count - l.k)))
    ≡ splice l.initial.u l.to (rows_bytes fee_length (plots_in l.s l.x)))
