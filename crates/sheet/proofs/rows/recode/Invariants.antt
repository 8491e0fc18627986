-- `recode` meets its contract. The invariant: the records from number k on are written in their place. Assumes nothing.
use mathlib.Core.Path.{◌≡◌}
use Prim.Native.Nat.{◌+◌, ◌-◌, ◌*◌}
use Rattle.records.specs.Parts.{splice}
use Rattle.sheet.specs.Layout.{record_length}
use Rattle.sheet.specs.Sheets.{plots_from, rows_bytes}
use Rattle.sheet.proofs.rows.recode.Given as goal

abbrev pub invariant-loop-k : goal.invariant-loop-k
invariant-loop-k l =
    l.s ≡ splice l.initial.s (l.to + record_length * l.k) (rows_bytes record_length (plots_from l.x.each.bytes l.initial.s (l.x.at + l.x.each.bytes * l.k) (l.x.count - l.k)))
