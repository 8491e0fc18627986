-- `move_bytes` meets its contract. The invariant: the bytes from the i-th on are moved. Assumes nothing.
use mathlib.Core.Path.{◌≡◌}
use Prim.Native.Nat.{◌+◌, ◌-◌, ◌≤◌}
use lib.ListN.{length}
use Rattle.records.specs.Parts.{part, splice}
use Rattle.sheet.proofs.rows.move_bytes.Given as goal

abbrev pub invariant-loop-i : goal.invariant-loop-i
invariant-loop-i l = (l.i ≤ l.count) × (length l.s ≡ length l.initial.s) × (l.s ≡ splice l.initial.s (l.to + l.i) (part l.initial.s (l.from + l.i) (l.count - l.i)))
