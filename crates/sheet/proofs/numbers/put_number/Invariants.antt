-- `put_number` meets its contract. The invariant: what is left of the number, put from index at + i on, gives the whole. Assumes nothing.
use mathlib.Core.Path.{◌≡◌}
use Prim.Native.Nat.{◌+◌, ◌-◌, ◌≤◌}
use lib.ListN.{length}
use Rattle.records.specs.Numbers.{bytes}
use Rattle.records.specs.Parts.{splice}
use Rattle.sheet.proofs.numbers.put_number.Given as goal

abbrev pub invariant-loop-i : goal.invariant-loop-i
invariant-loop-i l = (l.i ≤ l.width) × (length l.s ≡ length l.initial.s) × (splice l.s (l.at + l.i) (bytes (l.width - l.i) l.rest) ≡ splice l.initial.s l.at (bytes l.width l.v))
