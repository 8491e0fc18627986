-- `has_number` meets its contract. The invariant: the records that are left decide. Assumes nothing.
use mathlib.Core.Path.{◌≡◌}
use Prim.Native.Nat.{◌+◌, ◌-◌, ◌*◌}
use Rattle.sheet.specs.Order.{present}
use Rattle.sheet.specs.Sheets.{plots_from}
use Rattle.sheet.specs.Stored.{plots_of}
use Rattle.sheet.proofs.stored.Records.has_number.Given as goal

abbrev pub invariant-loop-k : goal.invariant-loop-k
invariant-loop-k l = present l.v (plots_of l.self) ≡ present l.v (plots_from l.x.each.bytes l.self.bytes.now (l.x.at + l.x.each.bytes * l.k) (l.x.count - l.k))
