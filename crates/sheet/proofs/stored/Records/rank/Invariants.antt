-- `rank` meets its contract. The invariant: k records are passed, and the others decide how many more. Assumes nothing.
use mathlib.Core.Path.{◌≡◌}
use Prim.Native.Nat.{◌+◌, ◌-◌, ◌*◌}
use Rattle.sheet.specs.Order.{rank}
use Rattle.sheet.specs.Sheets.{plots_from}
use Rattle.sheet.specs.Stored.{plots_of}
use Rattle.sheet.proofs.stored.Records.rank.Given as goal

abbrev pub invariant-loop-k : goal.invariant-loop-k
invariant-loop-k l = rank l.v (plots_of l.self) ≡ l.k + rank l.v (plots_from l.x.each.bytes l.self.bytes.now (l.x.at + l.x.each.bytes * l.k) (l.x.count - l.k))
