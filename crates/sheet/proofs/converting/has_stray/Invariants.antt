-- `has_stray` meets its contract. The invariant: the records that are left decide. Assumes nothing.
use mathlib.Core.Path.{◌≡◌}
use Prim.Native.Nat.{◌+◌, ◌-◌, ◌*◌}
use Rattle.sheet.specs.Sheets.{plots_from}
use Rattle.sheet.specs.Stored.{plots_of}
use Rattle.sheet.specs.Converting.{strays}
use Rattle.sheet.proofs.converting.has_stray.Given as goal

abbrev pub invariant-loop-k : goal.invariant-loop-k
invariant-loop-k l = strays (plots_of l.x) ≡ strays (plots_from l.rows.each.bytes l.x.bytes.now (l.rows.at + l.rows.each.bytes * l.k) (l.rows.count - l.k))
