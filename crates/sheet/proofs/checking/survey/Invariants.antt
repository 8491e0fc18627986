-- `survey` meets its contract. The invariant: the records that are left decide. Assumes nothing.
use mathlib.Core.Path.{◌≡◌}
use Prim.Native.Nat.{◌+◌, ◌-◌, ◌*◌}
use Rattle.sheet.specs.Layout.{map_limit}
use Rattle.sheet.specs.Sheets.{plots_from}
use Rattle.sheet.specs.Rows.{plots_in}
use Rattle.sheet.specs.Checking.{surveyed, all_judged}
use Rattle.sheet.proofs.checking.survey.Given as goal

abbrev pub invariant-loop-k : goal.invariant-loop-k
invariant-loop-k l =
    let m = map_limit l.x.each.bytes in
    all_judged m (plots_in l.s l.x) ≡ surveyed m tt l.before (plots_from l.x.each.bytes l.s (l.x.at + l.x.each.bytes * l.k) (l.x.count - l.k))
