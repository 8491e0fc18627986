-- `walk`'s loop. The invariant: what is written and the walk from here on give the whole walk; and something is open. Assumes nothing.
use mathlib.Core.Path.{◌≡◌}
use Prim.Native.Nat.{◌*◌, ◌≤◌}
use Rattle.octagon.specs.Cells.{limit}
use Rattle.spectrum.specs.Spectra.{open_cells}
use Rattle.spectrum.proofs.Progress.{Progress}
use Rattle.spectrum.proofs.walk.Given as goal

abbrev pub invariant-loop-n : goal.invariant-loop-n
invariant-loop-n l =
    Progress (open_cells l.a.bounds l.b.bounds) l.initial.list l.list l.n × (l.still ≡ open_cells l.a.bounds l.b.bounds l.n) × (1 ≤ l.still) × (l.n ≤ 2 * limit)
