-- The loop of `vertex`: the cell is vertex m of the walk. Assumes nothing.
use mathlib.Core.Path.{◌≡◌}
use Rattle.outline.specs.Walk.{vertex}
use Rattle.outline.proofs.walk.vertex.Given as goal

abbrev pub invariant-loop-m : goal.invariant-loop-m
invariant-loop-m l = (l.x ≡ (vertex l.o l.m).x) × (l.y ≡ (vertex l.o l.m).y)
