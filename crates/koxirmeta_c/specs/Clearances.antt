-- A tree by its numbers, and the call on it. Assumes nothing.
use Rattle.std.specs.Prelude.{List, ℕ, ℤ}
use Rattle.octagon.specs.Octagon.{Octagon}
use Rattle.octagon.specs.Outcome.{Outcome}
use Rattle.clearance.specs.Clearing.{cleared}
use Rattle.koxirmeta_c.specs.Calls.{fitted, is_eight}

-- the call: a centre, a radius, and where the octagon is written
abbrev pub clearing : ℤ → ℤ → ℕ → List ℤ → Outcome Octagon
clearing x y r out = fitted (is_eight out) (cleared (record { x = x; y = y; radius = r }))
