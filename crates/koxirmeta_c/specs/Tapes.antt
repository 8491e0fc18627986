-- A surveyor's tape in a slice, and the call on it. Assumes nothing.
use Rattle.std.specs.Prelude.{List, Float, ℤ}
use Rattle.octagon.specs.Octagon.{Octagon}
use Rattle.octagon.specs.Outcome.{Outcome}
use Rattle.tape.specs.Enclosing.{enclosed}
use Rattle.koxirmeta_c.specs.Calls.{fitted, is_eight}

-- the call: the tape may have any length
abbrev pub enclosing : List Float → List ℤ → Outcome Octagon
enclosing tape out = fitted (is_eight out) (enclosed tape)
