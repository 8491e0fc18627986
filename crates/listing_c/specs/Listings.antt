-- A listing in lent memory. Assumes nothing.
use Rattle.std.specs.Prelude.{ℕ, List, length}
use Rattle.records.specs.Parts.{splice}

-- what the listing t makes of the text that was lent for it: its bytes at the start, and its length
abbrev pub laid : List ℕ → List ℕ → List ℕ × ℕ
laid text t = (splice text 0 t, length t)
