-- A slice that is written whole, element by element. Assumes nothing.
use mathlib.Core.Path.{◌≡◌, ◌∙◌}
use mathlib.Core.List.{List, append-nil}
use native.Mathlib.Omega.{arith}
use native.Mathlib.Nat.{zero-add}
use lib.ListN.{length}
use lib.Seq.{sets, sets-eq, drop-length}

module _ {A : Type 0} where
  -- as many stores as the slice is long leave what was stored
  pub written : (vs s : List A) → length s ≡ length vs → sets s 0 vs ≡ vs
  written vs s e = sets-eq vs s 0 (omega (arith, e)) ∙ rw (zero-add, ← e, drop-length) (append-nil vs)
