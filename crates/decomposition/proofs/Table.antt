-- The table of the pieces: each is an outline that closes, by one test over the whole table. Assumes nothing.
use mathlib.Core.Path.{◌≡◌, refl}
use mathlib.Core.Bool.{Bool, true, ◌&&◌}
use mathlib.Core.List.{List, [], ◌∷◌}
use Prim.Native.Nat.{ℕ, zero, suc}
use lib.ListN.{get_or}
use Rattle.integers.proofs.Tests.{both_true}
use Rattle.outline.specs.Closing.{Closes, closes}
use Rattle.outline.specs.Tables.{pieces, piece_sides}
use Rattle.outline.proofs.Closed.{test_closes}
use Rattle.decomposition.specs.Pieces.{from_origin, piece_of}

-- a test that each row of a table passes
abbrev every : (List ℕ → Bool) → List (List ℕ) → Bool
every f [] = true
every f (r ∷ rs) = f r && every f rs

at : (f : List ℕ → Bool) (d : List ℕ) (rs : List (List ℕ)) → every f rs ≡ true → f d ≡ true → (k : ℕ) → f (get_or rs k d) ≡ true
at f d [] h e k = e
at f d (r ∷ rs) h e zero = (both_true (f r) (every f rs) h).0
at f d (r ∷ rs) h e (suc k) = at f d rs (both_true (f r) (every f rs) h).1 e k

pub piece_closes : (k : ℕ) → Closes (piece_of k)
unfolding piece_of piece_sides pieces closes
piece_closes k = test_closes (piece_of k) (at (λ r. closes (from_origin r)) _ pieces refl refl k)
