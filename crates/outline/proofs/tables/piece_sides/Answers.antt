-- `piece_sides` meets its contract: the constant `PIECES` is the definition `pieces`, row for row,
-- and there is nothing past its end. Assumes nothing.
use mathlib.Core.Path.{◌≡◌, refl, sym}
use mathlib.Core.List.{List, [], ◌∷◌}
use Prim.Native.Nat.{ℕ, zero, suc, ◌<◌}
use native.Mathlib.Omega.{arith}
use borrow.Author.Rules.{rules}
use lib.ListN.{length, get_or, get_or-eq_default}
use Rattle.outline.specs.Tables.{pieces, piece_sides}
use Rattle.outline.proofs.tables.piece_sides.Goals as goal

-- within a list it does not matter what stands past its end
within : (l : List (List ℕ)) (k : ℕ) (d e : List ℕ) → k < length l → get_or l k d ≡ get_or l k e
within [] k d e h = absurd (omega arith)
within (r ∷ l) zero d e h = refl
within (r ∷ l) (suc k) d e h = within l k d e (omega arith)

pub returns-then-k-lt13 : goal.returns-then-k-lt13
unfolding piece_sides pieces
returns-then-k-lt13 c = within pieces c.args.k [] _ (search rules)

pub returns : goal.returns
unfolding piece_sides pieces
returns c = sym (get_or-eq_default pieces _ {n = c.args.k} (search rules))
