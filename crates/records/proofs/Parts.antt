-- Parts of a list of bytes. Assumes nothing.
use mathlib.Core.Path.{◌≡◌, sym, ◌∙◌}
use mathlib.Core.List.{List, [], ◌∷◌}
use Prim.Native.Nat.{ℕ, zero, suc, ◌+◌, ◌-◌}
use native.Mathlib.Omega.{arith}
use native.Mathlib.Nat.{sub-zero, zero-sub, suc-sub-suc}
use lib.ListN.{take, drop}
use lib.Seq.{take-nil}
use Rattle.records.specs.Parts.{part}

-- a part by its ends is a part by its start and its length
pub part_by_ends : (f t : ℕ) (s : List ℕ) → drop f (take t s) ≡ part s f (t - f)
part_by_ends zero t s = rw sub-zero
part_by_ends (suc f) zero s = rw zero-sub
part_by_ends (suc f) (suc t) [] = sym (take-nil (suc t - suc f))
part_by_ends (suc f) (suc t) (x ∷ s) = rw suc-sub-suc (part_by_ends f t s)

-- of the first a + b bytes, those after the first a
pub drop_take : (a b : ℕ) (s : List ℕ) → drop a (take (a + b) s) ≡ take b (drop a s)
drop_take a b s = let e : a + b - a ≡ b = omega arith in part_by_ends a (a + b) s ∙ rw e
