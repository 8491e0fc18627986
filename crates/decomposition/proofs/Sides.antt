-- The sides that counted pieces have together, by the table and by equations (5) of source document 000. Assumes nothing.
use mathlib.Core.Path.{◌≡◌, sym, ◌∙◌}
use Prim.Native.Nat.{ℕ, ◌<◌}
use native.Mathlib.Omega.{arith}
use Rattle.outline.specs.declared.Outline.{Outline}
use Rattle.outline.specs.Tables.{pieces}
use Rattle.outline.specs.Walk.{side}
use Rattle.outline.specs.Sameness.{SameSides}
use Rattle.outline.proofs.Steps.{eight}
use Rattle.decomposition.specs.declared.Counts.{Counts}
use Rattle.decomposition.specs.Pieces.{outlines, listed}
use Rattle.decomposition.specs.Rule.{together}
use Rattle.decomposition.specs.Pairs.{made}

-- the table has equations (5)
made_sides : (k : Counts) (m : ℕ) → m < 8 → together (listed k) outlines m ≡ side (made k) m
unfolding outlines pieces
made_sides k =
    eight (λ m. together (listed k) outlines m ≡ side (made k) m)
    (omega arith) (omega arith) (omega arith) (omega arith) (omega arith) (omega arith) (omega arith) (omega arith)

-- counted pieces have the sides of o
abbrev pub Makes : Counts → Outline → Type 0
Makes k o = (m : ℕ) → m < 8 → together (listed k) outlines m ≡ side o m

module _ (k : Counts) (o : Outline) where
  pub makes_same : Makes k o → SameSides (made k) o
  makes_same h = record {
    e0 = at 0 (omega arith);
    e1 = at 1 (omega arith);
    e2 = at 2 (omega arith);
    e3 = at 3 (omega arith);
    e4 = at 4 (omega arith);
    e5 = at 5 (omega arith);
    e6 = at 6 (omega arith);
    e7 = at 7 (omega arith);
  }
    where
      at : (m : ℕ) → m < 8 → side (made k) m ≡ side o m
      at m l = sym (made_sides k m l) ∙ h m l

  pub same_makes : SameSides (made k) o → Makes k o
  same_makes e m l = made_sides k m l ∙ eight (λ m. side (made k) m ≡ side o m) e.e0 e.e1 e.e2 e.e3 e.e4 e.e5 e.e6 e.e7 m l
