-- Short names for the plots of document 01's squared-paper cases, and for what a case compares. Assumes nothing.
use Rattle.std.specs.Prelude.{ℕ, ℤ, pos}
use Rattle.octagon.specs.Octagon.{Octagon}
use Rattle.octagon.specs.Outcome.{Outcome, then}
use Rattle.outline.specs.declared.Outline.{Outline}
use Rattle.outline.specs.Tracing.{traced}
use Rattle.decomposition.specs.declared.Split.{Split}
use Rattle.morphology.specs.Marks.{Marked}
use Rattle.morphology.specs.Operations.{dilation, erosion, opened}

-- what a definition gives, and what document 01 says that it gives
pub record Case (A : Type 0) : Type 0 where
  pub given : A
  pub expected : A

abbrev pub is : {A : Type 0} → A → A → Case A
is g e = record { given = g; expected = e }

-- eight bounds c0 to c7
abbrev pub bounds : ℤ → ℤ → ℤ → ℤ → ℤ → ℤ → ℤ → ℤ → Octagon
bounds c0 c1 c2 c3 c4 c5 c6 c7 = record { c0 = c0; c1 = c1; c2 = c2; c3 = c3; c4 = c4; c5 = c5; c6 = c6; c7 = c7 }

-- the outline that starts at (i, j), with sides n0 to n7
abbrev pub outline : ℤ → ℤ → ℕ → ℕ → ℕ → ℕ → ℕ → ℕ → ℕ → ℕ → Outline
outline i j n0 n1 n2 n3 n4 n5 n6 n7 =
    record { i = i; j = j; n0 = n0; n1 = n1; n2 = n2; n3 = n3; n4 = n4; n5 = n5; n6 = n6; n7 = n7 }

-- an outline that starts at (0, 0)
abbrev pub outlined_by : ℕ → ℕ → ℕ → ℕ → ℕ → ℕ → ℕ → ℕ → Outline
outlined_by = outline (pos 0) (pos 0)

-- the 6-cell block, the 3 by 3 block, and the pieces K2, K4 and K13
abbrev pub block : Outline
block = outlined_by 2 0 1 0 2 0 1 0

abbrev pub three_by_three : Outline
three_by_three = outlined_by 2 0 2 0 2 0 2 0

abbrev pub K2 : Outline
K2 = outlined_by 0 1 0 0 0 1 0 0

abbrev pub K4 : Outline
K4 = outlined_by 0 0 0 1 0 0 0 1

abbrev pub K13 : Outline
K13 = outlined_by 0 1 0 1 0 1 0 1

-- one cell
abbrev pub cell : ℤ → ℤ → Outline
cell x y = outline x y 0 0 0 0 0 0 0 0

-- a split that starts at (0, 0), with counts of K1 to K13
abbrev pub split_by : ℕ → ℕ → ℕ → ℕ → ℕ → ℕ → ℕ → ℕ → ℕ → ℕ → ℕ → ℕ → ℕ → Split
split_by k1 k2 k3 k4 k5 k6 k7 k8 k9 k10 k11 k12 k13 = record {
  start = record { i = pos 0; j = pos 0 };
  counts = record { k1 = k1; k2 = k2; k3 = k3; k4 = k4; k5 = k5; k6 = k6; k7 = k7; k8 = k8; k9 = k9; k10 = k10; k11 = k11; k12 = k12; k13 = k13 };
}

-- an operation on the octagons of two outlines
abbrev pub by : {R : Type 0} → (Octagon → Octagon → Outcome R) → Outcome Octagon → Outline → Outcome R
by f p e = then p (λ a. then (traced e) (f a))

-- spread, trim and opening, of a plot by a frame
abbrev pub spread : Outcome Octagon → Outline → Outcome Marked
spread = by dilation

abbrev pub trim : Outcome Octagon → Outline → Outcome Octagon
trim = by erosion

abbrev pub open_by : Outcome Octagon → Outline → Outcome Marked
open_by = by opened
