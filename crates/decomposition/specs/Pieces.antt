-- The thirteen pieces as outlines, and the set of cells that counted pieces make. This file, with the table of pieces in outline's
-- specs/Tables.antt, is what a reader must believe of pieces. Assumes nothing.
use Rattle.std.specs.Prelude.{List, [], ◌∷◌, map, ℕ, pos}
use Rattle.octagon.specs.Cells.{Cells}
use Rattle.octagon.specs.OneCell.{OneCell}
use Rattle.outline.specs.declared.Outline.{Outline}
use Rattle.outline.specs.Tables.{pieces, piece_sides}
use Rattle.outline.specs.Walk.{with_sides, InsideWalk}
use Rattle.morphology.specs.Sets.{DilatedTimes}
use Rattle.decomposition.specs.declared.Start.{Start}
use Rattle.decomposition.specs.declared.Counts.{Counts}
use Rattle.decomposition.specs.declared.Split.{Split}

-- ---- the pieces

-- eight side lengths as an outline: each piece starts at (0, 0)
abbrev pub from_origin : List ℕ → Outline
from_origin n = with_sides (pos 0) (pos 0) n

-- the rows of the table as outlines
unfoldable pub outlines : List Outline
outlines = map from_origin pieces

-- the piece in row k of the table, counted from 0; the one cell (0, 0) past its end
unfoldable pub piece_of : ℕ → Outline
piece_of k = from_origin (piece_sides k)

-- ---- the set that counted pieces make

-- the counts in the pieces' order
abbrev pub listed : Counts → List ℕ
listed k =
    k.k1 ∷ k.k2 ∷ k.k3 ∷ k.k4 ∷ k.k5 ∷ k.k6 ∷ k.k7 ∷ k.k8 ∷ k.k9 ∷ k.k10 ∷ k.k11 ∷ k.k12 ∷ k.k13 ∷ []

-- the start cell alone
abbrev pub Only : Start → Cells
Only s = OneCell s.i s.j

-- a set dilated by each piece as often as it is counted, one kind after the other; a piece's cells are those inside its outline
abbrev pub DilatedByEach : List ℕ → List Outline → Cells → Cells
DilatedByEach [] ps A = A
DilatedByEach (k ∷ ks) [] A = A
DilatedByEach (k ∷ ks) (p ∷ ps) A = DilatedByEach ks ps (DilatedTimes k A (InsideWalk p))

-- document 01's "spreading the start cell by all counted pieces"
abbrev pub Rebuilt : Split → Cells
Rebuilt s = DilatedByEach (listed s.counts) outlines (Only s.start)
