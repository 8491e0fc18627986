-- The answers of `around`, case by case, in the words of document 02. proofs/Cases.antt proves that they are its answers.
-- Assumes nothing.
use Rattle.std.specs.Prelude.{◌≤◌, ◌<◌}
use Rattle.octagon.specs.Octagon.{Octagon}
use Rattle.octagon.specs.Outcome.{Outcome, accepted, refused, off_map}
use Rattle.octagon.specs.Cells.{Cells, ◌⊆◌, OnMap, LeavesMap, Smallest}
use Rattle.clearance.specs.declared.Tree.{Tree}
use Rattle.clearance.specs.Disc.{Disc}
use Rattle.clearance.specs.Clearing.{radius_limit, too_wide}

-- the cells that a tree keeps clear
abbrev pub TreeCells : Tree → Cells
TreeCells t = Disc t.x t.y t.radius

-- each answer, with what it says of the tree: the radius, then the centre, then all cells about it
pub data AroundCase (t : Tree) : Outcome Octagon → Type 0 where
  is_too_wide : radius_limit < t.radius → AroundCase t (refused too_wide)
  is_centre_off : t.radius ≤ radius_limit → ¬ (OnMap t.x t.y) → AroundCase t (refused off_map)
  is_cell_off : t.radius ≤ radius_limit → OnMap t.x t.y → LeavesMap (TreeCells t) → AroundCase t (refused off_map)
  is_octagon : t.radius ≤ radius_limit → TreeCells t ⊆ OnMap → (a : Octagon) → Smallest a (TreeCells t) → AroundCase t (accepted a)
