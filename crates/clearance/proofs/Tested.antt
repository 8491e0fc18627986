-- What the test that the code makes tells of its answer: the even bounds, which the slant reach does not touch, decide. Assumes nothing.
use mathlib.Core.Path.{◌≡◌, ◌∙◌}
use mathlib.Core.Bool.{Bool, true, false}
use Prim.Native.Nat.{◌≤◌}
use mir.Syntax.{w32}
use Rattle.octagon.specs.Outcome.{accepted, refused, off_map}
use Rattle.octagon.specs.Cells.{◌⊆◌, OnMap}
use Rattle.octagon.specs.NormalForm.{are_within_limit, is_on_map, placed}
use Rattle.octagon.specs.Widths.{Held}
use Rattle.octagon.proofs.Smallest.{test_means, smallest_held}
use Rattle.clearance.specs.declared.Tree.{Tree}
use Rattle.clearance.specs.Clearing.{radius_limit, axes, octagon_about, cleared}
use Rattle.clearance.specs.Cases.{TreeCells}
use Rattle.clearance.proofs.Discs.{disc_smallest}
use Rattle.clearance.proofs.Cases.{about, within_limit_placed}

module _ (t : Tree) where
  -- the test
  abbrev pub tested : Bool
  tested = let a = axes t.x t.y t.radius in are_within_limit a.c0 a.c2 a.c4 a.c6

  pub tested_on : t.radius ≤ radius_limit → tested ≡ true → cleared t ≡ accepted (about t)
  unfolding placed is_on_map octagon_about
  tested_on h e = within_limit_placed t h ∙ rw e

  pub tested_off : t.radius ≤ radius_limit → tested ≡ false → cleared t ≡ refused off_map
  unfolding placed is_on_map octagon_about
  tested_off h e = within_limit_placed t h ∙ rw e

  -- the cells are on the map, and so the answer's bounds fit 32 bits
  on_the_map : tested ≡ true → TreeCells t ⊆ OnMap
  unfolding is_on_map octagon_about
  on_the_map e = test_means (disc_smallest t.x t.y t.radius) e

  pub about_held : tested ≡ true → Held w32 (about t)
  about_held e = smallest_held (disc_smallest t.x t.y t.radius) (on_the_map e)
