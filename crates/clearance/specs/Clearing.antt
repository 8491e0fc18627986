-- What `around` answers: definitions that compute. specs/Cases.antt says the same in words, proofs/Cases.antt joins the two.
-- Assumes nothing.
use Rattle.std.specs.Prelude.{cond, ℕ, zero, suc, ◌*◌, leb, ℤ, pos, ◌+ℤ◌}
use Rattle.octagon.specs.Octagon.{Octagon}
use Rattle.octagon.specs.Outcome.{Outcome, refused}
use Rattle.octagon.specs.NormalForm.{placed}
use Rattle.octagon.specs.OneCell.{one_cell}
use Rattle.clearance.specs.declared.Tree.{Tree}
use Rattle.clearance.specs.declared.disc.Axes.{Axes}

-- the greatest radius that is answered, and the refusal number of one above it
abbrev pub radius_limit : ℕ
radius_limit = 255

abbrev pub too_wide : ℕ
too_wide = 17

-- the greatest s up to k whose square is at most n
abbrev pub root_up_to : ℕ → ℕ → ℕ
root_up_to zero n = zero
root_up_to (suc k) n = cond (leb (suc k * suc k) n) (suc k) (root_up_to k n)

-- the slant reach of a radius: the greatest s whose square is at most 2 × r × r
unfoldable pub slant_reach : ℕ → ℕ
slant_reach r = root_up_to (2 * r) (2 * r * r)

-- the bounds along the axes of a disc about the cell (x, y): r farther out than the cell's
abbrev pub axes : ℤ → ℤ → ℕ → Axes
axes x y r = record {
  c0 = pos r +ℤ (one_cell x y).c0;
  c2 = pos r +ℤ (one_cell x y).c2;
  c4 = pos r +ℤ (one_cell x y).c4;
  c6 = pos r +ℤ (one_cell x y).c6;
}

-- and with them those along the slants: s farther out
abbrev pub with_slants : Axes → ℤ → ℤ → ℕ → Octagon
with_slants a x y s = record {
  c0 = a.c0;
  c1 = pos s +ℤ (one_cell x y).c1;
  c2 = a.c2;
  c3 = pos s +ℤ (one_cell x y).c3;
  c4 = a.c4;
  c5 = pos s +ℤ (one_cell x y).c5;
  c6 = a.c6;
  c7 = pos s +ℤ (one_cell x y).c7;
}

-- the octagon about the cell (x, y) with the radius r
unfoldable pub octagon_about : ℤ → ℤ → ℕ → Octagon
octagon_about x y r = with_slants (axes x y r) x y (slant_reach r)

-- what `around` answers
unfoldable pub cleared : Tree → Outcome Octagon
cleared t = cond (leb t.radius radius_limit) (placed (octagon_about t.x t.y t.radius)) (refused too_wide)
