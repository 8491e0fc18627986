-- The pattern spectrum of a plot by a frame, and the answer of `pattern_spectrum`: definitions that compute. Where no opening is filled it is
-- source document 004's (9). proofs/ says what they mean in sets. Assumes nothing.
use Rattle.std.specs.Prelude.{Bool, cond, List, ℕ, eqb, pos, length}
use Rattle.octagon.specs.Octagon.{Octagon}
use Rattle.octagon.specs.Outcome.{Outcome, accepted, refused, then, left}
use Rattle.octagon.specs.NormalForm.{normalised}
use Rattle.cell_count.specs.Count.{inside}
use Rattle.cell_count.specs.Area.{area, cell_count}
use Rattle.morphology.specs.Premises.{opened_n}
use Rattle.records.specs.Parts.{splice}
use Rattle.spectrum.specs.Walks.{Walk, walk}

-- the refusal numbers of this crate: the frame lacks the cell (0, 0); it has no other cell
abbrev pub no_origin : ℕ
no_origin = 19

abbrev pub no_other_cell : ℕ
no_other_cell = 20

-- ---- the frame

-- the cell (0, 0) is within the bounds
abbrev pub has_origin : Octagon → Bool
has_origin b = inside b (pos 0) (pos 0)

-- normalised bounds have one cell alone
abbrev pub has_one_cell : Octagon → Bool
has_one_cell b = eqb (area b) 1

-- a normalised frame: refused where it lacks the cell (0, 0), and where it has no other
abbrev pub frame_tested : Octagon → Outcome Octagon
frame_tested b = cond (has_origin b) (cond (has_one_cell b) (refused no_other_cell) (accepted b)) (refused no_origin)

-- any frame: the refusals of `normalise` first
unfoldable pub frame_form : Octagon → Outcome Octagon
frame_form f = then (normalised f) frame_tested

-- ---- the spectrum

-- a number of cells, 0 where the call that gives it is refused
abbrev pub cells_or_none : Outcome ℕ → ℕ
cells_or_none (accepted k) = k
cells_or_none (refused k) = 0

-- the cells of p opened by n folds of f, exact or filled; 0 where nothing is left
unfoldable pub open_cells : Octagon → Octagon → ℕ → ℕ
open_cells p f n = cells_or_none (then (opened_n p f n) (λ m. cell_count m.octagon))

-- the spectrum in a list with so many places: the plot's checks, then the frame's, and the walk from the plot's own cells
unfoldable pub spectrum : Octagon → Octagon → ℕ → Outcome Walk
spectrum p f places = then (normalised p) (λ a. then (frame_form f) (λ b. accepted (walk (open_cells p f) places 0 (area a))))

-- what the call leaves in the list: the entries at its front, and each further place as it was
unfoldable pub after_spectrum : Octagon → Octagon → List ℕ → List ℕ
after_spectrum p f l = left l (spectrum p f (length l)) (λ w. splice l 0 w.entries)
