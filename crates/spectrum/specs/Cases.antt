-- The answers of `pattern_spectrum`, case by case: document 02's checks, in its order; and in sets and places what a walk opens, what an
-- entry counts, what is left of the list, and what a moved plot is. proofs/Cases, Ends, Losses, Lists and MovedPlots.antt join them to the
-- definitions that compute. Assumes nothing.
use Rattle.std.specs.Prelude.{◌≡◌, List, ℕ, suc, ◌<◌, ◌≤◌, length, get_or, ℤ, pos, ◌-ℤ◌}
use Rattle.octagon.specs.Octagon.{Octagon}
use Rattle.octagon.specs.Outcome.{Outcome, accepted, refused}
use Rattle.octagon.specs.Cells.{Cells, ◌⊆◌, In, limit}
use Rattle.octagon.specs.OneCell.{OneCell}
use Rattle.cell_count.specs.Count.{count, inside, without}
use Rattle.cell_count.specs.Area.{cell_count}
use Rattle.morphology.specs.Marks.{Marked}
use Rattle.morphology.specs.Operations.{nothing_left}
use Rattle.morphology.specs.Premises.{opened_n}
use Rattle.morphology.specs.Cases.{Answers, Check, OnOperands}
use Rattle.spectrum.specs.Walks.{Walk, WalkOf}
use Rattle.spectrum.specs.Spectra.{no_origin, no_other_cell, open_cells}

-- "no other cell": none but (0, 0)
abbrev pub NoOther : Cells → Type 0
NoOther A = A ⊆ OneCell (pos 0) (pos 0)

-- a set moved by u columns and v rows
abbrev pub Moved : ℤ → ℤ → Cells → Cells
Moved u v A x y = A (x -ℤ u) (y -ℤ v)

-- after the last check: the answer is a walk over the cells that n = 0, 1, 2 and more folds open
pub data Walking (p f : Octagon) (places : ℕ) : Outcome Walk → Type 0 where
  walking : {w : Walk} → WalkOf (open_cells p f) places w → Walking p f places (accepted w)

-- "19 when the frame lacks cell (0,0), after both operands' checks; 20 when it has no other cell, next"
abbrev pub Measuring : Octagon → Octagon → ℕ → Answers Walk
Measuring p f places =
    OnOperands p f (Check (¬ (In f (pos 0) (pos 0))) no_origin (Check (NoOther (In f)) no_other_cell (Walking p f places)))

-- what a call leaves of the list l: the entries from its first place on, and each further place as it was
pub record InPlaces (l : List ℕ) (w : Walk) (m : List ℕ) : Type 0 where
  pub as_long : length m ≡ length l
  pub written : (i : ℕ) → i < w.trims → get_or m i 0 ≡ get_or w.entries i 0
  pub kept : (i : ℕ) → w.trims ≤ i → get_or m i 0 ≡ get_or l i 0

-- n trims and n spreads are accepted, and k cells are open, 1 or more; or nothing is left: no other refusal
pub data Opens (p f : Octagon) (n : ℕ) : ℕ → Type 0 where
  some_open : (m : Marked) (k : ℕ) → opened_n p f n ≡ accepted m → cell_count m.octagon ≡ accepted k → 1 ≤ k → Opens p f n k
  none_open : opened_n p f n ≡ refused nothing_left → Opens p f n 0

-- e cells are lost from n folds to n + 1: those of the one octagon that are not in the other, which lies inside it; all, where nothing is left
pub data Loses (p f : Octagon) (n : ℕ) : ℕ → Type 0 where
  part_lost : (v w : Marked) (e : ℕ) → opened_n p f n ≡ accepted v → opened_n p f (suc n) ≡ accepted w → In w.octagon ⊆ In v.octagon →
      ((r : ℕ) → limit ≤ r → e ≡ count r (without (inside v.octagon) (inside w.octagon))) → Loses p f n e
  all_lost : (v : Marked) (e : ℕ) → opened_n p f n ≡ accepted v → opened_n p f (suc n) ≡ refused nothing_left →
      ((r : ℕ) → limit ≤ r → e ≡ count r (inside v.octagon)) → Loses p f n e
