-- Which answer each operation gives, in terms of sets: document 01's checks, one after the other, in its order, and document 02's mark.
-- "Checks are made in the order written; all of the first operand's come before the second's." Assumes nothing.
use Rattle.std.specs.Prelude.{◌≡◌, ◌↔◌, true, false, ℕ, ◌<◌, ◌≤◌}
use Rattle.octagon.specs.Octagon.{Octagon}
use Rattle.octagon.specs.Outcome.{Outcome, accepted, refused, no_cell, off_map}
use Rattle.octagon.specs.Cells.{Cells, ◌⊆◌, ◌≐◌, Empty, In, OnMap, LeavesMap, Represents, Smallest}
use Rattle.morphology.specs.Sets.{Dilated, Eroded, Opened, Closed, DilatedTimes, ErodedTimes, OpenedTimes, OpposedRows}
use Rattle.morphology.specs.Marks.{Marked, exact, filled}
use Rattle.morphology.specs.Operations.{nothing_left}
use Rattle.morphology.specs.Folds.{fold_limit, too_many_folds}

-- what is said of an answer that hands back an R
abbrev pub Answers : Type 0 → Type 1
Answers R = Outcome R → Type 0

-- one check: the answer is k where T holds; where it does not, C says what the answer is
pub data Check {R : Type 0} (T : Type 0) (k : ℕ) (C : Answers R) : Outcome R → Type 0 where
  fails : T → Check T k C (refused k)
  passes : {o : Outcome R} → ¬ T → C o → Check T k C o

-- after the last check: the answer is the octagon that stands for the set A
pub data Stands (A : Cells) : Outcome Octagon → Type 0 where
  stands : {a : Octagon} → Represents a A → Stands A (accepted a)

-- the octagon a covers the set A: it is the smallest that holds A, and it is on the map
pub record Covers (a : Octagon) (A : Cells) : Type 0 where
  pub smallest : Smallest a A
  pub on_the_map : In a ⊆ OnMap

-- after the last check of a call that marks its octagon: where T holds it is filled and F is said of it, else it is exact and E is said of it
pub data Says (T : Type 0) (E F : Octagon → Type 0) : Outcome Marked → Type 0 where
  says_exact : {a : Octagon} → ¬ T → E a → Says T E F (accepted (exact a))
  says_filled : {a : Octagon} → T → F a → Says T E F (accepted (filled a))

-- no octagon has just the cells of A
abbrev pub NoOctagon : Cells → Type 0
NoOctagon A = (s : Octagon) → ¬ (In s ≐ A)

-- "every other spread is exact and says so"; filled, "the smallest octagon that holds the cells of the set definition"
abbrev pub Spreads : Type 0 → Cells → Answers Marked
Spreads T A = Says T (λ a. Represents a A) (λ a. Covers a A)

-- "a closing stays exact": its octagon stands for the set, whatever its mark
abbrev pub StaysExact : Type 0 → Cells → Answers Marked
StaysExact T A = Says T (λ a. Represents a A) (λ a. Represents a A)

-- what is known of a marked octagon that a spread hands back: it covers A, where it is exact it stands for A, and it is filled exactly where
-- T holds
pub record Spreading (T : Type 0) (A : Cells) (m : Marked) : Type 0 where
  pub covers : Covers m.octagon A
  pub exact_stands : m.is_filled ≡ false → Represents m.octagon A
  pub filled_where : (m.is_filled ≡ true) ↔ T

-- "each operand's 1 and 2": 1 when the bounds hold no cell, 2 when some cell lies off the map
abbrev pub OnOperand : {R : Type 0} → Octagon → Answers R → Answers R
OnOperand p C = Check (Empty (In p)) no_cell (Check (LeavesMap (In p)) off_map C)

abbrev pub OnOperands : {R : Type 0} → Octagon → Octagon → Answers R → Answers R
OnOperands p f C = OnOperand p (OnOperand f C)

-- "5 when no such p exists. Then 2 when the result leaves the map"
abbrev pub Fitting : Cells → Answers Octagon
Fitting A = Check (Empty A) nothing_left (Check (LeavesMap A) off_map (Stands A))

-- dilation (document 01's spread): "2 when the result leaves the map", which it does where some sum is off the map
abbrev pub Dilating : Octagon → Octagon → Answers Marked
Dilating p f =
    OnOperands p f (Check (LeavesMap (Dilated (In p) (In f))) off_map (Spreads (OpposedRows (In p) (In f)) (Dilated (In p) (In f))))

-- erosion (document 01's trim)
abbrev pub Eroding : Octagon → Octagon → Answers Octagon
Eroding p f = OnOperands p f (Fitting (Eroded (In p) (In f)))

-- opening: the erosion's refusals; filled where what it left and f are opposed rows. The answer lies in p, so there is no second 2
abbrev pub Opening : Octagon → Octagon → Answers Marked
Opening p f =
    OnOperands p f
    (Check (Empty (Eroded (In p) (In f))) nothing_left
    (Check (LeavesMap (Eroded (In p) (In f))) off_map (Spreads (OpposedRows (Eroded (In p) (In f)) (In f)) (Opened (In p) (In f)))))

-- closing: the dilation's refusals; f fits into what it gave at the cells of p and nowhere else, so the erosion refuses nothing. It takes
-- the dilation's mark over
abbrev pub Closing : Octagon → Octagon → Answers Marked
Closing p f =
    OnOperands p f
    (Check (LeavesMap (Dilated (In p) (In f))) off_map
    (StaysExact (OpposedRows (In p) (In f)) (Closed (In p) (In f))))

-- "6 when n is above" the fold limit, before all else ("folds go to 4,000,001")
abbrev pub OnFolds : {R : Type 0} → ℕ → Answers R → Answers R
OnFolds n C = Check (fold_limit < n) too_many_folds C

-- n-fold dilation: "2 for the result"; filled where n is at least 1 and the operands are opposed
abbrev pub DilatingTimes : Octagon → Octagon → ℕ → Answers Marked
DilatingTimes p f n =
    OnFolds n
    (OnOperands p f
    (Check (LeavesMap (DilatedTimes n (In p) (In f))) off_map (Spreads ((1 ≤ n) × OpposedRows (In p) (In f)) (DilatedTimes n (In p) (In f)))))

-- n-fold erosion: "5, then 2, judged on the final set only"
abbrev pub ErodingTimes : Octagon → Octagon → ℕ → Answers Octagon
ErodingTimes p f n = OnFolds n (OnOperands p f (Fitting (ErodedTimes n (In p) (In f))))

-- n-fold erosion, then n-fold dilation: the erosion's refusals, as of an opening; filled where n is at least 1 and what is left and f are
-- opposed rows
abbrev pub OpeningTimes : Octagon → Octagon → ℕ → Answers Marked
OpeningTimes p f n =
    OnFolds n
    (OnOperands p f
    (Check (Empty (ErodedTimes n (In p) (In f))) nothing_left
    (Check (LeavesMap (ErodedTimes n (In p) (In f))) off_map
    (Spreads ((1 ≤ n) × OpposedRows (ErodedTimes n (In p) (In f)) (In f)) (OpenedTimes n (In p) (In f))))))
