-- The operations of mathematical morphology on sets of cells: definitions 2.12 to 2.17 of document 002, document 004's
-- openings by n folds, and document 01's diagonal rows.
-- This file is what a reader must believe of the operations. Assumes nothing.
use Rattle.std.specs.Prelude.{◌≡◌, ◌⊎◌, ℕ, zero, suc, ℤ, ◌+ℤ◌, ◌-ℤ◌}
use Rattle.octagon.specs.Cells.{Cells, Some}

-- definition 2.12, the dilation of A by B (document 01's spread): the sums of a cell of A and a cell of B
pub record Dilated (A B : Cells) (x y : ℤ) : Type 0 where
  pub ax : ℤ
  pub ay : ℤ
  pub bx : ℤ
  pub by : ℤ
  pub of_a : A ax ay
  pub of_b : B bx by
  pub sum_x : ax +ℤ bx ≡ x
  pub sum_y : ay +ℤ by ≡ y

-- definition 2.13, the erosion of A by B (document 01's trim): the positions at which the whole of B stands inside A
abbrev pub Eroded : Cells → Cells → Cells
Eroded A B x y = (bx by : ℤ) → B bx by → A (x +ℤ bx) (y +ℤ by)

-- definition 2.14, the opening of A by B: the erosion, then the dilation
abbrev pub Opened : Cells → Cells → Cells
Opened A B = Dilated (Eroded A B) B

-- definition 2.15, the closing of A by B: the dilation, then the erosion
abbrev pub Closed : Cells → Cells → Cells
Closed A B = Eroded (Dilated A B) B

-- definition 2.16, the n-fold dilation of A by B
abbrev pub DilatedTimes : ℕ → Cells → Cells → Cells
DilatedTimes zero A B = A
DilatedTimes (suc n) A B = Dilated (DilatedTimes n A B) B

-- definition 2.17, the n-fold erosion of A by B
abbrev pub ErodedTimes : ℕ → Cells → Cells → Cells
ErodedTimes zero A B = A
ErodedTimes (suc n) A B = Eroded (ErodedTimes n A B) B

-- the opening of A by n folds of B: the n-fold erosion, then the n-fold dilation (document 004's multi-scale opening at scale n, its (7))
abbrev pub OpenedTimes : ℕ → Cells → Cells → Cells
OpenedTimes n A B = DilatedTimes n (ErodedTimes n A B) B

-- two cells of A in different columns
pub record Two (A : Cells) : Type 0 where
  pub one : Some A
  pub other : Some A
  pub apart : ¬ (one.x ≡ other.x)

-- a diagonal row: two or more cells, all on one line where d is constant
pub record DiagonalRow (d : ℤ → ℤ → ℤ) (A : Cells) : Type 0 where
  pub line : ℤ
  pub on_line : (x y : ℤ) → A x y → d x y ≡ line
  pub two : Two A

-- "all on one line x-y = constant or all on one line x+y = constant"
abbrev pub Rising : Cells → Type 0
Rising A = DiagonalRow (λ x y. x -ℤ y) A

abbrev pub Falling : Cells → Type 0
Falling A = DiagonalRow (λ x y. x +ℤ y) A

-- opposed rows: one of each kind
abbrev pub OpposedRows : Cells → Cells → Type 0
OpposedRows A B = (Rising A × Falling B) ⊎ (Falling A × Rising B)
