-- A listing read back: the lines of a text, the words of a line, and the numbers that words stand for, against what document 01 says
-- of them. proofs/ReadBacks.antt shows `ReadBack` and `RefusedBack` of every listing. Assumes nothing.
use Rattle.std.specs.Prelude.{◌≡◌, true, false, List, [], ◌∷◌, ℕ, ◌+◌, ◌≤◌, ◌<◌, eqb, ℤ, pos, length, get_or}
use Rattle.octagon.specs.Octagon.{Octagon}
use Rattle.octagon.specs.Outcome.{accepted}
use Rattle.octagon.specs.Cells.{◌≐◌, In, limit}
use Rattle.cell_count.specs.Count.{sum, count, inside}
use Rattle.outline.specs.declared.Outline.{Outline}
use Rattle.outline.specs.Walk.{InsideWalk}
use Rattle.outline.specs.Tracing.{traced}
use Rattle.records.specs.Text.{ascii}
use Rattle.sheet.specs.declared.Record.{Record}
use Rattle.sheet.specs.Checking.{fetched}
use Rattle.report.specs.Decimal.{AllDigits, integer}

-- ---- lines, words and numbers

-- a byte put before the first of some parts
abbrev pub onto_first : ℕ → List (List ℕ) → List (List ℕ)
onto_first a [] = (a ∷ []) ∷ []
onto_first a (p ∷ ps) = (a ∷ p) ∷ ps

-- the parts of a text that the byte b divides: one more than the text has such bytes
unfoldable pub divided : ℕ → List ℕ → List (List ℕ)
divided b [] = [] ∷ []
divided b (a ∷ s) = elim (eqb a b) [ true ↦ [] ∷ divided b s | false ↦ onto_first a (divided b s) ]

-- line k of a text, and word k of a line, each counted from 0: a newline is byte 10, a space byte 32
abbrev pub line_of : List ℕ → ℕ → List ℕ
line_of t k = get_or (divided 10 t) k []

abbrev pub word_of : List ℕ → ℕ → List ℕ
word_of b k = get_or (divided 32 b) k []

-- a word that is a whole number in fewest digits: the digit 0 alone, or digits of which the first is not 0, after a minus sign (byte 45)
-- where it is negative
pub data IsNumber : List ℕ → Type 0 where
  nought : IsNumber (48 ∷ [])
  positive : {b : ℕ} {s : List ℕ} → 49 ≤ b → AllDigits (b ∷ s) → IsNumber (b ∷ s)
  negative : {b : ℕ} {s : List ℕ} → 49 ≤ b → AllDigits (b ∷ s) → IsNumber (45 ∷ b ∷ s)

-- ---- the rows

-- the first line, as document 01 shows it, with U2's "last column headed `fee`"
unfoldable pub column_names : List ℕ
column_names = ascii "plot i j n0 n1 n2 n3 n4 n5 n6 n7 cells fee"

-- the number that a column of this name has for the plot r of n cells
pub data Column (r : Record) (n : ℕ) : List ℕ → ℤ → Type 0 where
  plot_number : Column r n (ascii "plot") (pos r.number)
  plot_i : Column r n (ascii "i") r.outline.i
  plot_j : Column r n (ascii "j") r.outline.j
  plot_n0 : Column r n (ascii "n0") (pos r.outline.n0)
  plot_n1 : Column r n (ascii "n1") (pos r.outline.n1)
  plot_n2 : Column r n (ascii "n2") (pos r.outline.n2)
  plot_n3 : Column r n (ascii "n3") (pos r.outline.n3)
  plot_n4 : Column r n (ascii "n4") (pos r.outline.n4)
  plot_n5 : Column r n (ascii "n5") (pos r.outline.n5)
  plot_n6 : Column r n (ascii "n6") (pos r.outline.n6)
  plot_n7 : Column r n (ascii "n7") (pos r.outline.n7)
  plot_cells : Column r n (ascii "cells") (pos n)
  plot_fee : Column r n (ascii "fee") (pos r.fee_row)

-- the line b is the row of the plot r of n cells: word m, read as a number, is the one that the name of column m asks for
pub record PlotRow (r : Record) (n : ℕ) (b : List ℕ) : Type 0 where
  pub word_count : length (divided 32 b) ≡ 13
  pub columns : (m : ℕ) → m < 13 → Column r n (word_of column_names m) (integer (word_of b m))
  pub numbers : (m : ℕ) → m < 13 → IsNumber (word_of b m)

-- the outline o is accepted, and n is the number of cells inside it
pub record CountedOutline (o : Outline) (n : ℕ) : Type 0 where
  pub octagon : Octagon
  pub is_octagon : traced o ≡ accepted octagon
  pub same_cells : In octagon ≐ InsideWalk o
  pub number : n ≡ count limit (inside octagon)

-- ---- the last line

-- the line b says that c plots have n cells together
pub record LastLine (c n : ℕ) (b : List ℕ) : Type 0 where
  pub word_count : length (divided 32 b) ≡ 4
  pub plots_word : word_of b 0 ≡ ascii "plots"
  pub plot_count : integer (word_of b 1) ≡ pos c
  pub plot_count_number : IsNumber (word_of b 1)
  pub cells_word : word_of b 2 ≡ ascii "cells"
  pub cell_total : integer (word_of b 3) ≡ pos n
  pub cell_total_number : IsNumber (word_of b 3)

-- ---- the whole listing

-- the text t lists the c records of a sheet: plot k is the record that `fetch` gives for k, and the last line has the sum of the plots'
-- cells, however large. After the last newline there is nothing.
pub record ReadBack (s : List ℕ) (len c : ℕ) (t : List ℕ) : Type 0 where
  pub plot_at : ℕ → Record
  pub cells_at : ℕ → ℕ
  pub are_fetched : (k : ℕ) → k < c → fetched s len k ≡ accepted (plot_at k)
  pub are_counted : (k : ℕ) → k < c → CountedOutline (plot_at k).outline (cells_at k)
  pub line_count : length (divided 10 t) ≡ c + 3
  pub first_line : line_of t 0 ≡ column_names
  pub plot_rows : (k : ℕ) → k < c → PlotRow (plot_at k) (cells_at k) (line_of t (k + 1))
  pub final_line : LastLine c (sum c cells_at) (line_of t (c + 1))
  pub ending : line_of t (c + 2) ≡ []

-- the text t is the one line of a sheet that is refused with the number k
pub record RefusedBack (k : ℕ) (t : List ℕ) : Type 0 where
  pub line_count : length (divided 10 t) ≡ 2
  pub word_count : length (divided 32 (line_of t 0)) ≡ 2
  pub refused_word : word_of (line_of t 0) 0 ≡ ascii "refused"
  pub refusal : integer (word_of (line_of t 0) 1) ≡ pos k
  pub refusal_number : IsNumber (word_of (line_of t 0) 1)
  pub ending : line_of t 1 ≡ []
