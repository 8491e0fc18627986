-- The lines of a listing read back: the number under each name of a row, and the words of the last line and of a refusal. Assumes nothing.
use mathlib.Core.Path.{◌≡◌, refl, ap}
use mathlib.Core.List.{List, [], ◌∷◌, map}
use Prim.Native.Nat.{ℕ, zero, suc, ◌≤◌, ◌<◌}
use native.Mathlib.Omega.{arith}
use lib.IntN.{ℤ, pos, negsuc}
use lib.ListN.{length, get_or}
use Rattle.records.specs.Text.{ascii}
use Rattle.sheet.specs.declared.Record.{Record}
use Rattle.report.specs.Decimal.{digit, AllDigits, none, more, minus, signed_decimal}
use Rattle.report.specs.Lines.{space, row_line, last_line, refused_line}
use Rattle.report.specs.ReadBack.{divided, word_of, IsNumber, nought, positive, negative, column_names, PlotRow, LastLine}
use Rattle.report.specs.ReadBack.{Column, plot_number, plot_i, plot_j, plot_n0, plot_n1, plot_n2, plot_n3, plot_n4, plot_n5, plot_n6, plot_n7, plot_cells, plot_fee}
use Rattle.report.proofs.Decimals.{decimal_digits, decimal_nought, decimal_leads, integer_signed_decimal}
use Rattle.report.proofs.RowIntegers.{row_integers}
use Rattle.report.proofs.Divisions.{tested_above, no_word, word, signed_decimal_word, integer_words, Lined, lined}

-- element k of a list that is mapped
pub map_at : {A : Type 0} (f : A → List ℕ) (l : List A) (k : ℕ) (d : A) → k < length l → get_or (map f l) k [] ≡ f (get_or l k d)
map_at f [] k d h = absurd (omega arith)
map_at f (a ∷ l) zero d h = refl
map_at f (a ∷ l) (suc k) d h = map_at f l k d (omega arith)

-- ---- a number

led : {s : List ℕ} → AllDigits s → digit 1 ≤ get_or s 0 0 → IsNumber s × IsNumber (minus ∷ s)
led none h = absurd (omega arith)
led (more l m d) h = (positive h (more l m d), negative h (more l m d))

pub is_number : (z : ℤ) → IsNumber (signed_decimal z)
unfolding signed_decimal
is_number (pos zero) = rw decimal_nought nought
is_number (pos (suc n)) = (led (decimal_digits (suc n)) (decimal_leads (suc n) (omega arith))).0
is_number (negsuc n) = (led (decimal_digits (suc n)) (decimal_leads (suc n) (omega arith))).1

-- ---- a row

pub row_lined : (r : Record) (n : ℕ) → Lined (row_line r n) (map signed_decimal (row_integers r n))
unfolding row_line signed_decimal
row_lined r n = lined (integer_words (row_integers r n))

-- each number stands under its name
data Under (r : Record) (n : ℕ) : List (List ℕ) → List ℤ → Type 0 where
  no_column : Under r n [] []
  column : {w : List ℕ} {z : ℤ} {ws : List (List ℕ)} {zs : List ℤ} → Column r n w z → Under r n ws zs → Under r n (w ∷ ws) (z ∷ zs)

under_at : {r : Record} {n : ℕ} {ws : List (List ℕ)} {zs : List ℤ} (m : ℕ) → m < length zs → Under r n ws zs → Column r n (get_or ws m []) (get_or zs m (pos 0))
under_at m h no_column = absurd (omega arith)
under_at zero h (column c u) = c
under_at (suc m) h (column c u) = under_at m (omega arith) u

row_under : (r : Record) (n : ℕ) → Under r n (divided space column_names) (row_integers r n)
unfolding divided column_names
row_under r n =
    column plot_number (column plot_i (column plot_j
    (column plot_n0 (column plot_n1 (column plot_n2 (column plot_n3 (column plot_n4 (column plot_n5 (column plot_n6 (column plot_n7
    (column plot_cells (column plot_fee no_column))))))))))))

row_word : (r : Record) (n m : ℕ) → m < 13 → word_of (row_lined r n).unended m ≡ signed_decimal (get_or (row_integers r n) m (pos 0))
row_word r n m h = rw (row_lined r n).words (map_at signed_decimal (row_integers r n) m (pos 0) h)

pub row_read : (r : Record) (n : ℕ) → PlotRow r n (row_lined r n).unended
row_read r n =
    record {
      word_count = ap length (row_lined r n).words;
      columns = λ m h. rw (row_word r n m h, integer_signed_decimal (get_or (row_integers r n) m (pos 0))) (under_at m h (row_under r n));
      numbers = λ m h. rw (row_word r n m h) (is_number (get_or (row_integers r n) m (pos 0)));
    }

-- ---- the last line

pub last_lined : (c n : ℕ) → Lined (last_line c n) (ascii "plots" ∷ signed_decimal (pos c) ∷ ascii "cells" ∷ signed_decimal (pos n) ∷ [])
unfolding last_line signed_decimal
last_lined c n =
    lined (word (tested_above space (ascii "plots") refl) (word (signed_decimal_word (pos c))
    (word (tested_above space (ascii "cells") refl) (word (signed_decimal_word (pos n)) no_word))))

pub last_read : (c n : ℕ) → LastLine c n (last_lined c n).unended
last_read c n =
    let e = (last_lined c n).words in
    record {
      word_count = rw e;
      plots_word = rw e;
      plot_count = rw e (integer_signed_decimal (pos c));
      plot_count_number = rw e (is_number (pos c));
      cells_word = rw e;
      cell_total = rw e (integer_signed_decimal (pos n));
      cell_total_number = rw e (is_number (pos n));
    }

-- ---- a refusal

pub refusal_lined : (k : ℕ) → Lined (refused_line k) (ascii "refused" ∷ signed_decimal (pos k) ∷ [])
unfolding refused_line signed_decimal
refusal_lined k = lined (word (tested_above space (ascii "refused") refl) (word (signed_decimal_word (pos k)) no_word))
