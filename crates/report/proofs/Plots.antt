-- The plots of a checked sheet: the fetched records, their cells, and their rows one after the other. Assumes nothing.
use mathlib.Core.Path.{◌≡◌, refl, ◌∙◌}
use mathlib.Core.List.{List, [], ◌∷◌, ◌++◌}
use Prim.Native.Nat.{ℕ, zero, suc, ◌+◌, ◌*◌, ◌^◌, ◌≤◌, ◌<◌}
use native.Mathlib.Omega.{arith}
use native.Mathlib.Numerals.{add-one}
use lib.ListN.{length, get_or, drop, drop_of_length-le}
use lib.Seq.{drop-cons}
use Rattle.octagon.specs.Octagon.{Octagon}
use Rattle.octagon.specs.Outcome.{Outcome, accepted, refused, then}
use Rattle.cell_count.specs.Area.{cell_count}
use Rattle.cell_count.proofs.Counted.{count_accepted, area_most}
use Rattle.cell_count.proofs.Lengths.{greatest}
use Rattle.outline.specs.declared.Outline.{Outline}
use Rattle.outline.specs.Tracing.{traced}
use Rattle.sheet.specs.declared.Record.{Record}
use Rattle.sheet.specs.Layout.{record_from}
use Rattle.sheet.specs.Order.{nth}
use Rattle.sheet.specs.Checking.{plots, checked, fetched}
use Rattle.sheet.proofs.Frames.{frame_few}
use Rattle.sheet.proofs.Checks.{checked_plotted}
use Rattle.report.specs.declared.page.Page.{Page}
use Rattle.report.specs.Lines.{row_line}
use Rattle.report.specs.Pages.{HasRoom, Written}
use Rattle.report.specs.Listing.{or_nought, cell_number, row_of, rows_of, total_cells}
use Rattle.report.proofs.Pages.{ToWrite, to_write_more, to_write_room}

-- ---- the records

-- a record without numbers, and plot k, where there is one
abbrev pub blank : Record
blank = record_from [] []

abbrev pub plot : List Record → ℕ → Record
plot rs k = get_or rs k blank

pub nth_plot : (rs : List Record) (k : ℕ) → k < length rs → nth rs k ≡ accepted (plot rs k)
nth_plot [] k h = absurd (omega arith)
nth_plot (r ∷ rs) zero h = refl
nth_plot (r ∷ rs) (suc k) h = nth_plot rs k (omega arith)

pub plots_counted : (s : List ℕ) (len c : ℕ) → checked s len ≡ accepted c → length (plots s len) ≡ c
plots_counted s len c e = (checked_plotted s len c e).many

pub plot_fetched : (s : List ℕ) (len c k : ℕ) → checked s len ≡ accepted c → k < c → fetched s len k ≡ accepted (plot (plots s len) k)
plot_fetched s len c k e h = let p = checked_plotted s len c e in p.fetch k ∙ nth_plot (plots s len) k (omega (arith, p.many))

-- ---- the cells

count_most : (o : Octagon) → or_nought (cell_count o) ≤ greatest
count_most o = go (cell_count o) refl
  where
    go : (t : Outcome ℕ) → cell_count o ≡ t → or_nought t ≤ greatest
    go (accepted n) e = let p = count_accepted o n e in rw p.2 at (area_most o p.0 p.1)
    go (refused k) e = omega arith

pub cells_most : (o : Outline) → cell_number o ≤ greatest
unfolding cell_number
cells_most o = go (traced o)
  where
    go : (t : Outcome Octagon) → or_nought (then t cell_count) ≤ greatest
    go (accepted a) = count_most a
    go (refused k) = omega arith

pub total_cells_most : (rs : List Record) → total_cells rs ≤ length rs * greatest
total_cells_most [] = omega arith
total_cells_most (r ∷ rs) = omega (arith, cells_most r.outline, total_cells_most rs)

-- a sheet has at most 2,730 plots, so their sum fits an unsigned 64-bit number
pub total_fits : (s : List ℕ) (len c : ℕ) → checked s len ≡ accepted c → total_cells (plots s len) < 2 ^ 64
total_fits s len c e = let p = checked_plotted s len c e in omega (arith, total_cells_most (plots s len), p.many, frame_few s len c p.frame)

-- ---- the rows from the k-th on

abbrev pub rest : List Record → ℕ → List ℕ
rest rs k = rows_of (drop k rs)

module _ (rs : List Record) (k : ℕ) (h : k < length rs) (r : Record) (e : r ≡ plot rs k) (n : ℕ) (f : n ≡ cell_number r.outline) where
  rest_more : rest rs k ≡ row_line r n ++ rest rs (k + 1)
  unfolding row_of
  rest_more = rw (drop-cons rs k blank h, add-one k, f, e)

  pub row_room : {p q : Page} {w : List ℕ} → ToWrite p w q (rest rs k) → HasRoom q (row_line r n)
  row_room l = to_write_room (row_line r n) (rest rs (k + 1)) (rw rest_more at l)

  pub row_more : {p q t : Page} {w : List ℕ} → ToWrite p w q (rest rs k) → Written q (row_line r n) t → ToWrite p w t (rest rs (k + 1))
  row_more l a = to_write_more (row_line r n) (rest rs (k + 1)) (rw rest_more at l) a

  pub total_cells_more : total_cells (drop k rs) ≡ n + total_cells (drop (k + 1) rs)
  total_cells_more = rw (drop-cons rs k blank h, add-one k, f, e)

-- none is left
pub rest_end : (rs : List Record) (k : ℕ) → length rs ≤ k → rest rs k ≡ []
rest_end rs k h = rw (drop_of_length-le rs h)

pub total_cells_end : (rs : List Record) (k : ℕ) → length rs ≤ k → total_cells (drop k rs) ≡ 0
total_cells_end rs k h = rw (drop_of_length-le rs h)
