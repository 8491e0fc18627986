-- The lines of a listing, and the cells of its plots. Assumes nothing.
use mathlib.Core.Path.{◌≡◌, refl, sym, ◌∙◌}
use mathlib.Core.List.{List, ◌++◌}
use Prim.Native.Nat.{ℕ, ◌<◌}
use native.Mathlib.Omega.{arith}
use lib.ListN.{length}
use Rattle.octagon.specs.Octagon.{Octagon}
use Rattle.octagon.specs.Outcome.{Outcome, accepted, refused}
use Rattle.octagon.proofs.Outcomes.{accepted_not_refused, refused_same}
use Rattle.cell_count.proofs.Counted.{count_when}
use Rattle.outline.specs.declared.Outline.{Outline}
use Rattle.outline.specs.Tracing.{traced}
use Rattle.outline.proofs.Tracings.{accepted_means}
use Rattle.sheet.specs.declared.Record.{Record}
use Rattle.sheet.specs.Sheets.{Sheet}
use Rattle.sheet.specs.Checking.{parsed, plots, checked}
use Rattle.sheet.proofs.Order.{ascending_at}
use Rattle.sheet.proofs.Checks.{parsed_plots, checked_refused, checked_count, checked_plotted}
use Rattle.report.specs.Lines.{heading_line, last_line, refused_line}
use Rattle.report.specs.Listing.{cell_number, rows_of, total_cells, full, listing}
use Rattle.report.specs.ReadBack.{CountedOutline}
use Rattle.report.proofs.Plots.{plot, nth_plot, plots_counted}

-- ---- the lines

-- a refused sheet gives the one line `refused`, then a space and its number
pub listing_refused : (s : List ℕ) (len k : ℕ) → checked s len ≡ refused k → listing s len ≡ refused_line k
unfolding listing
listing_refused s len k e = go (parsed s len) refl
  where
    go : (t : Outcome Sheet) → parsed s len ≡ t → listing s len ≡ refused_line k
    go (refused n) q = rw (q, refused_same (sym (checked_refused s len q) ∙ e))
    go (accepted z) q = absurd (accepted_not_refused (sym (checked_count s len q) ∙ e))

pub listing_accepted : (s : List ℕ) (len c : ℕ) → checked s len ≡ accepted c → listing s len ≡ full (plots s len)
unfolding listing
listing_accepted s len c e = go (parsed s len) refl
  where
    go : (t : Outcome Sheet) → parsed s len ≡ t → listing s len ≡ full (plots s len)
    go (refused n) q = absurd (accepted_not_refused (sym e ∙ checked_refused s len q))
    go (accepted z) q = rw (q, parsed_plots s len q)

-- any other gives the heading, the rows of its plots, and the last line with the record count and the sum of the plots' cells
pub listing_lines : (s : List ℕ) (len c : ℕ) → checked s len ≡ accepted c
    → listing s len ≡ heading_line ++ (rows_of (plots s len) ++ last_line c (total_cells (plots s len)))
unfolding full
listing_lines s len c e = listing_accepted s len c e ∙ counted (plots s len) (plots_counted s len c e)
  where
    counted : (rs : List Record) → length rs ≡ c → full rs ≡ heading_line ++ (rows_of rs ++ last_line c (total_cells rs))
    counted rs e = rw e

-- ---- the cells

pub cells_counted : (o : Outline) (a : Octagon) → traced o ≡ accepted a → CountedOutline o (cell_number o)
unfolding cell_number
cells_counted o a e =
    let m = accepted_means o a e in
    record { octagon = a; is_octagon = e; same_cells = m.same_cells; number = rw (e, count_when a m.is_normalised.some m.on_the_map) }

-- the cells inside the outline of each record
pub plot_counted : (s : List ℕ) (len c k : ℕ) → checked s len ≡ accepted c → k < c →
    let o = (plot (plots s len) k).outline in CountedOutline o (cell_number o)
plot_counted s len c k e h =
    let p = checked_plotted s len c e in
    let t = ascending_at k (plot (plots s len) k) (nth_plot (plots s len) k (omega (arith, p.many))) p.ascending in
    cells_counted (plot (plots s len) k).outline t.0 t.1
