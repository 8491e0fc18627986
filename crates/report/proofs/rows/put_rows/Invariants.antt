-- The loop of `put_rows`: the rows from the k-th on are left to write, and their cells. Assumes nothing.
use mathlib.Core.Path.{◌≡◌}
use Prim.Native.Nat.{◌+◌}
use lib.ListN.{drop}
use Rattle.sheet.specs.Checking.{plots}
use Rattle.report.specs.Listing.{rows_of, total_cells}
use Rattle.report.proofs.Pages.{ToWrite}
use Rattle.report.proofs.Plots.{rest}
use Rattle.report.proofs.rows.put_rows.Given as goal

abbrev pub invariant-loop-k : goal.invariant-loop-k
invariant-loop-k l =
    ToWrite l.initial.page (rows_of (plots l.sheet l.len)) l.page (rest (plots l.sheet l.len) l.k) × (l.sum + total_cells (drop l.k (plots l.sheet l.len)) ≡ total_cells (plots l.sheet l.len))
