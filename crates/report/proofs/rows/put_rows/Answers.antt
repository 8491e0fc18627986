-- `put_rows` meets its contract: each turn reads a plot, which a checked sheet has, and puts its row. Assumes nothing.
use mathlib.Core.Path.{◌≡◌, sym, ◌∙◌}
use mathlib.Core.List.{List}
use Prim.Native.Nat.{ℕ, ◌≤◌, ◌<◌}
use native.Mathlib.Omega.{arith}
use lib.ListN.{length}
use Rattle.octagon.specs.Outcome.{accepted}
use Rattle.octagon.proofs.Outcomes.{accepted_same, accepted_not_refused}
use Rattle.sheet.specs.declared.Record.{Record}
use Rattle.sheet.specs.Checking.{checked, plots, read}
use Rattle.sheet.proofs.ReadCases.{read_checked}
use Rattle.report.proofs.Pages.{written_nothing}
use Rattle.report.proofs.Plots.{plot, plots_counted, plot_fetched, total_fits, row_room, row_more, total_cells_more, rest_end, total_cells_end}
use Rattle.report.proofs.rows.put_rows.Goals as goal

-- the record that is read in a turn
read_is : (s : List ℕ) (len c k : ℕ) → checked s len ≡ accepted c → k < c → read s len k ≡ accepted (plot (plots s len) k)
read_is s len c k e h = read_checked s len k c e ∙ plot_fetched s len c k e h

-- so it is the plot of that number
is_plot : (s : List ℕ) (len c k : ℕ) {r : Record} → checked s len ≡ accepted c → k < c → accepted r ≡ read s len k →
    (k < length (plots s len)) × (r ≡ plot (plots s len) k)
is_plot s len c k e h q = (omega (arith, plots_counted s len c e), accepted_same (q ∙ read_is s len c k e h))

pub returns-in_default : goal.returns-in_default
returns-in_default c =
    let a = c.args in
    absurd (accepted_not_refused (sym (read_is a.sheet.now a.len a.c c.loop-k.k c.requires.len_value c.loop-k-test.true) ∙ sym c.in_default.ensures))

pub put_row-requires : goal.put_row-requires
put_row-requires c =
    let a = c.args in
    let p = is_plot a.sheet.now a.len a.c c.loop-k.k c.requires.len_value c.loop-k-test.true c.in-Ok.ensures in
    row_room (plots a.sheet.now a.len) c.loop-k.k p.0 _ p.1 _ c.cells-n.ensures c.loop-k.invariant.0

pub overflow_add-sum : goal.overflow_add-sum
overflow_add-sum c =
    let a = c.args in
    let rs = plots a.sheet.now a.len in
    let p = is_plot a.sheet.now a.len a.c c.loop-k.k c.requires.len_value c.loop-k-test.true c.in-Ok.ensures in
    record {
      fits = omega (
        arith,
        c.loop-k.invariant.1,
        total_cells_more rs c.loop-k.k p.0 _ p.1 _ c.cells-n.ensures,
        total_fits a.sheet.now a.len a.c c.requires.len_value,
      );
    }

pub loop-k-preserved : goal.loop-k-preserved
loop-k-preserved c =
    let a = c.args in
    let rs = plots a.sheet.now a.len in
    let p = is_plot a.sheet.now a.len a.c c.loop-k.k c.requires.len_value c.loop-k-test.true c.in-Ok.ensures in (
      row_more rs c.loop-k.k p.0 _ p.1 _ c.cells-n.ensures c.loop-k.invariant.0 c.put_row.ensures,
      omega (arith, c.loop-k.invariant.1, total_cells_more rs c.loop-k.k p.0 _ p.1 _ c.cells-n.ensures),
    )

pub returns : goal.returns
returns c =
    let a = c.args in
    let rs = plots a.sheet.now a.len in
    let l = c.loop-k in
    let h : length rs ≤ l.k = omega (arith, plots_counted a.sheet.now a.len a.c c.requires.len_value, c.loop-k-test.false) in
    record {
      written = l.invariant.0.rest (rw (rest_end rs l.k h) (written_nothing l.page (omega (arith, l.invariant.0.fits))));
      cells_value = omega (arith, l.invariant.1, total_cells_end rs l.k h);
    }
