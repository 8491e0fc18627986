-- `put_all` meets its contract: the heading, the rows and the last line. Assumes nothing.
use mathlib.Core.Path.{◌≡◌}
use mathlib.Core.List.{List, ◌++◌}
use Prim.Native.Nat.{ℕ}
use lib.ListN.{length}
use Rattle.octagon.specs.Outcome.{accepted}
use Rattle.sheet.specs.declared.Record.{Record}
use Rattle.sheet.specs.Checking.{checked, plots}
use Rattle.report.specs.declared.page.Page.{Page}
use Rattle.report.specs.Lines.{heading_line, last_line}
use Rattle.report.specs.Listing.{rows_of, total_cells, full}
use Rattle.report.specs.Pages.{HasRoom, Written}
use Rattle.report.proofs.Pages.{ToWrite, to_write_all, to_write_more, to_write_room}
use Rattle.report.proofs.Plots.{plots_counted}
use Rattle.report.proofs.rows.put_all.Goals as goal

parts : (rs : List Record) (c : ℕ) → length rs ≡ c → full rs ≡ heading_line ++ (rows_of rs ++ last_line c (total_cells rs))
unfolding full
parts rs c e = rw e

-- what is left before the heading, after it, and after the rows
module _ (p : Page) (s : List ℕ) (len c : ℕ) (e : checked s len ≡ accepted c) (f : HasRoom p (full (plots s len))) where
  abbrev rs : List Record
  rs = plots s len

  left0 : ToWrite p (full rs) p (heading_line ++ (rows_of rs ++ last_line c (total_cells rs)))
  left0 = to_write_all p (full rs) _ (parts rs c (plots_counted s len c e)) f

  left1 : {q : Page} → Written p heading_line q → ToWrite p (full rs) q (rows_of rs ++ last_line c (total_cells rs))
  left1 a = to_write_more heading_line _ left0 a

  left2 : {q r : Page} {n : ℕ} → Written p heading_line q → Written q (rows_of rs) r → n ≡ total_cells rs → ToWrite p (full rs) r (last_line c n)
  left2 a b t = rw t (to_write_more (rows_of rs) _ (left1 a) b)

pub put_heading-requires : goal.put_heading-requires
put_heading-requires c =
    let a = c.args in
    to_write_room heading_line _ (left0 a.page.now a.sheet.now a.len a.c c.requires.len_value c.requires.len_in_bounds)

pub put_rows-cells-requires-clause-len_in_bounds : goal.put_rows-cells-requires-clause-len_in_bounds
put_rows-cells-requires-clause-len_in_bounds c =
    let a = c.args in
    to_write_room (rows_of (plots a.sheet.now a.len)) _ (left1 a.page.now a.sheet.now a.len a.c c.requires.len_value c.requires.len_in_bounds c.put_heading.ensures)

pub put_last-requires : goal.put_last-requires
put_last-requires c =
    let a = c.args in
    let r = c.put_rows-cells.ensures in
    (left2 a.page.now a.sheet.now a.len a.c c.requires.len_value c.requires.len_in_bounds c.put_heading.ensures r.written r.cells_value).fits

pub returns : goal.returns
returns c =
    let a = c.args in
    let r = c.put_rows-cells.ensures in
    (left2 a.page.now a.sheet.now a.len a.c c.requires.len_value c.requires.len_in_bounds c.put_heading.ensures r.written r.cells_value).rest c.put_last.ensures
