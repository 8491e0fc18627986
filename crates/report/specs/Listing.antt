-- The listing of a sheet, as the program of document 01 writes it: a definition that computes. Assumes nothing.
use Rattle.std.specs.Prelude.{List, [], ◌∷◌, ◌++◌, map, ℕ, ◌+◌, ◌-◌, ◌*◌, ◌/◌, length}
use Rattle.octagon.specs.Outcome.{Outcome, accepted, refused, then}
use Rattle.cell_count.specs.Area.{cell_count}
use Rattle.outline.specs.declared.Outline.{Outline}
use Rattle.outline.specs.Tracing.{traced}
use Rattle.records.specs.Rows.{end_to_end}
use Rattle.sheet.specs.declared.Record.{Record}
use Rattle.sheet.specs.Layout.{base_length}
use Rattle.sheet.specs.Trailer.{trailer_length}
use Rattle.sheet.specs.Sheets.{sheet_limit, Sheet}
use Rattle.sheet.specs.Checking.{parsed}
use Rattle.report.specs.Lines.{heading_line, row_line, last_line, refused_line}

-- a count, and 0 for a refusal
abbrev pub or_nought : Outcome ℕ → ℕ
or_nought (accepted n) = n
or_nought (refused k) = 0

-- the number of cells inside an outline. No outline of a checked sheet is refused.
unfoldable pub cell_number : Outline → ℕ
cell_number o = or_nought (then (traced o) cell_count)

-- the row of a plot, and the rows of plots
unfoldable pub row_of : Record → List ℕ
row_of r = row_line r (cell_number r.outline)

abbrev pub rows_of : List Record → List ℕ
rows_of rs = end_to_end (map row_of rs)

-- the sum of the cells of plots: ground in two plots counts twice
abbrev pub total_cells : List Record → ℕ
total_cells [] = 0
total_cells (r ∷ rs) = cell_number r.outline + total_cells rs

-- the heading, a row for each plot, and the last line
unfoldable pub full : List Record → List ℕ
full rs = heading_line ++ (rows_of rs ++ last_line (length rs) (total_cells rs))

-- what is written for a sheet, or for its refusal
abbrev pub text_of : Outcome Sheet → List ℕ
text_of (accepted z) = full z.plots
text_of (refused k) = refused_line k

-- the listing of the sheet in the first len bytes of s
unfoldable pub listing : List ℕ → ℕ → List ℕ
listing s len = text_of (parsed s len)

-- ---- how long a listing can be

-- no line is longer than thirteen words of twenty bytes, each with a byte after it, and no record is shorter than document 01's; so no
-- listing is longer than this
abbrev pub line_limit : ℕ
line_limit = 13 * 21

abbrev pub text_limit : ℕ
text_limit = line_limit * ((sheet_limit - trailer_length) / base_length + 2)
