-- The records of a sheet that was checked, as the code passes them on with their bytes: which they are, and what their sheet says. Assumes
-- nothing.
use Rattle.std.specs.Prelude.{List, take}
use Rattle.sheet.specs.declared.Record.{Record}
use Rattle.sheet.specs.declared.stored.Records.{Records}
use Rattle.sheet.specs.Sheets.{Sheet}
use Rattle.sheet.specs.Rows.{plots_in}

abbrev pub plots_of : Records → List Record
plots_of x = plots_in x.bytes.now x.rows

-- the bytes before them, and they
abbrev pub said : Records → Sheet
said x = record { heading = take x.rows.at x.bytes.now; plots = plots_of x }
