-- What a sheet says, a heading and records, and the bytes that say it, over the record length. Assumes nothing.
use Rattle.std.specs.Prelude.{ℕ, ◌+◌, ◌-◌, ◌*◌, List, ◌++◌, map, length, take}
use Rattle.records.specs.Rows.{records, end_to_end}
use Rattle.sheet.specs.declared.Record.{Record}
use Rattle.sheet.specs.declared.trailer.Trailer.{Trailer}
use Rattle.sheet.specs.Layout.{layout_of, encoded, decoded}
use Rattle.sheet.specs.Trailer.{trailer_length, trailer}

-- the longest sheet, in bytes
abbrev pub sheet_limit : ℕ
sheet_limit = 65536

-- what a sheet says
pub record Sheet : Type 0 where
  pub heading : List ℕ
  pub plots : List Record

-- ---- reading

-- the n records of L bytes each from index at of s
unfoldable pub plots_from : ℕ → List ℕ → ℕ → ℕ → List Record
plots_from L s at n = map (decoded (layout_of L)) (records L s at n)

-- where the first record of a sheet of len bytes stands, d bytes before the trailer
abbrev pub first : ℕ → ℕ → ℕ
first len d = len - trailer_length - d

-- what a sheet of len bytes with the trailer z says
abbrev pub sheet_of : List ℕ → ℕ → Trailer → Sheet
sheet_of s len z = record {
  heading = take (first len z.distance) s;
  plots = plots_from z.length s (first len z.distance) z.count;
}

-- ---- writing

-- records of L bytes each, one after the other
abbrev pub rows_bytes : ℕ → List Record → List ℕ
rows_bytes L rs = end_to_end (map (encoded (layout_of L)) rs)

-- and their trailer
unfoldable pub records_bytes : ℕ → List Record → List ℕ
records_bytes L rs = rows_bytes L rs ++ trailer L (length rs)

-- the bytes of a sheet whose records have L bytes each, and how many they are
unfoldable pub sheet_bytes : ℕ → Sheet → List ℕ
sheet_bytes L z = z.heading ++ records_bytes L z.plots

abbrev pub sheet_length : ℕ → Sheet → ℕ
sheet_length L z = length z.heading + L * length z.plots + trailer_length
