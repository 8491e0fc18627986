-- Records of a sheet, one after the other, as the code passes them on: which they are, where they stand, those that are left, and the record
-- of two sheets that comes next. The contracts of src/rows.rt and src/merge.rt cite them, and the proofs of those of src/stored.rt. Assumes nothing.
use Rattle.std.specs.Prelude.{◌≡◌, Bool, cond, List, ◌∷◌, ℕ, ◌+◌, ◌-◌, ◌*◌, ◌≤◌, length}
use Rattle.records.specs.Parts.{splice}
use Rattle.sheet.specs.declared.Record.{Record}
use Rattle.sheet.specs.declared.trailer.Trailer.{Trailer}
use Rattle.sheet.specs.declared.rows.Rows.{Rows}
use Rattle.sheet.specs.Layout.{record_length, layout_of, encoded}
use Rattle.sheet.specs.Order.{Ascending}
use Rattle.sheet.specs.Merging.{merged, leads, without_head}
use Rattle.sheet.specs.Sheets.{sheet_limit, plots_from, first}
use Rattle.sheet.specs.Cases.{HasOctagon}

-- x are those of a sheet of len bytes with the trailer z
pub record AllRows (len : ℕ) (z : Trailer) (x : Rows) : Type 0 where
  pub at_is : x.at ≡ first len z.distance
  pub count_is : x.count ≡ z.count
  pub each_is : x.each.bytes ≡ z.length

-- the records x of the buffer s
abbrev pub plots_in : List ℕ → Rows → List Record
plots_in s x = plots_from x.each.bytes s x.at x.count

-- they lie in the buffer and within the limit, their numbers rise, and each has an octagon
pub record RowsIn (s : List ℕ) (x : Rows) : Type 0 where
  pub within : x.at + x.each.bytes * x.count ≤ length s
  pub short : x.at + x.each.bytes * x.count ≤ sheet_limit
  pub ascending : Ascending HasOctagon 0 (plots_in s x)

-- those that are left where the first is taken
abbrev pub rows_left : Bool → Rows → Rows
rows_left taken x = cond taken (record { at = x.at + x.each.bytes; count = x.count - 1; each = x.each }) x

-- of the records rs and ts together the one that comes next was written at index `to` of u, which is then u'
pub record PutNext (u u' : List ℕ) (to : ℕ) (rs ts : List Record) : Type 0 where
  pub plot : Record
  pub next : merged rs ts ≡ plot ∷ merged (without_head (leads rs ts) rs) (without_head (leads ts rs) ts)
  pub put : u' ≡ splice u to (encoded (layout_of record_length) plot)
