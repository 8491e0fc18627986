-- What is written is bytes, and so is a buffer of bytes with a sheet written at its start. Assumes nothing.
use mathlib.Core.List.{List, [], ◌∷◌}
use Prim.Native.Nat.{ℕ, ◌+◌}
use native.Mathlib.Omega.{arith}
use lib.ListN.{length}
use Rattle.records.specs.Numbers.{AreBytes}
use Rattle.records.specs.Parts.{splice}
use Rattle.records.proofs.Numbers.{drop_bytes, append_bytes}
use Rattle.records.proofs.Fields.{packed_bytes}
use Rattle.sheet.specs.declared.Record.{Record}
use Rattle.sheet.specs.Layout.{layout_of, encoded}
use Rattle.sheet.specs.Trailer.{trailer_layout, trailer_values, trailer}
use Rattle.sheet.specs.Sheets.{Sheet, rows_bytes, records_bytes, sheet_bytes}
use Rattle.sheet.specs.Writing.{laid_over}

module _ (L : ℕ) where
  rows_are_bytes : (rs : List Record) → AreBytes (rows_bytes L rs)
  unfolding encoded
  rows_are_bytes [] i = omega arith
  rows_are_bytes (r ∷ rs) i = append_bytes (encoded (layout_of L) r) (rows_bytes L rs) (packed_bytes (layout_of L) _) (rows_are_bytes rs) i

  sheet_is_bytes : (z : Sheet) → AreBytes z.heading → AreBytes (sheet_bytes L z)
  unfolding sheet_bytes records_bytes trailer
  sheet_is_bytes z h =
      append_bytes z.heading _ h (append_bytes (rows_bytes L z.plots) _ (rows_are_bytes z.plots) (packed_bytes trailer_layout (trailer_values L (length z.plots))))

  pub laid_bytes : (u : List ℕ) (z : Sheet) → AreBytes u → AreBytes z.heading → AreBytes (laid_over L u z)
  unfolding laid_over splice
  laid_bytes u z a h = append_bytes (sheet_bytes L z) _ (sheet_is_bytes z h) (drop_bytes (0 + length (sheet_bytes L z)) u a)
