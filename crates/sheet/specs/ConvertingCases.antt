-- Each answer of `convert` with what it says of the arguments, in the words and the order of document 02 (U10). proofs/ConvertCases.antt shows
-- that each is given exactly where its case holds. Assumes nothing.
use Rattle.std.specs.Prelude.{List, ℕ}
use Rattle.octagon.specs.Outcome.{Outcome, accepted, refused}
use Rattle.octagon.specs.Cells.{Leaves}
use Rattle.outline.specs.Walk.{InsideWalk}
use Rattle.sheet.specs.declared.Record.{Record}
use Rattle.sheet.specs.Answers.{no_room, off_old_map}
use Rattle.sheet.specs.Layout.{old_limit}
use Rattle.sheet.specs.Cases.{CheckCase, IsFetched}
use Rattle.sheet.specs.WritingCases.{Exceeds}
use Rattle.sheet.specs.Converting.{converted_length}

-- "a plot to be written back leaves the old map": some cell of one of the plots lies off the map from -16,000 to 16,000
pub record StrayPlot (s : List ℕ) (len : ℕ) : Type 0 where
  pub plot : Record
  pub in_sheet : IsFetched s len plot
  pub leaves_old_map : Leaves old_limit (InsideWalk plot.outline)

-- the check's refusals; then 21; then 12 when the new length exceeds the second buffer or 65,536; else the new length
pub data ConvertCase (s : List ℕ) (len : ℕ) (u : List ℕ) : Outcome ℕ → Type 0 where
  sheet_refused : {e : ℕ} → CheckCase s len (refused e) → ConvertCase s len u (refused e)
  strayed : {c : ℕ} → CheckCase s len (accepted c) → StrayPlot s len → ConvertCase s len u (refused off_old_map)
  too_long : {c : ℕ} → CheckCase s len (accepted c) → ¬ (StrayPlot s len) → Exceeds u (converted_length s len c) → ConvertCase s len u (refused no_room)
  converts : {c : ℕ} → CheckCase s len (accepted c) → ¬ (StrayPlot s len) → ¬ (Exceeds u (converted_length s len c))
      → ConvertCase s len u (accepted (converted_length s len c))
