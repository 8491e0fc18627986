-- The records that are left of a sheet that was inspected: the first and the others, that they lie in their buffer, and those without the
-- first. Assumes nothing.
use mathlib.Core.Path.{◌≡◌, refl, sym, ap}
use mathlib.Core.Bool.{Bool, true, false}
use mathlib.Core.List.{List, [], ◌∷◌}
use Prim.Native.Nat.{ℕ, ◌+◌, ◌≤◌, ◌<◌}
use native.Mathlib.Omega.{arith}
use native.Mathlib.Nat.{mul-le-mul_right}
use lib.ListN.{length, drop}
use Rattle.records.specs.Parts.{part}
use Rattle.records.proofs.Rows.{mul_pred}
use Rattle.sheet.specs.declared.Record.{Record}
use Rattle.sheet.specs.declared.rows.Rows.{Rows}
use Rattle.sheet.specs.declared.stored.Records.{Records}
use Rattle.sheet.specs.Layout.{layout_of, map_limit, decoded}
use Rattle.sheet.specs.Order.{Ascending, next}
use Rattle.sheet.specs.Merging.{without_head}
use Rattle.sheet.specs.Sheets.{sheet_limit}
use Rattle.sheet.specs.Cases.{HasOctagon}
use Rattle.sheet.specs.Rows.{plots_in, RowsIn, rows_left}
use Rattle.sheet.proofs.Layouts.{shortest, tests_length}
use Rattle.sheet.proofs.Plots.{length_plots, plots_more, plots_none}
use Rattle.sheet.proofs.Surveys.{surveyed_passed, have_octagons}

-- what the records that the code passes on are known for
pub rows_in : (x : Records) → RowsIn x.bytes.now x.rows
rows_in x =
    let L = x.rows.each.bytes in
    record { within = x.within; short = x.short; ascending = have_octagons L (surveyed_passed (map_limit L) tt tt 0 (plots_in x.bytes.now x.rows) x.surveyed).0 }

-- the first record
abbrev pub head_of : List ℕ → Rows → Record
head_of s x = decoded (layout_of x.each.bytes) (part s x.at x.each.bytes)

module _ (s : List ℕ) (x : Rows) where
  pub rows_more : 0 < x.count → plots_in s x ≡ head_of s x ∷ plots_in s (rows_left true x)
  rows_more h = plots_more x.each.bytes s x.at x.count h

  pub rows_none : x.count ≤ 0 → plots_in s x ≡ []
  rows_none h = plots_none x.each.bytes s x.at x.count h

  pub rows_many : length (plots_in s x) ≡ x.count
  rows_many = length_plots x.each.bytes s x.at x.count

  module _ (k : RowsIn s x) where
    -- the first lies in the buffer
    pub head_within : 0 < x.count → (x.at + x.each.bytes ≤ length s) × (x.at + x.each.bytes ≤ sheet_limit)
    head_within h = (omega (arith, mul_pred x.each.bytes x.count h, k.within), omega (arith, mul_pred x.each.bytes x.count h, k.short))

    pub few_rows : x.count ≤ sheet_limit
    few_rows = omega (arith, k.short, mul-le-mul_right x.count (shortest x.each.bytes (tests_length x.each.bytes x.each.known)))

    pub head_octagon : 0 < x.count → HasOctagon (head_of s x)
    head_octagon h = go (rw (rows_more h) at k.ascending)
      where
        go : {rs : List Record} → Ascending HasOctagon 0 (head_of s x ∷ rs) → HasOctagon (head_of s x)
        go (next l q g) = q

  pub left_plots : (taken : Bool) → (taken ≡ true → 0 < x.count) → plots_in s (rows_left taken x) ≡ without_head taken (plots_in s x)
  left_plots false f = refl
  left_plots true f = sym (ap (drop 1) (rows_more (f refl)))
