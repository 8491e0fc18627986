-- What a check needs of the records before and after the one that is next: an outline that is accepted lies on the map, and records that a
-- survey passes are passed without the first. Assumes nothing.
use mathlib.Core.Path.{◌≡◌, refl, sym, ◌∙◌}
use mathlib.Core.Bool.{Bool, true, false, cond}
use mathlib.Core.List.{List, ◌∷◌}
use Prim.Native.Nat.{ℕ, ◌<◌}
use native.Mathlib.Omega.{arith}
use Rattle.octagon.specs.Octagon.{Octagon}
use Rattle.octagon.specs.Outcome.{accepted, refused, off_map}
use Rattle.octagon.specs.Cells.{limit}
use Rattle.octagon.specs.NormalForm.{is_within}
use Rattle.octagon.proofs.Outcomes.{accepted_not_refused}
use Rattle.outline.specs.declared.Outline.{Outline}
use Rattle.outline.specs.Tracing.{traced, traced_in}
use Rattle.outline.proofs.Tracings.{in_limit}
use Rattle.sheet.specs.declared.Record.{Record}
use Rattle.sheet.specs.declared.rows.Rows.{Rows}
use Rattle.sheet.specs.Order.{Ascending, next}
use Rattle.sheet.specs.Checking.{Surveyed}
use Rattle.sheet.specs.Rows.{plots_in, rows_left}
use Rattle.sheet.proofs.Merging.{ascending_from}
use Rattle.sheet.proofs.Surveys.{surveyed_when, surveyed_passed}
use Rattle.sheet.proofs.RowsLeft.{rows_more}

passed : {a : Octagon} (b : Bool) → cond b (accepted a) (refused off_map) ≡ accepted a → b ≡ true
passed true e = refl
passed false e = absurd (accepted_not_refused (sym e))

pub traced_within : (o : Outline) (a : Octagon) → traced o ≡ accepted a → is_within limit a ≡ true
unfolding traced_in
traced_within o a e = passed (is_within limit a) (rw e at (in_limit o ∙ e))

others : {P : Record → Type 0} {r : Record} {rs : List Record} → Ascending P 0 (r ∷ rs) → Ascending P 0 rs
others (next l q g) = ascending_from 0 (omega arith) g

pub surveyed_left : (m : ℕ) (s : List ℕ) (x : Rows) → 0 < x.count → Surveyed m (plots_in s x) → Surveyed m (plots_in s (rows_left true x))
surveyed_left m s x h e = surveyed_when m tt (others (rw (rows_more s x h) at (surveyed_passed m tt tt 0 (plots_in s x) e).0))
