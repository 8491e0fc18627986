-- `short_widths` meets its contract. Assumes nothing.
use mathlib.Core.Path.{◌≡◌, refl}
use Prim.Native.Nat.{ℕ}
use Rattle.sheet.specs.Layout.{base_layout, fee_length, county_length, IsRecordLength, base, fee, county, layout_of}
use Rattle.sheet.proofs.Layouts.{tests_length}
use Rattle.sheet.proofs.layout.RecordLength.short_widths.Goals as goal

-- a shorter record that has no fee row is document 01's
other : (L : ℕ) → IsRecordLength L → (L ≡ county_length → ⊥) → (L ≡ fee_length → ⊥) → base_layout ≡ layout_of L
unfolding layout_of
other _ base m n = refl
other _ fee m n = absurd (n refl)
other _ county m n = absurd (m refl)

pub returns-then-self-eq-FEE_RECORD : goal.returns-then-self-eq-FEE_RECORD
unfolding layout_of
returns-then-self-eq-FEE_RECORD c = rw c.if-self-eq-FEE_RECORD.true

pub returns-else-self-eq-FEE_RECORD : goal.returns-else-self-eq-FEE_RECORD
returns-else-self-eq-FEE_RECORD c = other c.args.self.bytes (tests_length _ c.args.self.known) c.requires c.if-self-eq-FEE_RECORD.false
