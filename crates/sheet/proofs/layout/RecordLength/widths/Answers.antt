-- `widths` meets its contract. Assumes nothing.
use Rattle.sheet.specs.Layout.{layout_of}
use Rattle.sheet.proofs.layout.RecordLength.widths.Goals as goal

pub returns-then-self-eq-COUNTY_RECORD : goal.returns-then-self-eq-COUNTY_RECORD
unfolding layout_of
returns-then-self-eq-COUNTY_RECORD c = rw c.if-self-eq-COUNTY_RECORD.true
