-- `is_on_map` meets its contract. Assumes nothing.
use mathlib.Core.Path.{sym, ◌∙◌}
use borrow.Author.Tests.{ne_eqb}
use Rattle.sheet.specs.Layout.{county_length, map_limit}
use Rattle.sheet.proofs.layout.RecordLength.is_on_map.Goals as goal

pub returns-then-self-eq-COUNTY_RECORD : goal.returns-then-self-eq-COUNTY_RECORD
unfolding map_limit
returns-then-self-eq-COUNTY_RECORD c = rw c.if-self-eq-COUNTY_RECORD.true (sym c.requires)

pub returns : goal.returns
unfolding map_limit
returns c = c.is_within.ensures ∙ rw (ne_eqb c.args.self.bytes county_length c.if-self-eq-COUNTY_RECORD.false)
