-- `state` meets its contract. Assumes nothing.
use Rattle.sheet.specs.Checking.{stated}
use Rattle.sheet.proofs.trailer.state.Goals as goal

pub returns-then-is_record_length-z : goal.returns-then-is_record_length-z
unfolding stated
returns-then-is_record_length-z c = rw (rw c.is_record_length.ensures at c.if-is_record_length-z.true)

pub returns-then-distance-length : goal.returns-then-distance-length
unfolding stated
returns-then-distance-length c = rw (rw c.is_record_length.ensures at c.if-is_record_length-z.false, c.if-distance-length.true)

pub returns : goal.returns
unfolding stated
returns c = rw (rw c.is_record_length.ensures at c.if-is_record_length-z.false, c.if-distance-length.false)
