-- `put_numbers` meets its contract: each turn puts one number, and then the newline is left. Assumes nothing.
use Rattle.report.proofs.Numbers.{number_more, numbers_end}
use Rattle.report.proofs.page.Page.put_numbers.Goals as goal

pub loop-value-preserved : goal.loop-value-preserved
loop-value-preserved c = number_more c.args.values.now c.loop-value.value-index c.loop-value-test.true c.loop-value.invariant c.put_number.ensures

pub returns : goal.returns
returns c = (numbers_end c.args.values.now c.loop-value.value-index c.loop-value-test.false c.loop-value.invariant).rest c.put_byte.ensures
