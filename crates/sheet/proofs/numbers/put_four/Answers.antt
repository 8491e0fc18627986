-- `put_four` meets its contract. Assumes nothing.
use Rattle.records.proofs.Steps.{put_four}
use Rattle.sheet.proofs.numbers.put_four.Goals as goal

pub returns : goal.returns
returns c = put_four c.args.s.now c.args.at c.args.v c.requires
