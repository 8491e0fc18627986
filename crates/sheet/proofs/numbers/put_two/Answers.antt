-- `put_two` meets its contract. Assumes nothing.
use Rattle.records.proofs.Steps.{put_two}
use Rattle.sheet.proofs.numbers.put_two.Goals as goal

pub returns : goal.returns
returns c = put_two c.args.s.now c.args.at c.args.v c.requires
