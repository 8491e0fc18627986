-- `give` meets its contract. Assumes nothing.
use Rattle.koxirmeta_c.specs.Calls.{bounds_of}
use Rattle.koxirmeta_c.proofs.Mapped.{hands_mapped}
use Rattle.koxirmeta_c.proofs.octagons.give.Goals as goal

pub returns : goal.returns
returns c = hands_mapped bounds_of _ c.args.answer c.map.result c.map.ensures.cases c.give_array.ensures
