-- `number` meets its contract. Assumes nothing.
use mathlib.Core.Path.{◌∙◌}
use native.Mathlib.Omega.{arith}
use Rattle.sheet.proofs.Layouts.{shortest, tests_length}
use Rattle.sheet.proofs.Plots.{number_there}
use Rattle.sheet.proofs.encoding.StoredRecord.number.Goals as goal

pub read_four-requires : goal.read_four-requires
read_four-requires c =
    let r = c.args.self in
    omega (arith, r.inside, shortest r.each.bytes (tests_length _ r.each.known))

pub returns : goal.returns
returns c =
    let r = c.args.self in
    c.read_four.ensures ∙ number_there r.each.bytes (tests_length _ r.each.known) r.bytes.now r.at
