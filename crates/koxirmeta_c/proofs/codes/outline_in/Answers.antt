-- `outline_in` meets its contract: ten reads. Assumes nothing.
use native.Mathlib.Omega.{arith}
use lib.IntN.{pos}
use lib.ListN.{get_or}
use mir.Syntax.{w32}
use mir.Val.{SFits}
use mir.Facts.{to_z-of_z}
use Rattle.koxirmeta_c.specs.Outlines.{outline_in}
use Rattle.koxirmeta_c.proofs.codes.outline_in.Goals as goal

pub returns : goal.returns
unfolding outline_in
returns c =
    let s = c.args.start.now in
    let i : SFits w32 (get_or s 0 (pos 0)) = record { sfits = omega arith } in
    let j : SFits w32 (get_or s 1 (pos 0)) = record { sfits = omega arith } in
    rw (to_z-of_z i, to_z-of_z j)
