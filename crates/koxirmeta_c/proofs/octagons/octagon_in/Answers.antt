-- `octagon_in` meets its contract: eight reads, or none. Assumes nothing.
use native.Mathlib.Omega.{arith}
use borrow.Author.Tests.{eq-eqb, ne_eqb}
use lib.ListN.{length}
use mir.Syntax.{w32}
use Rattle.octagon.specs.Widths.{Held}
use Rattle.octagon.proofs.Fields.{back_is}
use Rattle.koxirmeta_c.specs.Calls.{bounded, octagon_in}
use Rattle.koxirmeta_c.proofs.octagons.octagon_in.Goals as goal

pub returns-in_default : goal.returns-in_default
unfolding octagon_in
returns-in_default c = rw (ne_eqb (length c.args.s.now) 8 (λ e. omega arith))

pub returns-in_default-2 : goal.returns-in_default-2
unfolding octagon_in
returns-in_default-2 c = rw (ne_eqb (length c.args.s.now) 8 (λ e. omega arith))

pub returns : goal.returns
unfolding octagon_in
returns c =
    let o = bounded c.args.s.now in
    let held : Held w32 o = record {
      held0 = record { sfits = omega arith };
      held1 = record { sfits = omega arith };
      held2 = record { sfits = omega arith };
      held3 = record { sfits = omega arith };
      held4 = record { sfits = omega arith };
      held5 = record { sfits = omega arith };
      held6 = record { sfits = omega arith };
      held7 = record { sfits = omega arith };
    } in
    rw (eq-eqb (length c.args.s.now) 8 (omega arith)) (back_is w32 o held)
