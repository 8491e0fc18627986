-- `is_next` meets its contract. Assumes nothing.
use mathlib.Core.Path.{sym}
use native.Mathlib.Omega.{arith}
use Rattle.sheet.proofs.Turns.{leads_none, leads_alone, leads_lower}
use Rattle.sheet.proofs.stored.Records.is_next.Goals as goal

pub returns-then-self-eq0 : goal.returns-then-self-eq0
returns-then-self-eq0 c = let a = c.args in sym (leads_none a.self a.other (omega arith))

pub returns-then-other-eq0 : goal.returns-then-other-eq0
returns-then-other-eq0 c = let a = c.args in sym (leads_alone a.self a.other (omega arith) (omega arith))

pub returns : goal.returns
returns c =
    let a = c.args in
    rw (c.number.ensures, c.number-2.ensures, c.first.ensures, c.first-2.ensures) (sym (leads_lower a.self a.other (omega arith) (omega arith)))
