-- `heads_differ` meets its contract. Assumes nothing.
use mathlib.Core.Path.{sym, ◌∙◌}
use native.Mathlib.Omega.{arith}
use borrow.Author.Tests.{eq-eqb}
use Rattle.sheet.proofs.Merging.{not_differ}
use Rattle.sheet.proofs.Turns.{differ_none, differ_alone, differ_heads}
use Rattle.sheet.proofs.stored.Records.heads_differ.Goals as goal

pub returns-then-self-eq0 : goal.returns-then-self-eq0
returns-then-self-eq0 c = let a = c.args in sym (differ_none a.self a.other (omega arith))

pub returns-then-other-eq0 : goal.returns-then-other-eq0
returns-then-other-eq0 c = let a = c.args in sym (differ_alone a.self a.other (omega arith) (omega arith))

-- the numbers differ, or the records are compared whole
pub returns-then-number : goal.returns-then-number
returns-then-number c =
    let a = c.args in
    sym (differ_heads a.self a.other (omega arith) (omega arith) ∙ not_differ _ _ (rw (c.number.ensures, c.number-2.ensures, c.first-r.ensures, c.first-t.ensures) at c.if-number.true))

pub returns : goal.returns
returns c =
    let a = c.args in
    sym (differ_heads a.self a.other (omega arith) (omega arith)
    ∙ rw (eq-eqb _ _ (rw (c.number.ensures, c.number-2.ensures, c.first-r.ensures, c.first-t.ensures) at c.if-number.false), ← c.first-r.ensures, ← c.first-t.ensures, ← c.is_same.ensures))
