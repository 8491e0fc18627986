-- `start` meets its contract. Assumes nothing.
use mathlib.Core.Path.{◌∙◌}
use native.Mathlib.Omega.{arith}
use Rattle.sheet.proofs.Starts.{start_long, start_full, start_made, start_trailer}
use Rattle.sheet.proofs.start.Goals as goal

pub returns-then-heading : goal.returns-then-heading
returns-then-heading c = start_long _ _ (omega arith)

pub returns-then-sheet-next : goal.returns-then-sheet-next
returns-then-sheet-next c = start_full _ _ (omega arith) (omega arith)

pub returns : goal.returns
returns c =
    let a = c.args in
    let m = start_made a.sheet.now a.heading (omega arith) (omega arith) in
    (m.0, c.put_trailer.ensures ∙ start_trailer a.sheet.now a.heading (omega arith) ∙ m.1)
