-- `kx_sheet_insert` meets its contract. Assumes nothing.
use mathlib.Core.Path.{◌∙◌, ap}
use Rattle.outline.specs.declared.Outline.{Outline}
use Rattle.sheet.specs.declared.Record.{Record}
use Rattle.sheet.specs.Writing.{inserted, after_insert}
use Rattle.koxirmeta_c.specs.Calls.{fitted}
use Rattle.koxirmeta_c.specs.Sheets.{plot}
use Rattle.koxirmeta_c.proofs.Fitting.{right, wrong}
use Rattle.koxirmeta_c.proofs.sheets.kx_sheet_insert.Goals as goal

pub returns-then-start-sides : goal.returns-then-start-sides
unfolding plot fitted
returns-then-start-sides c =
    let a = c.args in
    let numbered : Outline → Record = λ o. record { number = a.number; outline = o; fee_row = a.fee_row } in
    let e = c.outline_in-outline.ensures in (
      right c.if-start-sides.true (c.insert.ensures.0 ∙ ap (λ o. inserted a.sheet.now a.len (numbered o)) e) c.give_value.ensures,
      rw c.if-start-sides.true (c.insert.ensures.1 ∙ ap (λ o. after_insert a.sheet.now a.len (numbered o)) e),
    )

pub returns : goal.returns
returns c = (wrong _ c.if-start-sides.false, rw c.if-start-sides.false)
