-- `judge` meets its contract. Assumes nothing.
use mathlib.Core.Path.{◌≡◌, sym, ap, ◌∙◌}
use Rattle.std.proofs.lemmas.Result.{err_from_is_err_and}
use Rattle.sheet.specs.declared.Record.{Record}
use Rattle.sheet.proofs.Surveys.{judged_number, judged_outline, judged_off, judged_good}
use Rattle.sheet.proofs.SurveyedRows.{traced_within}
use Rattle.sheet.proofs.checking.judge.Goals as goal

number : {r t : Record} → r ≡ t → r.number ≡ t.number
number = ap (λ (r : Record). r.number)

outline : {r t : Record} → r ≡ t → r.outline ≡ t.outline
outline = ap (λ (r : Record). r.outline)

pub returns-then-p-before : goal.returns-then-p-before
returns-then-p-before c = sym (judged_number _ _ _ _ (number c.plot-p.ensures) c.if-p-before.true)

pub returns-in_err-a : goal.returns-in_err-a
returns-in_err-a c =
    let e = c.plot-p.ensures in
    let p = err_from_is_err_and c.from_residual.result c.from_residual.ensures.1 in
    rw (p.1, p.2) (sym (judged_outline _ _ _ _ (number e) c.if-p-before.false (outline e) (sym c.in_err-a.ensures)))

pub is_on_map-requires : goal.is_on_map-requires
is_on_map-requires c = traced_within _ _ (sym c.in_ok-a.ensures)

pub returns-then-not-is_on_map : goal.returns-then-not-is_on_map
returns-then-not-is_on_map c =
    let e = c.plot-p.ensures in
    sym (judged_off _ _ _ _ (number e) c.if-p-before.false (outline e) (sym c.in_ok-a.ensures) (sym c.is_on_map.ensures ∙ c.if-not-is_on_map.true))

pub returns : goal.returns
returns c =
    let e = c.plot-p.ensures in
    sym (judged_good _ _ _ _ (number e) c.if-p-before.false (outline e) (sym c.in_ok-a.ensures) (sym c.is_on_map.ensures ∙ c.if-not-is_on_map.false))
