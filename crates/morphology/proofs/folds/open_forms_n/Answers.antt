-- `open_forms_n` meets its contract: the refusal of n trims, or the sums of what they leave and n times the element's bounds. Assumes nothing.
use mathlib.Core.Path.{◌≡◌, refl, ◌∙◌, sym, ap, ap₂}
use Rattle.std.proofs.lemmas.Result.{err_from_is_err_and}
use Rattle.octagon.specs.Outcome.{accepted}
use Rattle.octagon.specs.NormalForm.{normalised}
use Rattle.octagon.specs.Answers.{octagon_of}
use Rattle.octagon.proofs.Ranges.{roomy_held}
use Rattle.morphology.specs.Operations.{sums, differences, fitting}
use Rattle.morphology.specs.Folds.{multiples, erosion_n}
use Rattle.morphology.proofs.Operands.{Accepted}
use Rattle.morphology.proofs.FoldedForms.{opened_sums, opened_form, opened_held}
use Rattle.morphology.proofs.Calls.{both_accepted, folds_taken}
use Rattle.morphology.proofs.Widths.{sums_folded_roomy, differences_folded_roomy}
use Rattle.morphology.proofs.folds.open_forms_n.Goals.{After-wide_differences, After-wide_sums, In_ok-left, Start}
use Rattle.morphology.proofs.folds.open_forms_n.Goals as goal

-- the operands are normalised
operands : (c : Start) → Accepted c.args.a.bounds c.args.b.bounds c.args.a.bounds c.args.b.bounds
operands c = record { of_p = c.args.a.is_normal; of_f = c.args.b.is_normal }

-- the differences as they are computed
differ : (c : After-wide_differences) → octagon_of c.wide_differences.result ≡ differences c.args.a.bounds (multiples c.args.n c.args.b.bounds)
differ c = c.wide_differences.ensures ∙ ap₂ differences c.widen.ensures c.multiples-folded.ensures

-- n trims, and what they leave
trimmed : (c : After-wide_differences) → fitting (normalised (octagon_of c.wide_differences.result)) ≡ erosion_n c.args.a.bounds c.args.b.bounds c.args.n
unfolding erosion_n
trimmed c = folds_taken _ _ c.requires (both_accepted _ (operands (search)) (ap (λ o. fitting (normalised o)) (differ c)))

left : (c : In_ok-left) → erosion_n c.args.a.bounds c.args.b.bounds c.args.n ≡ accepted c.in_ok-left.left.bounds
left c = sym (c.in_ok-left.ensures ∙ trimmed (search))

-- the sums of what they leave and n times the element's bounds
back : (c : After-wide_sums) → octagon_of c.wide_sums.result ≡ sums c.in_ok-left.left.bounds (multiples c.args.n c.args.b.bounds)
back c = c.wide_sums.ensures ∙ ap₂ sums c.widen-2.ensures c.multiples-folded.ensures

pub wide_differences-requires : goal.wide_differences-requires
wide_differences-requires c =
    rw (c.widen.ensures, c.multiples-folded.ensures) (roomy_held (differences_folded_roomy (operands (search)) _ c.requires))

pub fit_wide-requires : goal.fit_wide-requires
fit_wide-requires c = rw (differ c) (differences_folded_roomy (operands (search)) _ c.requires)

pub returns-in_err-left : goal.returns-in_err-left
returns-in_err-left c =
    let p = err_from_is_err_and c.from_residual.result c.from_residual.ensures.1 in
    rw (p.1, p.2, sym (c.in_err-left.ensures ∙ trimmed (search))) refl

pub wide_sums-requires : goal.wide_sums-requires
wide_sums-requires c =
    rw (c.widen-2.ensures, c.multiples-folded.ensures)
    (roomy_held (sums_folded_roomy (record { of_p = c.in_ok-left.left.is_normal; of_f = c.args.b.is_normal }) c.args.n c.requires))

pub narrow-opened-requires : goal.narrow-opened-requires
narrow-opened-requires c = rw (back c) (opened_held _ _ _ _ (left (search)) _ c.args.b.is_normal)

pub invariant_of-result : goal.invariant_of-result
invariant_of-result c =
    record { is_normal = rw (c.narrow-opened.ensures, back (search)) (opened_form _ _ _ _ (left (search)) _ c.args.b.is_normal) }

pub returns : goal.returns
returns c = ap accepted (c.narrow-opened.ensures ∙ back (search)) ∙ sym (opened_sums _ _ _ _ (left (search)) _ c.args.b.is_normal)
