-- `inspect` meets its contract. Assumes nothing.
use mathlib.Core.Path.{sym, ◌∙◌}
use native.Mathlib.Omega.{arith}
use Rattle.std.proofs.lemmas.Result.{err_from_is_err_and}
use Rattle.sheet.specs.Layout.{map_limit}
use Rattle.sheet.specs.Sheets.{sheet_of}
use Rattle.sheet.proofs.Frames.{framing}
use Rattle.sheet.proofs.Surveys.{all_refused, all_passed}
use Rattle.sheet.proofs.Checks.{inspected_frame, inspected_records, parsed_refused, parsed_sheet}
use Rattle.sheet.proofs.checking.inspect.Goals as goal

pub returns-in_err-z-clause-sheet : goal.returns-in_err-z-clause-sheet
returns-in_err-z-clause-sheet c =
    let s = c.args.sheet.now in
    let p = err_from_is_err_and c.from_residual.result c.from_residual.ensures.1 in rw (p.1, p.2) (sym (parsed_refused s c.args.len (inspected_frame s c.args.len (sym c.in_err-z.ensures))))

pub all_rows-rows-requires : goal.all_rows-rows-requires
all_rows-rows-requires c =
    let k = framing c.args.sheet.now c.args.len c.in_ok-z.z (sym c.in_ok-z.ensures) in
    (omega (arith, k), k.known)

pub survey-requires : goal.survey-requires
survey-requires c =
    let r = c.all_rows-rows.ensures in
    rw (r.at_is, r.count_is, r.each_is) (omega (arith, framing c.args.sheet.now c.args.len c.in_ok-z.z (sym c.in_ok-z.ensures)))

pub returns-in_err-survey-clause-sheet : goal.returns-in_err-survey-clause-sheet
returns-in_err-survey-clause-sheet c =
    let a = c.args in
    let z = c.in_ok-z.z in
    let r = c.all_rows-rows.ensures in
    let e = all_refused (map_limit z.length) z (sheet_of a.sheet.now a.len z).plots (rw (r.at_is, r.count_is, r.each_is) at (sym c.in_err-survey.ensures)) in
    let p = err_from_is_err_and c.from_residual-in_err-survey.result c.from_residual-in_err-survey.ensures.1 in
    rw (p.1, p.2) (sym (parsed_refused a.sheet.now a.len (inspected_records a.sheet.now a.len (sym c.in_ok-z.ensures) ∙ e)))

pub invariant_of-result : goal.invariant_of-result
invariant_of-result c =
    let a = c.args in
    let r = c.all_rows-rows.ensures in
    let f = framing a.sheet.now a.len c.in_ok-z.z (sym c.in_ok-z.ensures) in
    let h = f.holds in
    record {
      within = rw (r.at_is, r.count_is, r.each_is) (omega (arith, f.distance_is));
      short = rw (r.at_is, r.count_is, r.each_is) (omega (arith, f.distance_is));
      surveyed = sym c.in_ok-survey.ensures;
    }

pub returns-clause-sheet : goal.returns-clause-sheet
returns-clause-sheet c =
    let a = c.args in
    let z = c.in_ok-z.z in
    let r = c.all_rows-rows.ensures in
    let e = all_passed (map_limit z.length) z (sheet_of a.sheet.now a.len z).plots (rw (r.at_is, r.count_is, r.each_is) at (sym c.in_ok-survey.ensures)) in
    rw (r.at_is, r.count_is, r.each_is) (sym (parsed_sheet a.sheet.now a.len (inspected_records a.sheet.now a.len (sym c.in_ok-z.ensures) ∙ e)))
