-- `is_stray` meets its contract. Assumes nothing.
use mathlib.Core.Path.{sym, ap, ◌∙◌}
use mathlib.Core.Bool.{not}
use Rattle.sheet.specs.declared.Record.{Record}
use Rattle.sheet.specs.StoredRecords.{plot_of}
use Rattle.sheet.proofs.Strays.{stray_refused, stray_accepted}
use Rattle.sheet.proofs.converting.is_stray.Goals as goal

pub returns-in-Ok : goal.returns-in-Ok
returns-in-Ok c = ap not c.is_within.ensures ∙ stray_accepted (plot_of c.args.r) (ap (λ (r : Record). r.outline) c.plot.ensures) (sym c.in-Ok.ensures)

pub returns-in-Err : goal.returns-in-Err
returns-in-Err c = stray_refused (plot_of c.args.r) (ap (λ (r : Record). r.outline) c.plot.ensures) (sym c.in-Err.ensures)
