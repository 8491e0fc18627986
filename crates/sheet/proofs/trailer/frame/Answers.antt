-- `frame` meets its contract. Assumes nothing.
use mathlib.Core.Path.{◌≡◌, sym, ap, ◌∙◌}
use mathlib.Core.Bool.{false}
use Rattle.sheet.specs.Checking.{is_bad_length, stated}
use Rattle.sheet.proofs.Frames.{length_refused, framed_stated}
use Rattle.sheet.proofs.trailer.frame.Goals as goal

pub returns-then-is_bad_length : goal.returns-then-is_bad_length
returns-then-is_bad_length c = sym (length_refused _ _ (sym c.is_bad_length.ensures ∙ c.if-is_bad_length.true))

pub returns : goal.returns
returns c =
    let passed : is_bad_length c.args.sheet.now c.args.len ≡ false = sym c.is_bad_length.ensures ∙ c.if-is_bad_length.false in
    c.state.ensures ∙ ap (stated _) c.read_trailer.ensures ∙ sym (framed_stated _ _ passed)
