-- `put_refused` meets its contract: a word and a number. Assumes nothing.
use mathlib.Core.List.{[], ◌∷◌}
use Rattle.records.specs.Text.{ascii}
use Rattle.report.specs.Decimal.{decimal}
use Rattle.report.specs.Lines.{spaced, refused_line}
use Rattle.report.proofs.Pages.{fits_first, fits_then, written_then}
use Rattle.report.proofs.page.Page.put_refused.Goals as goal

pub put_word-requires : goal.put_word-requires
unfolding refused_line
put_word-requires c = fits_first c.args.self.now (ascii "refused") (spaced (decimal c.args.number ∷ [])) c.requires

pub put_numbers-requires : goal.put_numbers-requires
unfolding refused_line
put_numbers-requires c = fits_then (spaced (decimal c.args.number ∷ [])) c.requires c.put_word.ensures

pub returns : goal.returns
unfolding refused_line
returns c = written_then c.put_word.ensures c.put_numbers.ensures
