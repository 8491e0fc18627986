-- The loop of `put_numbers`: the numbers from the index on and the newline are left to write. Assumes nothing.
use Rattle.report.proofs.Pages.{ToWrite}
use Rattle.report.proofs.Numbers.{words}
use Rattle.report.proofs.page.Page.put_numbers.Given as goal

abbrev pub invariant-loop-value : goal.invariant-loop-value
invariant-loop-value l = ToWrite l.initial.self (words l.values 0) l.self (words l.values l.value-index)
