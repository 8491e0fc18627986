-- `put_digits` calls itself on a smaller number. Assumes nothing.
use Rattle.report.proofs.digits.+put_digits.Given as goal

abbrev pub decreases-put_digits : goal.decreases-put_digits
decreases-put_digits l = l.n
