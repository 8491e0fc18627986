-- `read_number` meets its contract. The invariant: v is the number of the bytes from index i on. Assumes nothing.
use Rattle.records.proofs.Steps.{NumberFrom}
use Rattle.sheet.proofs.numbers.read_number.Given as goal

abbrev pub invariant-loop-i : goal.invariant-loop-i
invariant-loop-i l = NumberFrom l.s l.at l.width l.i l.v
