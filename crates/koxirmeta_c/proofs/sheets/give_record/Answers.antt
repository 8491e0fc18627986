-- `give_record` meets its contract: the two cases of what was fetched. Assumes nothing.
use mathlib.Core.Path.{◌≡◌, ap}
use mathlib.Core.List.{List}
use Prim.Native.Nat.{ℕ}
use lib.IntN.{ℤ}
use borrow.Author.Rules.{rules}
use Rattle.octagon.specs.Answers.{outcome}
use Rattle.koxirmeta_c.specs.Outlines.{outline_parts}
use Rattle.koxirmeta_c.proofs.Fitting.{gives, keeps, wrong}
use Rattle.koxirmeta_c.proofs.sheets.give_record.Goals as goal

pub returns-then-start-sides : goal.returns-then-start-sides
returns-then-start-sides c = wrong _ (search rules)

pub returns-in-Ok : goal.returns-in-Ok
returns-in-Ok c =
    let r = c.in-Ok.r in
    let e : ◌≡◌ {A = List ℤ × List ℕ} (c.copy_from_slice.new.self, c.copy_from_slice-in-Ok.new.self) (outline_parts r.outline) =
    rw (c.copy_from_slice.ensures.after, c.copy_from_slice-in-Ok.ensures.after) c.parts_of.ensures in
    gives (search rules) (ap outcome c.in-Ok.is) (ap (λ (q : List ℤ × List ℕ). (r.number, q.0, q.1, r.fee_row)) e)

pub returns-in-Err : goal.returns-in-Err
returns-in-Err c = rw c.number.ensures (keeps (search rules) (ap outcome c.in-Err.is))
