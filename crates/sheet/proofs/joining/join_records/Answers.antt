-- `join_records` meets its contract. Assumes nothing.
use mathlib.Core.Path.{sym, ◌∙◌}
use native.Mathlib.Omega.{arith}
use Rattle.std.proofs.lemmas.Result.{err_from_is_err_and}
use Rattle.sheet.proofs.Tallies.{tally_refused, tally_counts, tally_few, tally_full, tally_joins}
use Rattle.sheet.proofs.joining.join_records.Goals as goal

pub overflow_add-next : goal.overflow_add-next
overflow_add-next c = let a = c.args in omega (arith, tally_few a.a a.b a.u.now _ (sym c.in_ok-all.ensures))

pub overflow_add-next-2 : goal.overflow_add-next-2
overflow_add-next-2 c = let a = c.args in omega (arith, tally_few a.a a.b a.u.now _ (sym c.in_ok-all.ensures))

pub returns-then-has_no_room : goal.returns-then-has_no_room
returns-then-has_no_room c =
    let a = c.args in
    let t = tally_full a.a a.b a.u.now _ (sym c.in_ok-all.ensures) (sym c.has_no_room.ensures ∙ c.if-has_no_room.true) in
    record { result_value = t.0; u_after = t.1 }

pub put_joined-requires-clause-all_value : goal.put_joined-requires-clause-all_value
put_joined-requires-clause-all_value c = let a = c.args in tally_counts a.a a.b a.u.now _ (sym c.in_ok-all.ensures)

pub returns-in_err-all : goal.returns-in_err-all
returns-in_err-all c =
    let a = c.args in
    let t = tally_refused a.a a.b a.u.now _ (sym c.in_err-all.ensures) in
    let p = err_from_is_err_and c.from_residual.result c.from_residual.ensures.1 in rw (p.1, p.2) (record { result_value = t.0; u_after = t.1 })

pub returns : goal.returns
returns c =
    let a = c.args in
    let t = tally_joins a.a a.b a.u.now _ (sym c.in_ok-all.ensures) (sym c.has_no_room.ensures ∙ c.if-has_no_room.false) _ c.put_joined.ensures in
    record { result_value = t.0; u_after = t.1 }
