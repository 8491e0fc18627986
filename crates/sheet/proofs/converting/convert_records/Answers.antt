-- `convert_records` meets its contract. Assumes nothing.
use mathlib.Core.Path.{sym, ◌∙◌}
use Rattle.sheet.proofs.Conversions.{back_stray, back_full, back_room, back_made}
use Rattle.sheet.proofs.converting.convert_records.Goals as goal

pub returns-then-has_stray : goal.returns-then-has_stray
returns-then-has_stray c =
    let a = c.args in
    let t = back_stray a.x a.u.now (sym c.has_stray.ensures ∙ c.if-has_stray.true) in
    record { result_value = t.0; u_after = t.1 }

pub returns-then-has_no_room : goal.returns-then-has_no_room
returns-then-has_no_room c =
    let a = c.args in
    let t = back_full a.x a.u.now (sym c.has_stray.ensures ∙ c.if-has_stray.false) (sym c.has_no_room.ensures ∙ c.if-has_no_room.true) in
    record { result_value = t.0; u_after = t.1 }

pub put_converted-requires : goal.put_converted-requires
put_converted-requires c =
    let a = c.args in
    let r = back_room a.x a.u.now (sym c.has_no_room.ensures ∙ c.if-has_no_room.false) in
    record { on_old_map = sym c.has_stray.ensures ∙ c.if-has_stray.false; in_bounds = r.0; short = r.1 }

pub returns : goal.returns
returns c =
    let a = c.args in
    let t = back_made a.x a.u.now (sym c.has_stray.ensures ∙ c.if-has_stray.false) (sym c.has_no_room.ensures ∙ c.if-has_no_room.false) _ c.put_converted.ensures in
    record { result_value = t.0; u_after = t.1 }
