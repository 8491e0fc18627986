-- `admit` meets its contract. Assumes nothing.
use mathlib.Core.Path.{sym, ap, ◌∙◌}
use Rattle.octagon.specs.Outcome.{accepted}
use Rattle.sheet.specs.Stored.{said}
use Rattle.sheet.proofs.Inserts.{admit_number, admit_room, admit_good, next_length_of}
use Rattle.sheet.proofs.inserting.admit.Goals as goal

pub returns-then-v-has_number : goal.returns-then-v-has_number
returns-then-v-has_number c =
    let x = c.args.x in
    rw (admit_number x.bytes.now c.args.r (said x) (rw c.has_number.ensures at c.if-v-has_number.true))

pub returns-then-has_no_room : goal.returns-then-has_no_room
returns-then-has_no_room c =
    let x = c.args.x in
    let l = next_length_of x c.args.r in
    rw (admit_room x.bytes.now c.args.r (said x) (rw c.has_number.ensures at c.if-v-has_number.false) (rw l (sym c.has_no_room.ensures ∙ c.if-has_no_room.true)))

pub returns : goal.returns
returns c =
    let x = c.args.x in
    let l = next_length_of x c.args.r in
    rw (admit_good x.bytes.now c.args.r (said x) (rw c.has_number.ensures at c.if-v-has_number.false) (rw l (sym c.has_no_room.ensures ∙ c.if-has_no_room.false)))
    (ap accepted (sym l))
