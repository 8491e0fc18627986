-- `put_merged` meets its contract. The invariant: the records that are left are still to be written. Assumes nothing.
use mathlib.Core.Path.{◌≡◌, sym, ap, ◌∙◌}
use mathlib.Core.List.{List, ◌∷◌}
use native.Mathlib.Omega.{arith}
use lib.ListN.{length}
use Rattle.records.specs.Parts.{splice}
use Rattle.records.proofs.Splices.{splice_nil}
use Rattle.sheet.specs.declared.Record.{Record}
use Rattle.sheet.specs.Layout.{record_length}
use Rattle.sheet.specs.Merging.{leads, without_head}
use Rattle.sheet.specs.Sheets.{rows_bytes}
use Rattle.sheet.specs.Stored.{plots_of}
use Rattle.sheet.proofs.Layouts.{record_is_length}
use Rattle.sheet.proofs.WrittenRows.{written_turn}
use Rattle.sheet.proofs.Turns.{some_left, none_counted, leads_there, other_there, fewer_left, some_counted, rest_is, none_left}
use Rattle.sheet.proofs.merge.put_merged.Goals.{After-left-y}
use Rattle.sheet.proofs.merge.put_merged.Goals as goal

-- what is left after a turn
turn : (c : After-left-y) → let l = c.loop-x in
    (plots_of c.left-x.result ≡ without_head (leads (plots_of l.x) (plots_of l.y)) (plots_of l.x)) × (plots_of c.left-y.result ≡ without_head (leads (plots_of l.y) (plots_of l.x)) (plots_of l.y))
turn c =
    let l = c.loop-x in
    (c.left-x.ensures ∙ ap (λ b. without_head b (plots_of l.x)) c.is_next-one.ensures, c.left-y.ensures ∙ ap (λ b. without_head b (plots_of l.y)) c.is_next-other.ensures)

-- there is room for one record
pub put_next-requires-clause-some_left : goal.put_next-requires-clause-some_left
put_next-requires-clause-some_left c =
    let l = c.loop-x in
    let some = some_left _ _ c.loop-x-test.true in
    (some, omega (arith, some_counted l.x l.y some, l.invariant.0, l.invariant.1))

pub left-x-requires : goal.left-x-requires
left-x-requires c e = let l = c.loop-x in leads_there l.x l.y (sym c.is_next-one.ensures ∙ e)

pub left-y-requires : goal.left-y-requires
left-y-requires c e = let l = c.loop-x in other_there l.x l.y (sym c.is_next-other.ensures ∙ e)

pub loop-x-smaller : goal.loop-x-smaller
loop-x-smaller c = let l = c.loop-x in fewer_left l.x l.y (some_left _ _ c.loop-x-test.true) c.left-x.result c.left-y.result (turn c).0 (turn c).1

pub loop-x-preserved : goal.loop-x-preserved
loop-x-preserved c =
    let l = c.loop-x in
    let p = c.put_next.ensures in
    let r = rest_is l.x l.y (some_left _ _ c.loop-x-test.true) c.left-x.result c.left-y.result (turn c).0 (turn c).1 in
    written_turn record_length record_is_length l.u _ _ l.o (length c.args.u.now) p.plot _ _ (p.next ∙ ap (λ (rs : List Record). p.plot ∷ rs) r) p.put l.invariant.0 l.invariant.1 l.invariant.2

pub returns : goal.returns
returns c =
    let l = c.loop-x in
    let z = none_counted _ _ c.loop-x-test.false in
    sym (splice_nil l.u l.o)
    ∙ ap (λ (rs : List Record). splice l.u l.o (rows_bytes record_length rs)) (sym (none_left l.x l.y z.0 z.1))
    ∙ l.invariant.2
