-- `tally` meets its contract. The invariant: the records that are left decide, and those that were passed are counted. Assumes nothing.
use mathlib.Core.Path.{◌≡◌, sym, ap, ◌∙◌}
use Prim.Native.Nat.{◌+◌}
use native.Mathlib.Omega.{arith}
use lib.ListN.{length}
use Rattle.octagon.specs.Outcome.{accepted}
use Rattle.sheet.specs.Merging.{merged, leads, without_head}
use Rattle.sheet.specs.Stored.{plots_of}
use Rattle.sheet.proofs.Turns.{some_left, none_counted, leads_there, other_there, fewer_left, turn_counts, differ_now, differ_later, few_together, none_left, none_differ}
use Rattle.sheet.proofs.merge.tally.Goals.{After-left-y}
use Rattle.sheet.proofs.merge.tally.Goals as goal

-- what is left after a turn
turn : (c : After-left-y) → let l = c.loop-x in
    (plots_of c.left-x.result ≡ without_head (leads (plots_of l.x) (plots_of l.y)) (plots_of l.x)) × (plots_of c.left-y.result ≡ without_head (leads (plots_of l.y) (plots_of l.x)) (plots_of l.y))
turn c =
    let l = c.loop-x in
    (c.left-x.ensures ∙ ap (λ b. without_head b (plots_of l.x)) c.is_next-one.ensures, c.left-y.ensures ∙ ap (λ b. without_head b (plots_of l.y)) c.is_next-other.ensures)

counts : (c : After-left-y) → let l = c.loop-x in
    length (merged (plots_of l.x) (plots_of l.y)) ≡ length (merged (plots_of c.left-x.result) (plots_of c.left-y.result)) + 1
counts c = let l = c.loop-x in turn_counts l.x l.y (some_left _ _ c.loop-x-test.true) c.left-x.result c.left-y.result (turn c).0 (turn c).1

pub returns-then-heads_differ : goal.returns-then-heads_differ
returns-then-heads_differ c =
    let l = c.loop-x in
    rw (l.invariant.1 ∙ differ_now l.x l.y (sym c.heads_differ.ensures ∙ c.if-heads_differ.true))

pub left-x-requires : goal.left-x-requires
left-x-requires c e = let l = c.loop-x in leads_there l.x l.y (sym c.is_next-one.ensures ∙ e)

pub left-y-requires : goal.left-y-requires
left-y-requires c e = let l = c.loop-x in other_there l.x l.y (sym c.is_next-other.ensures ∙ e)

-- one more is counted, and no more than there are
pub overflow_add-all : goal.overflow_add-all
overflow_add-all c = omega (arith, c.loop-x.invariant.0, counts c, few_together c.args.a c.args.b)

pub loop-x-smaller : goal.loop-x-smaller
loop-x-smaller c = let l = c.loop-x in fewer_left l.x l.y (some_left _ _ c.loop-x-test.true) c.left-x.result c.left-y.result (turn c).0 (turn c).1

pub loop-x-preserved : goal.loop-x-preserved
loop-x-preserved c =
    let l = c.loop-x in
    let d = differ_later l.x l.y (some_left _ _ c.loop-x-test.true) c.left-x.result c.left-y.result (turn c).0 (turn c).1 (sym c.heads_differ.ensures ∙ c.if-heads_differ.false) in
    (omega (arith, l.invariant.0, counts c), l.invariant.1 ∙ d)

pub returns : goal.returns
returns c =
    let l = c.loop-x in
    let a = c.args in
    let z = none_counted _ _ c.loop-x-test.false in
    let n = ap length (none_left l.x l.y z.0 z.1) in
    let m : l.all ≡ length (merged (plots_of a.a) (plots_of a.b)) = omega (arith, l.invariant.0) in
    rw (l.invariant.1 ∙ none_differ l.x l.y z.0 z.1) (ap accepted m)
