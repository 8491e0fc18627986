-- `around` meets its contract: the radius decides, then the test on the even bounds. Assumes nothing.
use mathlib.Core.Path.{◌≡◌, sym, ap, ◌∙◌}
use Rattle.octagon.specs.Outcome.{accepted}
use Rattle.octagon.specs.NormalForm.{are_within_limit}
use Rattle.clearance.specs.Clearing.{with_slants, octagon_about}
use Rattle.clearance.proofs.Cases.{about}
use Rattle.clearance.proofs.Tested.{tested, tested_on, tested_off, about_held}
use Rattle.clearance.proofs.around.Goals.{After-are_on_map, After-slant_reach}
use Rattle.clearance.proofs.around.Goals as goal

-- what the test says
test : (c : After-are_on_map) → tested c.args.tree ≡ c.are_on_map.result
test c = sym (c.are_on_map.ensures ∙ ap (λ a. are_within_limit a.c0 a.c2 a.c4 a.c6) c.about-axes.ensures)

-- the bounds that are asked for are those of the definition
asked : (c : After-slant_reach) → let t = c.args.tree in with_slants c.about-axes.result t.x t.y c.slant_reach.result ≡ about t
unfolding octagon_about
asked c = rw (c.about-axes.ensures, c.slant_reach.ensures)

pub returns-then-not-are_on_map : goal.returns-then-not-are_on_map
returns-then-not-are_on_map c =
    sym (tested_off c.args.tree c.if-tree-gt-RADIUS_LIMIT.false (test (search) ∙ c.if-not-are_on_map.true))

pub with_slants-requires : goal.with_slants-requires
with_slants-requires c = rw (asked c) (about_held c.args.tree (test (search) ∙ c.if-not-are_on_map.false))

pub returns : goal.returns
returns c =
    ap accepted (c.with_slants.ensures ∙ asked (search))
    ∙ sym (tested_on c.args.tree c.if-tree-gt-RADIUS_LIMIT.false (test (search) ∙ c.if-not-are_on_map.false))
