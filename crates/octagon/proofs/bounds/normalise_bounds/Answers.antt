-- `normalise_bounds` meets its contract: the two steps to the normal form fit their widths, and each test gives its case. Assumes nothing.
use mathlib.Core.Path.{◌≡◌, ◌∙◌, ap}
use mathlib.Core.Bool.{true, false}
use borrow.Author.Rules.{rules}
use Rattle.octagon.specs.NormalForm.{tight_odd, normal_form, has_cell, is_on_map, placed, normalised}
use Rattle.octagon.specs.Answers.{octagon_of}
use Rattle.octagon.proofs.Ranges.{roomy_even, roomy_form}
use Rattle.octagon.proofs.Normalising.{form_held}
use Rattle.octagon.proofs.bounds.normalise_bounds.Goals.{After-tighten_odd-b}
use Rattle.octagon.proofs.bounds.normalise_bounds.Goals as goal

-- what the two steps give
is_form : (c : After-tighten_odd-b) → octagon_of c.tighten_odd-b.result ≡ normal_form (octagon_of c.args.w)
unfolding normal_form
is_form c = c.tighten_odd-b.ensures ∙ ap tight_odd c.tighten_even.ensures

pub tighten_odd-b-requires : goal.tighten_odd-b-requires
tighten_odd-b-requires c = rw c.tighten_even.ensures (roomy_even (octagon_of c.args.w) c.requires)

pub has_cell-requires : goal.has_cell-requires
has_cell-requires c = rw (is_form (search)) (roomy_form (octagon_of c.args.w) c.requires)

pub returns-then-not-has_cell : goal.returns-then-not-has_cell
unfolding normalised
returns-then-not-has_cell c =
    let t : After-tighten_odd-b = search in
    let h : has_cell (octagon_of c.tighten_odd-b.result) ≡ false = search rules in
    rw (← is_form t, h)

pub returns-then-not-is_on_map : goal.returns-then-not-is_on_map
unfolding normalised placed
returns-then-not-is_on_map c =
    let t : After-tighten_odd-b = search in
    let h : has_cell (octagon_of c.tighten_odd-b.result) ≡ true = search rules in
    let m : is_on_map (octagon_of c.tighten_odd-b.result) ≡ false = search rules in
    rw (← is_form t, h, m)

pub narrow-requires : goal.narrow-requires
narrow-requires c =
    let t : After-tighten_odd-b = search in
    let h : has_cell (octagon_of c.tighten_odd-b.result) ≡ true = search rules in
    let m : is_on_map (octagon_of c.tighten_odd-b.result) ≡ true = search rules in
    rw (is_form t) (form_held (octagon_of c.args.w) (rw (is_form t) at h) (rw (is_form t) at m))

pub returns : goal.returns
unfolding normalised placed
returns c =
    let t : After-tighten_odd-b = search in
    let h : has_cell (octagon_of c.tighten_odd-b.result) ≡ true = search rules in
    let m : is_on_map (octagon_of c.tighten_odd-b.result) ≡ true = search rules in
    rw (← is_form t, h, m, c.narrow.ensures)
