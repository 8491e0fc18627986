-- `one_cell` meets its contract: each bound fits, so it is kept. Assumes nothing.
use mathlib.Core.Path.{◌≡◌, refl, ap, ◌∙◌}
use lib.IntN.{ℤ, pos, neg_ℤ, ◌+ℤ◌, +ℤ_idl}
use mir.Syntax.{w32}
use mir.Val.{to_z, of_z}
use mir.Facts.{to_z-of_z}
use Rattle.integers.proofs.Range.{negated}
use Rattle.octagon.specs.Widths.{Held}
use Rattle.octagon.proofs.Fields.{stored}
use Rattle.octagon.specs.OneCell.{one_cell}
use Rattle.tape.proofs.hull.one_cell.Goals.{Start}
use Rattle.tape.proofs.hull.one_cell.Goals as goal

-- the cell as it is read back
abbrev back : ℤ → ℤ
back z = to_z w32 (of_z w32 z)

same_cell : (c : Start) → one_cell (back c.args.x) (back c.args.y) ≡ one_cell c.args.x c.args.y
same_cell c = rw (to_z-of_z c.ranges.x, to_z-of_z c.ranges.y) refl

fits : (c : Start) → Held w32 (one_cell (back c.args.x) (back c.args.y))
fits c = rw (same_cell c) c.requires

-- a number after a negated one
after : (c : Start) (z : ℤ) → back (pos 0 +ℤ neg_ℤ (back c.args.x)) +ℤ z ≡ neg_ℤ (back c.args.x) +ℤ z
after c z = ap (λ (y : ℤ). y +ℤ z) (negated (fits c).held6)

pub returns : goal.returns
returns c =
    let e = same_cell c in
    stored w32 c.requires
    (+ℤ_idl _ ∙ ap (λ o. o.c0) e)
    (ap (λ o. o.c1) e)
    refl
    (ap (λ o. o.c3) e)
    refl
    (after c _ ∙ ap (λ o. o.c5) e)
    (+ℤ_idl _ ∙ ap (λ o. o.c6) e)
    (after c _ ∙ ap (λ o. o.c7) e)
