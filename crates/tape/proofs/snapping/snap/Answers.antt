-- `snap` meets its contract: the nearest whole number of quarters is the cell, or the one before it. Assumes nothing.
use mathlib.Core.Path.{◌≡◌, sym, ◌∙◌}
use Prim.Native.Nat.{◌+◌}
use native.Mathlib.Omega.{arith}
use lib.IntN.{ℤ, pos, neg_ℤ, ◌+ℤ◌}
use lib.Signed.{◌≤ℤ◌}
use lib.Ieee.{le}
use mir.Syntax.{w32}
use mir.Val.{SFits, to_z, of_z}
use mir.Facts.{to_z-of_z}
use Rattle.integers.proofs.Parts.{up, dn, parts_le}
use Rattle.integers.proofs.Range.{near_fits, kept}
use Rattle.octagon.specs.Cells.{limit}
use Rattle.tape.specs.Snapping.{edge}
use Rattle.tape.proofs.Between.{Close, next_close, snaps_next, snaps_here}
use Rattle.tape.proofs.snapping.snap.Goals.{After-nearest-n, After-reaches}
use Rattle.tape.proofs.snapping.snap.Goals as goal

close : (c : After-nearest-n) → Close (c.nearest-n.result +ℤ pos 1)
close c = next_close c.args.e c.nearest-n.result c.requires c.nearest-n.ensures

fits : (z : ℤ) → Close z → SFits w32 z
fits z k = near_fits w32 (limit + 1) z (omega arith) k.under k.over

within : (z : ℤ) → Close z → (neg_ℤ (pos (limit + 1)) ≤ℤ z) × (z ≤ℤ pos (limit + 1))
unfolding up dn
within z k = (parts_le (neg_ℤ (pos (limit + 1))) z (omega (arith, k.over)), parts_le z (pos (limit + 1)) k.under)

-- ---- the test, of the number as it is read back

back : (c : After-nearest-n) → to_z w32 (of_z w32 c.nearest-n.result) ≡ c.nearest-n.result
back c = kept w32 c.nearest-n.type_inv

told : (c : After-reaches) → c.reaches.result ≡ le (edge (c.nearest-n.result +ℤ pos 1)) c.args.e
told c = simp (back c.before, to_z-of_z (fits _ (close c.before))) at c.reaches.ensures

pub overflow_add-n : goal.overflow_add-n
overflow_add-n c = simp (back c) (fits _ (close c))

pub reaches-requires : goal.reaches-requires
reaches-requires c = simp (back c, to_z-of_z (fits _ (close c))) (within _ (close c))

pub overflow_add-result : goal.overflow_add-result
overflow_add-result c =
    let n = (goal.at.overflow_add-result c).After-nearest-n in
    simp (back n) (fits _ (close n))

pub returns-then-reaches : goal.returns-then-reaches
returns-then-reaches c =
    let at = goal.at.returns-then-reaches c in
    let k = close at.After-nearest-n in
    simp (back at.After-nearest-n, to_z-of_z (fits _ k))
    (sym (snaps_next c.args.e c.nearest-n.result c.nearest-n.ensures k (sym (told at.After-reaches) ∙ c.if-reaches.true)))

pub returns-else-reaches : goal.returns-else-reaches
returns-else-reaches c =
    let at = goal.at.returns-else-reaches c in
    let k = close at.After-nearest-n in
    simp (back at.After-nearest-n)
    (sym (snaps_here c.args.e c.nearest-n.result c.nearest-n.ensures k (sym (told at.After-reaches) ∙ c.if-reaches.false)))
