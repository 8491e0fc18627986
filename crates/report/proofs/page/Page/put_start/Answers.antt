-- `put_start` meets its contract: a number, and two signed numbers after spaces. Assumes nothing.
use mathlib.Core.Path.{refl}
use mathlib.Core.List.{◌∷◌, ◌++◌}
use Prim.Native.Nat.{ℕ}
use lib.IntN.{ℤ}
use mir.Facts.{to_z-of_z}
use Rattle.report.specs.declared.page.Page.{Page}
use Rattle.report.specs.Decimal.{decimal, signed_decimal}
use Rattle.report.specs.Lines.{space, row_start}
use Rattle.report.specs.Pages.{HasRoom, Written}
use Rattle.report.proofs.Pages.{ToWrite, to_write_all, to_write_more, to_write_room}
use Rattle.report.proofs.page.Page.put_start.Goals as goal

-- what is left before the number, after it, and after the first signed number
module _ (p : Page) (n : ℕ) (i j : ℤ) (f : HasRoom p (row_start n i j)) where
  left0 : ToWrite p (row_start n i j) p (decimal n ++ ((space ∷ signed_decimal i) ++ (space ∷ signed_decimal j)))
  unfolding row_start
  left0 = to_write_all p (row_start n i j) _ refl f

  left1 : {q : Page} → Written p (decimal n) q → ToWrite p (row_start n i j) q ((space ∷ signed_decimal i) ++ (space ∷ signed_decimal j))
  left1 a = to_write_more (decimal n) _ left0 a

  left2 : {q r : Page} → Written p (decimal n) q → Written q (space ∷ signed_decimal i) r → ToWrite p (row_start n i j) r (space ∷ signed_decimal j)
  left2 a b = to_write_more (space ∷ signed_decimal i) _ (left1 a) b

pub put_decimal-requires : goal.put_decimal-requires
put_decimal-requires c = let a = c.args in to_write_room (decimal a.number) _ (left0 a.self.now a.number a.i a.j c.requires)

pub put_integer-requires : goal.put_integer-requires
put_integer-requires c =
    let a = c.args in
    rw (to_z-of_z c.ranges.i) (to_write_room (space ∷ signed_decimal a.i) _ (left1 a.self.now a.number a.i a.j c.requires c.put_decimal.ensures))

pub put_integer-requires-2 : goal.put_integer-requires-2
put_integer-requires-2 c =
    let a = c.args in
    rw (to_z-of_z c.ranges.j) (left2 a.self.now a.number a.i a.j c.requires c.put_decimal.ensures (rw (to_z-of_z c.ranges.i) at c.put_integer.ensures)).fits

pub returns : goal.returns
returns c =
    let a = c.args in
    (left2 a.self.now a.number a.i a.j c.requires c.put_decimal.ensures (rw (to_z-of_z c.ranges.i) at c.put_integer.ensures)).rest
    (rw (to_z-of_z c.ranges.j) at c.put_integer-2.ensures)
