-- `put_last` meets its contract: five words, one after the other. Assumes nothing.
use mathlib.Core.Path.{refl}
use mathlib.Core.List.{List, [], ◌∷◌, ◌++◌}
use Prim.Native.Nat.{ℕ}
use Rattle.records.specs.Text.{ascii}
use Rattle.report.specs.declared.page.Page.{Page}
use Rattle.report.specs.Decimal.{decimal}
use Rattle.report.specs.Lines.{space, newline, last_line}
use Rattle.report.specs.Pages.{HasRoom, Written}
use Rattle.report.proofs.Pages.{ToWrite, to_write_all, to_write_more, to_write_room}
use Rattle.report.proofs.page.Page.put_last.Goals as goal

-- the words after the first, after the second, ..
abbrev rest3 : ℕ → List ℕ
rest3 n = (space ∷ decimal n) ++ (newline ∷ [])

abbrev rest2 : ℕ → List ℕ
rest2 n = ascii " cells" ++ rest3 n

abbrev rest1 : ℕ → ℕ → List ℕ
rest1 c n = (space ∷ decimal c) ++ rest2 n

-- what is left before the first word, after it, ..
module _ (p : Page) (c n : ℕ) (f : HasRoom p (last_line c n)) where
  left0 : ToWrite p (last_line c n) p (ascii "plots" ++ rest1 c n)
  unfolding last_line
  left0 = to_write_all p (last_line c n) _ refl f

  module _ {q : Page} (a1 : Written p (ascii "plots") q) where
    left1 : ToWrite p (last_line c n) q (rest1 c n)
    left1 = to_write_more (ascii "plots") _ left0 a1

    module _ {r : Page} (a2 : Written q (space ∷ decimal c) r) where
      left2 : ToWrite p (last_line c n) r (rest2 n)
      left2 = to_write_more (space ∷ decimal c) _ left1 a2

      module _ {s : Page} (a3 : Written r (ascii " cells") s) where
        left3 : ToWrite p (last_line c n) s (rest3 n)
        left3 = to_write_more (ascii " cells") _ left2 a3

        left4 : {t : Page} → Written s (space ∷ decimal n) t → ToWrite p (last_line c n) t (newline ∷ [])
        left4 a4 = to_write_more (space ∷ decimal n) _ left3 a4

pub put_word-requires : goal.put_word-requires
put_word-requires c = let a = c.args in to_write_room (ascii "plots") _ (left0 a.self.now a.plots a.cells c.requires)

pub put_number-requires : goal.put_number-requires
put_number-requires c = let a = c.args in to_write_room (space ∷ decimal a.plots) _ (left1 a.self.now a.plots a.cells c.requires c.put_word.ensures)

pub put_word-requires-2 : goal.put_word-requires-2
put_word-requires-2 c =
    let a = c.args in to_write_room (ascii " cells") _ (left2 a.self.now a.plots a.cells c.requires c.put_word.ensures c.put_number.ensures)

pub put_number-requires-2 : goal.put_number-requires-2
put_number-requires-2 c =
    let a = c.args in
    to_write_room (space ∷ decimal a.cells) _ (left3 a.self.now a.plots a.cells c.requires c.put_word.ensures c.put_number.ensures c.put_word-2.ensures)

pub put_byte-requires : goal.put_byte-requires
put_byte-requires c =
    let a = c.args in
    (left4 a.self.now a.plots a.cells c.requires c.put_word.ensures c.put_number.ensures c.put_word-2.ensures c.put_number-2.ensures).fits

pub returns : goal.returns
returns c =
    let a = c.args in
    (left4 a.self.now a.plots a.cells c.requires c.put_word.ensures c.put_number.ensures c.put_word-2.ensures c.put_number-2.ensures).rest c.put_byte.ensures
