-- `put_row` meets its contract: the row's start, and its numbers. Assumes nothing.
use mathlib.Core.List.{◌++◌}
use Prim.Native.Nat.{ℕ}
use borrow.Author.Rules.{rules}
use mir.Syntax.{w32}
use mir.Val.{SFits, to_z, of_z}
use mir.Facts.{to_z-of_z}
use Rattle.sheet.specs.declared.Record.{Record}
use Rattle.report.specs.declared.page.Page.{Page}
use Rattle.report.specs.Lines.{row_start, row_line}
use Rattle.report.specs.Pages.{HasRoom, Written}
use Rattle.report.proofs.Pages.{ToWrite, to_write_all, to_write_more, to_write_room}
use Rattle.report.proofs.Numbers.{words, row_numbers, row_parts}
use Rattle.report.proofs.page.Page.put_row.Goals.{Start}
use Rattle.report.proofs.page.Page.put_row.Goals as goal

-- the start as it is read back
start_i : (c : Start) → SFits w32 c.args.r.outline.i
start_i c = search rules

start_j : (c : Start) → SFits w32 c.args.r.outline.j
start_j c = search rules

-- what is left before the row's start and after it
module _ (p : Page) (r : Record) (n : ℕ) (f : HasRoom p (row_line r n)) where
  left0 : ToWrite p (row_line r n) p (row_start r.number r.outline.i r.outline.j ++ words (row_numbers r n) 0)
  left0 = to_write_all p (row_line r n) _ (row_parts r n) f

  left1 : {q : Page} → SFits w32 r.outline.i → SFits w32 r.outline.j →
      Written p (row_start r.number (to_z w32 (of_z w32 r.outline.i)) (to_z w32 (of_z w32 r.outline.j))) q → ToWrite p (row_line r n) q (words (row_numbers r n) 0)
  left1 i j a = to_write_more (row_start r.number r.outline.i r.outline.j) _ left0 (rw (to_z-of_z i, to_z-of_z j) at a)

pub put_start-requires : goal.put_start-requires
put_start-requires c =
    let e = (goal.at.put_start-requires c).Start in
    let a = e.args in
    rw (to_z-of_z (start_i e), to_z-of_z (start_j e)) (to_write_room (row_start a.r.number a.r.outline.i a.r.outline.j) _ (left0 a.self.now a.r a.cells c.requires))

pub put_numbers-requires : goal.put_numbers-requires
put_numbers-requires c =
    let e = (goal.at.put_numbers-requires c).Start in
    let a = e.args in
    (left1 a.self.now a.r a.cells c.requires (start_i e) (start_j e) c.put_start.ensures).fits

pub returns : goal.returns
returns c =
    let e = (goal.at.returns c).Start in
    let a = e.args in
    (left1 a.self.now a.r a.cells c.requires (start_i e) (start_j e) c.put_start.ensures).rest c.put_numbers.ensures
