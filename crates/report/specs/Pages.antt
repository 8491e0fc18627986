-- What is written on a page, word after word. Assumes nothing.
use Rattle.std.specs.Prelude.{◌≡◌, List, ℕ, ◌+◌, ◌≤◌, length}
use Rattle.report.specs.declared.page.Page.{Page}
use Rattle.report.specs.Lines.{Put}

-- the word w fits on the page p, after what is written
abbrev pub HasRoom : Page → List ℕ → Type 0
HasRoom p w = p.at + length w ≤ length p.text.now

-- the word w has been written on the page p, which makes it q
pub record Written (p : Page) (w : List ℕ) (q : Page) : Type 0 where
  pub put : Put p.text.now p.at w q.text.now q.at
  pub same_text : q.text.ghost_name ≡ p.text.ghost_name
