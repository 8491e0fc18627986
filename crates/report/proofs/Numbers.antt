-- Numbers in a line, one after the other, and the parts of a row. Assumes nothing.
use mathlib.Core.Path.{◌≡◌}
use mathlib.Core.List.{List, [], ◌∷◌, ◌++◌, map, append_assoc}
use Prim.Native.Nat.{ℕ, ◌+◌, ◌≤◌, ◌<◌}
use native.Mathlib.Numerals.{add-one}
use lib.ListN.{length, get_or, drop, drop_of_length-le}
use lib.Seq.{drop-cons}
use Rattle.sheet.specs.declared.Record.{Record}
use Rattle.report.specs.Decimal.{decimal}
use Rattle.report.specs.Lines.{space, newline, spaced, row_start, row_line}
use Rattle.report.specs.declared.page.Page.{Page}
use Rattle.report.specs.Pages.{HasRoom, Written}
use Rattle.report.proofs.Pages.{ToWrite, to_write_more, to_write_room}

-- the words of the numbers from the k-th on, and the newline
abbrev pub words : List ℕ → ℕ → List ℕ
words vs k = spaced (map decimal (drop k vs))

words_more : (vs : List ℕ) (k : ℕ) → k < length vs → words vs k ≡ (space ∷ decimal (get_or vs k 0)) ++ words vs (k + 1)
words_more vs k h = rw (drop-cons vs k 0 h, add-one k)

words_end : (vs : List ℕ) (k : ℕ) → length vs ≤ k → words vs k ≡ newline ∷ []
words_end vs k h = rw (drop_of_length-le vs h)

-- one number more
pub number_room : {p q : Page} {w : List ℕ} (vs : List ℕ) (k : ℕ) → k < length vs → ToWrite p w q (words vs k) → HasRoom q (space ∷ decimal (get_or vs k 0))
number_room vs k h l = to_write_room (space ∷ decimal (get_or vs k 0)) (words vs (k + 1)) (rw (words_more vs k h) at l)

pub number_more : {p q r : Page} {w : List ℕ} (vs : List ℕ) (k : ℕ) → k < length vs → ToWrite p w q (words vs k)
    → Written q (space ∷ decimal (get_or vs k 0)) r → ToWrite p w r (words vs (k + 1))
number_more vs k h l a = to_write_more (space ∷ decimal (get_or vs k 0)) (words vs (k + 1)) (rw (words_more vs k h) at l) a

-- the newline
pub numbers_end : {p q : Page} {w : List ℕ} (vs : List ℕ) (k : ℕ) → length vs ≤ k → ToWrite p w q (words vs k) → ToWrite p w q (newline ∷ [])
numbers_end vs k h l = rw (words_end vs k h) at l

-- ---- a row

-- the numbers of a row after its start
abbrev pub row_numbers : Record → ℕ → List ℕ
row_numbers r n = let o = r.outline in o.n0 ∷ o.n1 ∷ o.n2 ∷ o.n3 ∷ o.n4 ∷ o.n5 ∷ o.n6 ∷ o.n7 ∷ n ∷ r.fee_row ∷ []

pub row_parts : (r : Record) (n : ℕ) → row_line r n ≡ row_start r.number r.outline.i r.outline.j ++ words (row_numbers r n) 0
unfolding row_line row_start
row_parts r n = simp append_assoc
