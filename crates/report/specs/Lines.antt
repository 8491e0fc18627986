-- The lines of a listing, as documents 01 and 02 (U2) show them, and a part of a buffer that is written. Assumes nothing.
use Rattle.std.specs.Prelude.{◌≡◌, List, [], ◌∷◌, ◌++◌, ℕ, ◌+◌, ◌≤◌, ℤ, length, take}
use Rattle.records.specs.Parts.{splice}
use Rattle.sheet.specs.declared.Record.{Record}
use Rattle.records.specs.Text.{ascii}
use Rattle.report.specs.Decimal.{decimal, signed_decimal}

-- ---- lines

abbrev pub space : ℕ
space = 32

abbrev pub newline : ℕ
newline = 10

-- the words of a line after its first, each after a space, and the newline that ends it
abbrev pub spaced : List (List ℕ) → List ℕ
spaced [] = newline ∷ []
spaced (w ∷ ws) = space ∷ w ++ spaced ws

-- a line of words
abbrev pub line : List ℕ → List (List ℕ) → List ℕ
line w ws = w ++ spaced ws

unfoldable pub heading_line : List ℕ
heading_line = ascii "plot i j n0 n1 n2 n3 n4 n5 n6 n7 cells fee\n"

-- how a row begins: the plot number and the start
unfoldable pub row_start : ℕ → ℤ → ℤ → List ℕ
row_start v i j = decimal v ++ ((space ∷ signed_decimal i) ++ (space ∷ signed_decimal j))

-- the row of a plot with n cells
unfoldable pub row_line : Record → ℕ → List ℕ
row_line r n =
    let o = r.outline in
    line (decimal r.number)
    (signed_decimal o.i ∷ signed_decimal o.j
    ∷ decimal o.n0 ∷ decimal o.n1 ∷ decimal o.n2 ∷ decimal o.n3 ∷ decimal o.n4 ∷ decimal o.n5 ∷ decimal o.n6 ∷ decimal o.n7
    ∷ decimal n ∷ decimal r.fee_row ∷ [])

-- the last line of a listing of c plots, which have n cells together
unfoldable pub last_line : ℕ → ℕ → List ℕ
last_line c n = line (ascii "plots") (decimal c ∷ ascii "cells" ∷ decimal n ∷ [])

-- the one line of a sheet that is refused with the number k
unfoldable pub refused_line : ℕ → List ℕ
refused_line k = line (ascii "refused") (decimal k ∷ [])

-- ---- writing

-- the word w has been put into s from index at, which makes it t, and the index past it is next
pub record Put (s : List ℕ) (at : ℕ) (w t : List ℕ) (next : ℕ) : Type 0 where
  pub fits : at + length w ≤ length s
  pub text : t ≡ splice s at w
  pub past : next ≡ at + length w

-- n counts bytes at the start of t. The second part follows from the first; with both, a caller can lend those bytes with no proof.
abbrev pub Prefix : ℕ → List ℕ → Type 0
Prefix n t = (n ≤ length t) × (n ≡ length (take n t))
