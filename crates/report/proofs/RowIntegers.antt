-- The numbers of a row of a listing, as integers, in their order. Assumes nothing.
use mathlib.Core.List.{List, [], ◌∷◌}
use Prim.Native.Nat.{ℕ}
use lib.IntN.{ℤ, pos}
use Rattle.sheet.specs.declared.Record.{Record}

abbrev pub row_integers : Record → ℕ → List ℤ
row_integers r n =
    let o = r.outline in
    pos r.number ∷ o.i ∷ o.j
    ∷ pos o.n0 ∷ pos o.n1 ∷ pos o.n2 ∷ pos o.n3 ∷ pos o.n4 ∷ pos o.n5 ∷ pos o.n6 ∷ pos o.n7
    ∷ pos n ∷ pos r.fee_row ∷ []
