-- The bytes of a record in a layout, from the numbers of its fields. Assumes nothing.
use mathlib.Core.Path.{◌≡◌}
use mathlib.Core.List.{List, [], ◌∷◌}
use Prim.Native.Nat.{ℕ}
use lib.ListN.{get_or}
use Rattle.records.specs.Numbers.{twos, packed}
use Rattle.sheet.specs.declared.Record.{Record}
use Rattle.sheet.specs.Layout.{encoded}

pub written_record : (ws : List ℕ) (r : Record) (a b : ℕ) → a ≡ twos (get_or ws 1 0) r.outline.i → b ≡ twos (get_or ws 2 0) r.outline.j
    → let o = r.outline in
    packed ws (r.number ∷ a ∷ b ∷ o.n0 ∷ o.n1 ∷ o.n2 ∷ o.n3 ∷ o.n4 ∷ o.n5 ∷ o.n6 ∷ o.n7 ∷ r.fee_row ∷ []) ≡ encoded ws r
unfolding encoded
written_record ws r a b e f = rw (e, f)
