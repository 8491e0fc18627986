-- A list of places gathered point by point: the first fault decides, and without a fault the answer is the smallest octagon that holds the
-- places' cells. Assumes nothing.
use mathlib.Core.Path.{◌≡◌, refl}
use mathlib.Core.Logic.{inl, inr}
use mathlib.Core.List.{List, [], ◌∷◌}
use Prim.Native.Nat.{ℕ, zero, suc, ◌<◌}
use native.Mathlib.Omega.{arith}
use lib.IntN.{ℤ}
use lib.ListN.{length, get_or}
use lib.Ieee.{nan}
use Rattle.octagon.specs.Octagon.{Octagon}
use Rattle.octagon.specs.Outcome.{Outcome, accepted, refused}
use Rattle.octagon.specs.Cells.{Cells, ◌≐◌, Either, Smallest}
use Rattle.octagon.specs.OneCell.{one_cell}
use Rattle.octagon.proofs.Smallest.{smallest_same}
use Rattle.outline.specs.declared.place.Place.{Place}
use Rattle.tape.specs.Hull.{hull}
use Rattle.tape.specs.Enclosing.{gathered, enclosed_points}
use Rattle.tape.specs.Cases.{CellOf, Inside}
use Rattle.tape.proofs.Hulls.{hull_smallest}
use Rattle.tape.proofs.OnePoint.{Fault, point_inside, point_fault, point_smallest}

-- ---- the places of a list by their number

-- place k; past the end there is none
abbrev pub place : List Place → ℕ → Place
place ps k = get_or ps k (record { east = nan; north = nan })

-- each of the first n has its cell on the map
abbrev pub AllInside : List Place → ℕ → Type 0
AllInside ps n = (k : ℕ) → k < n → Inside (place ps k)

rest : (p : Place) (ps : List Place) (n : ℕ) → AllInside (p ∷ ps) (suc n) → AllInside ps n
rest p ps n f k h = f (suc k) (omega arith)

-- the cells of a list's places
pub record PlaceCells (ps : List Place) (x y : ℤ) : Type 0 where
  pub k : ℕ
  pub in_list : k < length ps
  pub cell : CellOf (place ps k) x y

-- the first one's, and those of the rest
cells_cons : (p : Place) (ps : List Place) → Either (CellOf p) (PlaceCells ps) ≐ PlaceCells (p ∷ ps)
cells_cons p ps x y = (to, λ c. from c.k c.in_list c.cell)
  where
    to : Either (CellOf p) (PlaceCells ps) x y → PlaceCells (p ∷ ps) x y
    to (inl c) = record { k = 0; in_list = omega arith; cell = c }
    to (inr c) = let h = c.in_list in record { k = suc c.k; in_list = omega arith; cell = c.cell }

    from : (k : ℕ) → k < length (p ∷ ps) → CellOf (place (p ∷ ps) k) x y → Either (CellOf p) (PlaceCells ps) x y
    from zero h c = inl c
    from (suc k) h c = inr (record { k = k; in_list = omega arith; cell = c })

-- ---- no fault

-- the answer is accepted, with the smallest octagon that holds the set
abbrev pub Encloses : Outcome Octagon → Cells → Type 0
Encloses o A = (a : Octagon) × (o ≡ accepted a) × Smallest a A

gathered_inside : {A : Cells} (c : Octagon) (ps : List Place) → Smallest c A → AllInside ps (length ps) → Encloses (gathered c ps) (Either A (PlaceCells ps))
gathered_inside {A} c [] s f = (c, refl, smallest_same none s)
  where
    none : A ≐ Either A (PlaceCells [])
    none x y = (inl, back)
      where
        back : Either A (PlaceCells []) x y → A x y
        back (inl a) = a
        back (inr n) = let h = n.in_list in absurd (omega arith)
gathered_inside {A} c (p ∷ ps) s f =
    let i = f 0 (omega arith) in
    let r = gathered_inside (hull c (one_cell i.x i.y)) ps (hull_smallest s (point_smallest i.cell)) (rest p ps (length ps) f) in
    (r.0, rw (point_inside p i) r.1, smallest_same regrouped r.2)
  where
    regrouped : Either (Either A (CellOf p)) (PlaceCells ps) ≐ Either A (PlaceCells (p ∷ ps))
    regrouped x y = (to, from)
      where
        to : Either (Either A (CellOf p)) (PlaceCells ps) x y → Either A (PlaceCells (p ∷ ps)) x y
        to (inl (inl a)) = inl a
        to (inl (inr c)) = inr ((cells_cons p ps x y).0 (inl c))
        to (inr c) = inr ((cells_cons p ps x y).0 (inr c))

        from : Either A (PlaceCells (p ∷ ps)) x y → Either (Either A (CellOf p)) (PlaceCells ps) x y
        from (inl a) = inl (inl a)
        from (inr c) = split ((cells_cons p ps x y).1 c)
          where
            split : Either (CellOf p) (PlaceCells ps) x y → Either (Either A (CellOf p)) (PlaceCells ps) x y
            split (inl c) = inl (inr c)
            split (inr c) = inr c

pub places_inside : (ps : List Place) → 0 < length ps → AllInside ps (length ps) → Encloses (enclosed_points ps) (PlaceCells ps)
places_inside [] h f = absurd (omega arith)
places_inside (p ∷ ps) h f =
    let i = f 0 (omega arith) in
    let r = gathered_inside (one_cell i.x i.y) ps (point_smallest i.cell) (rest p ps (length ps) f) in
    (r.0, rw (point_inside p i) r.1, smallest_same (cells_cons p ps) r.2)

-- ---- the first fault

gathered_fault : (c : Octagon) (ps : List Place) (k : ℕ) {n : ℕ} → k < length ps → AllInside ps k → Fault (place ps k) n → gathered c ps ≡ refused n
gathered_fault c [] k h f e = absurd (omega arith)
gathered_fault c (p ∷ ps) zero h f e = rw (point_fault p e)
gathered_fault c (p ∷ ps) (suc k) h f e =
    let i = f 0 (omega arith) in
    rw (point_inside p i) (gathered_fault (hull c (one_cell i.x i.y)) ps k (omega arith) (rest p ps k f) e)

pub places_fault : (ps : List Place) (k : ℕ) {n : ℕ} → k < length ps → AllInside ps k → Fault (place ps k) n → enclosed_points ps ≡ refused n
places_fault [] k h f e = absurd (omega arith)
places_fault (p ∷ ps) zero h f e = rw (point_fault p e)
places_fault (p ∷ ps) (suc k) h f e =
    let i = f 0 (omega arith) in
    rw (point_inside p i) (gathered_fault (one_cell i.x i.y) ps k (omega arith) (rest p ps k f) e)
