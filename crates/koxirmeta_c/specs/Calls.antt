-- A call from C: the number that it answers, and what it leaves in the memory that it was lent. Assumes nothing.
use Rattle.std.specs.Prelude.{◌≡◌, ℕ, Bool, true, false, cond, ◌&&◌, List, [], ◌∷◌, eqb, ℤ, pos, length, get_or}
use Rattle.octagon.specs.Octagon.{Octagon}
use Rattle.octagon.specs.Outcome.{Outcome, accepted, refused, left}
use Rattle.cell_count.specs.Area.{cell_count}
use Rattle.morphology.specs.Marks.{Marked}

-- the number of a call whose slices have the wrong lengths: none of the documents'
abbrev pub wrong_length : ℕ
wrong_length = 255

-- a call, where the lengths of its slices are right
unfoldable pub fitted : {A : Type 0} → Bool → Outcome A → Outcome A
fitted true o = o
fitted false o = refused wrong_length

-- what a call answers: 0, or the number of the refusal
unfoldable pub status : {A : Type 0} → Outcome A → ℕ
status (accepted a) = 0
status (refused k) = k

-- what a call hands over that is lent memory m, of which it makes m': the number r, and what it writes, by f
pub record Hands {A B : Type 0} (o : Outcome A) (f : A → B) (m m' : B) (r : ℕ) : Type 0 where
  pub answers : r ≡ status o
  pub leaves : m' ≡ left m o f

-- ---- an octagon in a slice

-- the slice has a place for each bound
abbrev pub is_eight : {A : Type 0} → List A → Bool
is_eight s = eqb (length s) 8

-- the octagon of bounds, those that a slice lacks being 0
abbrev pub bounded : List ℤ → Octagon
bounded s = record {
  c0 = get_or s 0 (pos 0);
  c1 = get_or s 1 (pos 0);
  c2 = get_or s 2 (pos 0);
  c3 = get_or s 3 (pos 0);
  c4 = get_or s 4 (pos 0);
  c5 = get_or s 5 (pos 0);
  c6 = get_or s 6 (pos 0);
  c7 = get_or s 7 (pos 0);
}

-- the octagon of eight bounds; a slice of another length is read as if it had none
unfoldable pub octagon_in : List ℤ → Octagon
octagon_in s = bounded (cond (is_eight s) s [])

-- the bounds of an octagon
unfoldable pub bounds_of : Octagon → List ℤ
bounds_of o = o.c0 ∷ o.c1 ∷ o.c2 ∷ o.c3 ∷ o.c4 ∷ o.c5 ∷ o.c6 ∷ o.c7 ∷ []

-- the mark of an octagon that is handed over, as a number: 0 for exact, 1 for filled
abbrev pub mark_number : Bool → ℕ
mark_number t = cond t 1 0

-- the bounds of a marked octagon, and its mark
abbrev pub marked_parts : Marked → List ℤ × ℕ
marked_parts m = (bounds_of m.octagon, mark_number m.is_filled)

-- a call of one operand, and of two
abbrev pub on_one : (Octagon → Outcome Octagon) → List ℤ → List ℤ → Outcome Octagon
on_one f s out = fitted (is_eight s && is_eight out) (f (octagon_in s))

abbrev pub on_two : {R : Type 0} → (Octagon → Octagon → Outcome R) → List ℤ → List ℤ → List ℤ → Outcome R
on_two f p q out = fitted (is_eight p && is_eight q && is_eight out) (f (octagon_in p) (octagon_in q))

abbrev pub counted : List ℤ → Outcome ℕ
counted s = fitted (is_eight s) (cell_count (octagon_in s))
