-- Outlines and places in slices, and the calls on them. Assumes nothing.
use Rattle.std.specs.Prelude.{ℕ, Bool, ◌&&◌, List, [], ◌∷◌, eqb, Float, ℤ, pos, length, get_or}
use Rattle.octagon.specs.Octagon.{Octagon}
use Rattle.octagon.specs.Outcome.{Outcome}
use Rattle.outline.specs.declared.Outline.{Outline}
use Rattle.outline.specs.declared.place.Place.{Place}
use Rattle.outline.specs.Walk.{with_sides, sides_of}
use Rattle.outline.specs.Tracing.{traced}
use Rattle.outline.specs.Outlining.{outlined}
use Rattle.outline.specs.Places.{located}
use Rattle.koxirmeta_c.specs.Calls.{fitted, is_eight, octagon_in}

-- the slice has two places: those of a start, or of a place in metres
abbrev pub is_pair : {A : Type 0} → List A → Bool
is_pair s = eqb (length s) 2

-- the outline of a start and eight sides
unfoldable pub outline_in : List ℤ → List ℕ → Outline
outline_in s n = with_sides (get_or s 0 (pos 0)) (get_or s 1 (pos 0)) n

-- the slices of a start and of eight sides
abbrev pub holds_outline : List ℤ → List ℕ → Bool
holds_outline from sides = is_pair from && is_eight sides

-- a start, the sides of an outline, and both
unfoldable pub start : ℤ → ℤ → List ℤ
start i j = i ∷ j ∷ []

abbrev pub outline_parts : Outline → List ℤ × List ℕ
outline_parts o = (start o.i o.j, sides_of o)

-- a place, east and north
unfoldable pub metres_of : Place → List Float
metres_of p = p.east ∷ p.north ∷ []

-- the calls
abbrev pub tracing : List ℤ → List ℕ → List ℤ → Outcome Octagon
tracing from sides out = fitted (holds_outline from sides && is_eight out) (traced (outline_in from sides))

abbrev pub outlining : List ℤ → List ℤ → List ℕ → Outcome Outline
outlining s from sides = fitted (is_eight s && holds_outline from sides) (outlined (octagon_in s))

abbrev pub locating : List ℤ → ℕ → List Float → Outcome Place
locating s k place = fitted (is_eight s && is_pair place) (located (octagon_in s) k)
