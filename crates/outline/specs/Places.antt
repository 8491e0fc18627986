-- Places in metres: definitions that compute, and what an exact quarter is. proofs/Metres.antt joins the two. Assumes nothing.
use Rattle.std.specs.Prelude.{true, false, cond, ℕ, suc, ltb, ℤ, pos, negsuc, Float}
use Rattle.std.specs.Float.{binary64}
use Rattle.std.specs.Float.Ieee.{round}
use Rattle.std.specs.Float.Ieee.Exact.{HasValue}
use Rattle.std.specs.Int.{w32}
use Rattle.std.proofs.Common.{SFits}
use Rattle.octagon.specs.Octagon.{Octagon}
use Rattle.octagon.specs.Outcome.{Outcome, accepted, refused, then}
use Rattle.outline.specs.declared.Outline.{Outline}
use Rattle.outline.specs.declared.walk.Cell.{Cell}
use Rattle.outline.specs.declared.place.Place.{Place}
use Rattle.outline.specs.Walk.{vertex}
use Rattle.outline.specs.Outlining.{outlined}

-- x is finite, and it is exactly z / d; zero is positive zero
abbrev pub Exactly : ℤ → ℕ → Float → Type 0
Exactly (pos n) d x = HasValue x false n d
Exactly (negsuc n) d x = HasValue x true (suc n) d

-- the `f64` nearest to z / d
unfoldable pub over : ℤ → ℕ → Float
over (pos n) d = round binary64 false n d
over (negsuc n) d = round binary64 true (suc n) d

-- cells in metres
abbrev pub quarter : ℤ → Float
quarter z = over z 4

abbrev pub place_of : ℤ → ℤ → Place
place_of x y = record { east = quarter x; north = quarter y }

-- the refusal number of a vertex (document 01's corner) above 7
abbrev pub no_vertex : ℕ
no_vertex = 7

-- vertex k of an outline in metres
unfoldable pub place_of_vertex : Outline → ℕ → Outcome Place
place_of_vertex o k = cond (ltb 7 k) (refused no_vertex) (accepted (place_of (vertex o k).x (vertex o k).y))

-- what `vertex_place` answers
unfoldable pub located : Octagon → ℕ → Outcome Place
located c k = then (outlined c) (λ o. place_of_vertex o k)

-- a cell whose coordinates fit 32 bits
pub record HeldCell (v : Cell) : Type 0 where
  pub fits_x : SFits w32 v.x
  pub fits_y : SFits w32 v.y
