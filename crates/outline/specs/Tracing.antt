-- The octagon of an outline: definitions that compute. proofs/Tracings.antt says what they mean in sets. Assumes nothing.
use Rattle.std.specs.Prelude.{cond, ℕ, neg_ℤ, ◌+ℤ◌, ◌-ℤ◌}
use Rattle.octagon.specs.Octagon.{Octagon}
use Rattle.octagon.specs.Outcome.{Outcome, accepted, refused, then, off_map}
use Rattle.octagon.specs.NormalForm.{is_within, placed}
use Rattle.outline.specs.declared.Outline.{Outline}
use Rattle.outline.specs.declared.walk.Cell.{Cell}
use Rattle.outline.specs.Closing.{closes}
use Rattle.outline.specs.Walk.{vertex}

-- the refusal number of an outline that does not close
abbrev pub not_closed : ℕ
not_closed = 3

-- the bounds that four vertices reach: bounds k-1 and k meet in vertex k
unfoldable pub bounds_at : Cell → Cell → Cell → Cell → Octagon
bounds_at v1 v3 v5 v7 = record {
  c0 = neg_ℤ v1.y;
  c1 = v1.x -ℤ v1.y;
  c2 = v3.x;
  c3 = v3.x +ℤ v3.y;
  c4 = v5.y;
  c5 = v5.y -ℤ v5.x;
  c6 = neg_ℤ v7.x;
  c7 = neg_ℤ v7.x -ℤ v7.y;
}

-- the bounds of an outline that closes
unfoldable pub drawn : Outline → Octagon
drawn o = bounds_at (vertex o 1) (vertex o 3) (vertex o 5) (vertex o 7)

-- what `to_octagon` answers
unfoldable pub traced : Outline → Outcome Octagon
traced o = cond (closes o) (placed (drawn o)) (refused not_closed)

-- the same on the smaller map from -r to r: 2 where the octagon leaves it
unfoldable pub traced_in : ℕ → Outline → Outcome Octagon
traced_in r o = then (traced o) (λ a. cond (is_within r a) (accepted a) (refused off_map))
