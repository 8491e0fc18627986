-- The normal form of eight bounds, its sides, whether it is within a square, and the answer of `normalise`: definitions that compute.
-- proofs/NormalForms.antt says what the answers mean in sets, proofs/Map.antt the test of a square, proofs/Sides.antt what the sides tell.
-- Assumes nothing.
use Rattle.std.specs.Prelude.{◌≡◌, Bool, cond, ◌&&◌, ℕ, ℤ, pos, ◌+ℤ◌, ◌-ℤ◌, ◌≤ℤ◌}
use Rattle.std.specs.Int.Signed.{le_z}
use Rattle.integers.specs.Minimum.{min_ℤ, half_ℤ}
use Rattle.octagon.specs.Octagon.{Octagon}
use Rattle.octagon.specs.Outcome.{Outcome, accepted, refused, no_cell, off_map}
use Rattle.octagon.specs.Cells.{limit}

-- the least that an even bound can be: its own value, two sums of a neighbour and the even bound beyond the other, half the sum of its neighbours
unfoldable pub even_bound : ℤ → ℤ → ℤ → ℤ → ℤ → ℤ
even_bound far_before before own after far_after =
    min_ℤ (min_ℤ own (far_before +ℤ after)) (min_ℤ (before +ℤ far_after) (half_ℤ (before +ℤ after)))

-- the least that an odd bound can be: its own value, or the sum of its neighbours
unfoldable pub odd_bound : ℤ → ℤ → ℤ → ℤ
odd_bound before own after = min_ℤ own (before +ℤ after)

unfoldable pub tight_even : Octagon → Octagon
tight_even c = record {
  c0 = even_bound c.c6 c.c7 c.c0 c.c1 c.c2;
  c1 = c.c1;
  c2 = even_bound c.c0 c.c1 c.c2 c.c3 c.c4;
  c3 = c.c3;
  c4 = even_bound c.c2 c.c3 c.c4 c.c5 c.c6;
  c5 = c.c5;
  c6 = even_bound c.c4 c.c5 c.c6 c.c7 c.c0;
  c7 = c.c7;
}

unfoldable pub tight_odd : Octagon → Octagon
tight_odd c = record {
  c0 = c.c0;
  c1 = odd_bound c.c0 c.c1 c.c2;
  c2 = c.c2;
  c3 = odd_bound c.c2 c.c3 c.c4;
  c4 = c.c4;
  c5 = odd_bound c.c4 c.c5 c.c6;
  c6 = c.c6;
  c7 = odd_bound c.c6 c.c7 c.c0;
}

-- the normal form of bounds that hold a cell: one pass over the even bounds, one over the odd
unfoldable pub normal_form : Octagon → Octagon
normal_form c = tight_odd (tight_even c)

-- the side lengths of document 01: an even side is c(k-1) + c(k+1) - 2c(k), an odd side c(k-1) + c(k+1) - c(k)
pub record Sides : Type 0 where
  pub n0 : ℤ
  pub n1 : ℤ
  pub n2 : ℤ
  pub n3 : ℤ
  pub n4 : ℤ
  pub n5 : ℤ
  pub n6 : ℤ
  pub n7 : ℤ

abbrev pub even_side : ℤ → ℤ → ℤ → ℤ
even_side before own after = (before +ℤ after) -ℤ (own +ℤ own)

abbrev pub odd_side : ℤ → ℤ → ℤ → ℤ
odd_side before own after = (before +ℤ after) -ℤ own

unfoldable pub sides : Octagon → Sides
sides c = record {
  n0 = even_side c.c7 c.c0 c.c1;
  n1 = odd_side c.c0 c.c1 c.c2;
  n2 = even_side c.c1 c.c2 c.c3;
  n3 = odd_side c.c2 c.c3 c.c4;
  n4 = even_side c.c3 c.c4 c.c5;
  n5 = odd_side c.c4 c.c5 c.c6;
  n6 = even_side c.c5 c.c6 c.c7;
  n7 = odd_side c.c6 c.c7 c.c0;
}

-- each side is nought or more
pub record NoughtOrMore (s : Sides) : Type 0 where
  pub more0 : pos 0 ≤ℤ s.n0
  pub more1 : pos 0 ≤ℤ s.n1
  pub more2 : pos 0 ≤ℤ s.n2
  pub more3 : pos 0 ≤ℤ s.n3
  pub more4 : pos 0 ≤ℤ s.n4
  pub more5 : pos 0 ≤ℤ s.n5
  pub more6 : pos 0 ≤ℤ s.n6
  pub more7 : pos 0 ≤ℤ s.n7

-- the sides close: as many columns are walked forth as back, and as many rows up as down
pub record SidesClose (s : Sides) : Type 0 where
  pub across : s.n0 +ℤ s.n1 +ℤ s.n7 ≡ s.n3 +ℤ s.n4 +ℤ s.n5
  pub upward : s.n1 +ℤ s.n2 +ℤ s.n3 ≡ s.n5 +ℤ s.n6 +ℤ s.n7

-- two opposite bounds leave a line between them
abbrev pub meet : ℤ → ℤ → Bool
meet a b = le_z (pos 0) (a +ℤ b)

-- a normal form has a cell where its opposite bounds meet, pair by pair; that does not hold of bounds that are slack
unfoldable pub has_cell : Octagon → Bool
has_cell c = meet c.c0 c.c4 && meet c.c1 c.c5 && meet c.c2 c.c6 && meet c.c3 c.c7

-- normalised bounds are within the square from -r to r where the even ones are at most r
abbrev pub are_within : ℕ → ℤ → ℤ → ℤ → ℤ → Bool
are_within r c0 c2 c4 c6 = le_z c0 (pos r) && le_z c2 (pos r) && le_z c4 (pos r) && le_z c6 (pos r)

abbrev pub is_within : ℕ → Octagon → Bool
is_within r c = are_within r c.c0 c.c2 c.c4 c.c6

-- and on the map where they are at most its limit
abbrev pub are_within_limit : ℤ → ℤ → ℤ → ℤ → Bool
are_within_limit = are_within limit

unfoldable pub is_on_map : Octagon → Bool
is_on_map c = is_within limit c

-- normalised bounds, refused where they leave the map
unfoldable pub placed : Octagon → Outcome Octagon
placed c = cond (is_on_map c) (accepted c) (refused off_map)

-- what `normalise` answers
unfoldable pub normalised : Octagon → Outcome Octagon
normalised c = cond (has_cell (normal_form c)) (placed (normal_form c)) (refused no_cell)
