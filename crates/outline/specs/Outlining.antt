-- The outline of an octagon: definitions that compute. proofs/RoundTrips.antt says that nothing is lost either way. Assumes nothing.
use Rattle.std.specs.Prelude.{ℤ, pos, nat_abs, neg_ℤ, ◌-ℤ◌, ◌≤ℤ◌}
use Rattle.std.specs.Int.{w32}
use Rattle.std.proofs.Common.{Fits, SFits}
use Rattle.octagon.specs.Octagon.{Octagon}
use Rattle.octagon.specs.Outcome.{Outcome, accepted, then}
use Rattle.octagon.specs.NormalForm.{sides, normalised}
use Rattle.outline.specs.declared.Outline.{Outline}

-- the outline of normalised bounds: the start is (c0-c7, -c0), and the sides are those of document 01
unfoldable pub outline_of : Octagon → Outline
outline_of a = record {
  i = a.c0 -ℤ a.c7;
  j = neg_ℤ a.c0;
  n0 = nat_abs (sides a).n0;
  n1 = nat_abs (sides a).n1;
  n2 = nat_abs (sides a).n2;
  n3 = nat_abs (sides a).n3;
  n4 = nat_abs (sides a).n4;
  n5 = nat_abs (sides a).n5;
  n6 = nat_abs (sides a).n6;
  n7 = nat_abs (sides a).n7;
}

-- what `to_outline` answers
unfoldable pub outlined : Octagon → Outcome Outline
outlined c = then (normalised c) (λ a. accepted (outline_of a))

-- a side is nought or more, and fits 32 bits
pub record SideLength (z : ℤ) : Type 0 where
  pub more : pos 0 ≤ℤ z
  pub fits : Fits w32 (nat_abs z)

-- the start and the sides of an octagon fit 32 bits
pub record Sized (a : Octagon) : Type 0 where
  pub start_i : SFits w32 (a.c0 -ℤ a.c7)
  pub start_j : SFits w32 (neg_ℤ a.c0)
  pub length0 : SideLength (sides a).n0
  pub length1 : SideLength (sides a).n1
  pub length2 : SideLength (sides a).n2
  pub length3 : SideLength (sides a).n3
  pub length4 : SideLength (sides a).n4
  pub length5 : SideLength (sides a).n5
  pub length6 : SideLength (sides a).n6
  pub length7 : SideLength (sides a).n7
