-- Bounds are normalised exactly where the eight side lengths of document 01 are nought or more; and the sides of any bounds close. Assumes nothing.
use mathlib.Core.Logic.{◌↔◌}
use native.Mathlib.Omega.{arith}
use lib.IntN.{ℤ, pos, ◌+ℤ◌}
use lib.Signed.{◌≤ℤ◌}
use Rattle.integers.proofs.Parts.{up, dn, sum_parts, diff_parts, le_parts, parts_eq}
use Rattle.integers.proofs.Linear.{#, ◌⊕◌, neg, lit, ◌≼◌, ◌≈◌, le}
use Rattle.octagon.specs.Octagon.{Octagon}
use Rattle.octagon.specs.Cells.{Normalised}
use Rattle.octagon.specs.NormalForm.{sides, even_side, odd_side, NoughtOrMore, SidesClose}
use Rattle.octagon.proofs.Within.{Normal}
use Rattle.octagon.proofs.Vertices.{normal_normalised, reached_normal}

-- ---- one side

pub even_is : (b o a : ℤ) → # (even_side b o a) ≈ # b ⊕ # a ⊕ neg (# o ⊕ # o)
even_is b o a = omega (arith, diff_parts (b +ℤ a) (o +ℤ o), sum_parts b a, sum_parts o o)

pub odd_is : (b o a : ℤ) → # (odd_side b o a) ≈ # b ⊕ # a ⊕ neg (# o)
odd_is b o a = omega (arith, diff_parts (b +ℤ a) o, sum_parts b a)

even_more : (b o a : ℤ) → (pos 0 ≤ℤ even_side b o a) ↔ (# o ⊕ # o ≼ # b ⊕ # a)
unfolding up dn
even_more b o a = (
  λ h. omega (arith, le_parts h, even_is b o a),
  λ h. le (lit 0) (# b ⊕ # a ⊕ neg (# o ⊕ # o)) (omega arith) (even_is b o a) (omega arith),
)

odd_more : (b o a : ℤ) → (pos 0 ≤ℤ odd_side b o a) ↔ (# o ≼ # b ⊕ # a)
unfolding up dn
odd_more b o a = (
  λ h. omega (arith, le_parts h, odd_is b o a),
  λ h. le (lit 0) (# b ⊕ # a ⊕ neg (# o)) (omega arith) (odd_is b o a) (omega arith),
)

-- ---- all eight

pub sides_normal : (c : Octagon) → NoughtOrMore (sides c) → Normal c
unfolding sides
sides_normal c m = record {
  s0 = (even_more c.c7 c.c0 c.c1).0 m.more0;
  s1 = (odd_more c.c0 c.c1 c.c2).0 m.more1;
  s2 = (even_more c.c1 c.c2 c.c3).0 m.more2;
  s3 = (odd_more c.c2 c.c3 c.c4).0 m.more3;
  s4 = (even_more c.c3 c.c4 c.c5).0 m.more4;
  s5 = (odd_more c.c4 c.c5 c.c6).0 m.more5;
  s6 = (even_more c.c5 c.c6 c.c7).0 m.more6;
  s7 = (odd_more c.c6 c.c7 c.c0).0 m.more7;
}

pub normal_sides : (c : Octagon) → Normal c → NoughtOrMore (sides c)
unfolding sides
normal_sides c n = record {
  more0 = (even_more c.c7 c.c0 c.c1).1 n.s0;
  more1 = (odd_more c.c0 c.c1 c.c2).1 n.s1;
  more2 = (even_more c.c1 c.c2 c.c3).1 n.s2;
  more3 = (odd_more c.c2 c.c3 c.c4).1 n.s3;
  more4 = (even_more c.c3 c.c4 c.c5).1 n.s4;
  more5 = (odd_more c.c4 c.c5 c.c6).1 n.s5;
  more6 = (even_more c.c5 c.c6 c.c7).1 n.s6;
  more7 = (odd_more c.c6 c.c7 c.c0).1 n.s7;
}

-- bounds are normalised exactly where all eight sides are nought or more
pub normalised_sides : (c : Octagon) → Normalised c ↔ NoughtOrMore (sides c)
normalised_sides c = (λ n. normal_sides c (reached_normal c n.reached), λ m. normal_normalised c (sides_normal c m))

-- and the sides of any bounds close
pub sides_close : (c : Octagon) → SidesClose (sides c)
unfolding sides
sides_close c =
    let n0 = even_side c.c7 c.c0 c.c1 in
    let n1 = odd_side c.c0 c.c1 c.c2 in
    let n2 = even_side c.c1 c.c2 c.c3 in
    let n3 = odd_side c.c2 c.c3 c.c4 in
    let n4 = even_side c.c3 c.c4 c.c5 in
    let n5 = odd_side c.c4 c.c5 c.c6 in
    let n6 = even_side c.c5 c.c6 c.c7 in
    let n7 = odd_side c.c6 c.c7 c.c0 in
    record {
      across =
          parts_eq (n0 +ℤ n1 +ℤ n7) (n3 +ℤ n4 +ℤ n5)
          (omega (
            arith,
            sum_parts (n0 +ℤ n1) n7,
            sum_parts n0 n1,
            sum_parts (n3 +ℤ n4) n5,
            sum_parts n3 n4,
            even_is c.c7 c.c0 c.c1,
            odd_is c.c0 c.c1 c.c2,
            odd_is c.c6 c.c7 c.c0,
            odd_is c.c2 c.c3 c.c4,
            even_is c.c3 c.c4 c.c5,
            odd_is c.c4 c.c5 c.c6,
          ));
      upward =
          parts_eq (n1 +ℤ n2 +ℤ n3) (n5 +ℤ n6 +ℤ n7)
          (omega (
            arith,
            sum_parts (n1 +ℤ n2) n3,
            sum_parts n1 n2,
            sum_parts (n5 +ℤ n6) n7,
            sum_parts n5 n6,
            odd_is c.c0 c.c1 c.c2,
            even_is c.c1 c.c2 c.c3,
            odd_is c.c2 c.c3 c.c4,
            odd_is c.c4 c.c5 c.c6,
            even_is c.c5 c.c6 c.c7,
            odd_is c.c6 c.c7 c.c0,
          ));
    }
