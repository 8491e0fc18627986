-- Sums and differences of normal forms fit an i32, and with multiples an i64. Assumes nothing.
use Prim.Native.Nat.{ℕ, ◌+◌, ◌*◌, ◌^◌, ◌<◌, ◌≤◌}
use native.Mathlib.Omega.{arith}
use mathlib.Core.Path.{◌≡◌}
use mathlib.Core.Bool.{true}
use lib.Dec.{T, leb}
use mir.Syntax.{w32, w64}
use mir.Val.{Fits}
use Rattle.integers.proofs.Linear.{#, neg, lit, ◌≼◌}
use Rattle.integers.proofs.Multiples.{times_near}
use Rattle.integers.specs.Range.{roof}
use Rattle.integers.proofs.Products.{product_fits}
use Rattle.integers.proofs.Range.{near_fits, room_near}
use Rattle.octagon.specs.Octagon.{Octagon}
use Rattle.octagon.specs.Cells.{limit}
use Rattle.octagon.specs.NormalForm.{is_on_map}
use Rattle.octagon.specs.Widths.{Held, Roomy}
use Rattle.octagon.proofs.Map.{test_near, near_held}
use Rattle.octagon.proofs.Within.{Normal, Near}
use Rattle.octagon.proofs.NormalForms.{accepted_normal, accepted_near}
use Rattle.morphology.specs.Operations.{sums, differences}
use Rattle.morphology.specs.Folds.{multiples, fold_limit}
use Rattle.morphology.proofs.Sums.{Summed, summed}
use Rattle.morphology.proofs.Differences.{differing}
use Rattle.morphology.proofs.Multiples.{multiples_normal}
use Rattle.morphology.proofs.Operands.{Accepted}

-- no bound is further than k from 0
pub record Bounded (k : ℕ) (c : Octagon) : Type 0 where
  pub b0 : (# c.c0 ≼ lit k) × (neg (# c.c0) ≼ lit k)
  pub b1 : (# c.c1 ≼ lit k) × (neg (# c.c1) ≼ lit k)
  pub b2 : (# c.c2 ≼ lit k) × (neg (# c.c2) ≼ lit k)
  pub b3 : (# c.c3 ≼ lit k) × (neg (# c.c3) ≼ lit k)
  pub b4 : (# c.c4 ≼ lit k) × (neg (# c.c4) ≼ lit k)
  pub b5 : (# c.c5 ≼ lit k) × (neg (# c.c5) ≼ lit k)
  pub b6 : (# c.c6 ≼ lit k) × (neg (# c.c6) ≼ lit k)
  pub b7 : (# c.c7 ≼ lit k) × (neg (# c.c7) ≼ lit k)

pub bounded_held : (k : ℕ) (c : Octagon) → k < 2 ^ 31 → Bounded k c → Held w32 c
bounded_held k c l h = record {
  held0 = near_fits w32 k c.c0 l h.b0.0 h.b0.1;
  held1 = near_fits w32 k c.c1 l h.b1.0 h.b1.1;
  held2 = near_fits w32 k c.c2 l h.b2.0 h.b2.1;
  held3 = near_fits w32 k c.c3 l h.b3.0 h.b3.1;
  held4 = near_fits w32 k c.c4 l h.b4.0 h.b4.1;
  held5 = near_fits w32 k c.c5 l h.b5.0 h.b5.1;
  held6 = near_fits w32 k c.c6 l h.b6.0 h.b6.1;
  held7 = near_fits w32 k c.c7 l h.b7.0 h.b7.1;
}

pub bounded_roomy : (k : ℕ) (c : Octagon) → T (leb k (roof 3)) → Bounded k c → Roomy 3 c
bounded_roomy k c l h = record {
  room0 = room_near 3 k c.c0 l h.b0.0 h.b0.1;
  room1 = room_near 3 k c.c1 l h.b1.0 h.b1.1;
  room2 = room_near 3 k c.c2 l h.b2.0 h.b2.1;
  room3 = room_near 3 k c.c3 l h.b3.0 h.b3.1;
  room4 = room_near 3 k c.c4 l h.b4.0 h.b4.1;
  room5 = room_near 3 k c.c5 l h.b5.0 h.b5.1;
  room6 = room_near 3 k c.c6 l h.b6.0 h.b6.1;
  room7 = room_near 3 k c.c7 l h.b7.0 h.b7.1;
}

-- multiples of any bounds in 32 bits fit 64
pub products_held : (n : ℕ) (b : Octagon) → Fits w32 n → Held w32 b → Held w64 (multiples n b)
unfolding multiples
products_held n b f h = record {
  held0 = product_fits n b.c0 f h.held0;
  held1 = product_fits n b.c1 f h.held1;
  held2 = product_fits n b.c2 f h.held2;
  held3 = product_fits n b.c3 f h.held3;
  held4 = product_fits n b.c4 f h.held4;
  held5 = product_fits n b.c5 f h.held5;
  held6 = product_fits n b.c6 f h.held6;
  held7 = product_fits n b.c7 f h.held7;
}

normal_bounded : (c : Octagon) → Normal c → Near c → Bounded (2 * limit) c
normal_bounded c n m = omega arith

sum_bounded : (j k : ℕ) (a b s : Octagon) → Bounded j a → Bounded k b → Summed a b s → Bounded (j + k) s
sum_bounded j k a b s m l h = omega arith

difference_bounded : (j k : ℕ) (a b d : Octagon) → Bounded j a → Bounded k b → Summed d b a → Bounded (j + k) d
difference_bounded j k a b d m l h = omega arith

multiples_bounded : (n m k : ℕ) (b : Octagon) → n ≤ m → Bounded k b → Bounded (m * k) (multiples n b)
unfolding multiples
multiples_bounded n m k b l h = record {
  b0 = times_near n m k b.c0 l h.b0.0 h.b0.1;
  b1 = times_near n m k b.c1 l h.b1.0 h.b1.1;
  b2 = times_near n m k b.c2 l h.b2.0 h.b2.1;
  b3 = times_near n m k b.c3 l h.b3.0 h.b3.1;
  b4 = times_near n m k b.c4 l h.b4.0 h.b4.1;
  b5 = times_near n m k b.c5 l h.b5.0 h.b5.1;
  b6 = times_near n m k b.c6 l h.b6.0 h.b6.1;
  b7 = times_near n m k b.c7 l h.b7.0 h.b7.1;
}

-- ---- normal forms of operands

module _ {p f a b : Octagon} (h : Accepted p f a b) where
  first : Bounded (2 * limit) a
  first = normal_bounded a (accepted_normal p a h.of_p) (accepted_near p a h.of_p)

  second : Bounded (2 * limit) b
  second = normal_bounded b (accepted_normal f b h.of_f) (accepted_near f b h.of_f)

  pub sums_held : Held w32 (sums a b)
  sums_held =
      bounded_held (2 * limit + 2 * limit) (sums a b) (omega arith) (sum_bounded (2 * limit) (2 * limit) a b (sums a b) first second (summed a b))

  pub differences_held : Held w32 (differences a b)
  differences_held =
      bounded_held (2 * limit + 2 * limit) (differences a b) (omega arith)
      (difference_bounded (2 * limit) (2 * limit) a b (differences a b) first second (differing a b))

  -- and with n times the second's bounds there is room in 64 bits
  module _ (n : ℕ) (l : n ≤ fold_limit) where
    folded : Bounded (fold_limit * (2 * limit)) (multiples n b)
    folded = multiples_bounded n fold_limit (2 * limit) b l second

    pub sums_folded_roomy : Roomy 3 (sums a (multiples n b))
    sums_folded_roomy =
        bounded_roomy (2 * limit + fold_limit * (2 * limit)) (sums a (multiples n b)) tt
        (sum_bounded (2 * limit) (fold_limit * (2 * limit)) a (multiples n b) (sums a (multiples n b)) first folded (summed a (multiples n b)))

    pub differences_folded_roomy : Roomy 3 (differences a (multiples n b))
    differences_folded_roomy =
        bounded_roomy (2 * limit + fold_limit * (2 * limit)) (differences a (multiples n b)) tt
        (difference_bounded (2 * limit) (fold_limit * (2 * limit)) a (multiples n b) (differences a (multiples n b)) first folded (differing a (multiples n b)))

    -- and where sums are on the map they fit an i32
    pub sums_folded_held : is_on_map (sums a (multiples n b)) ≡ true → Held w32 (sums a (multiples n b))
    sums_folded_held t =
        near_held (sums a (multiples n b))
        (multiples_normal n a b (accepted_normal p a h.of_p) (accepted_normal f b h.of_f))
        (test_near (sums a (multiples n b)) t)
