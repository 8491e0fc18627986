-- The start and the sides of normalised bounds on the map fit 32 bits. Assumes nothing.
use mathlib.Core.Path.{◌≡◌}
use Prim.Native.Nat.{ℕ, ◌*◌}
use native.Mathlib.Omega.{arith}
use lib.Dec.{T}
use lib.IntN.{ℤ, pos, negsuc, nat_abs, neg_ℤ, ◌-ℤ◌}
use lib.Signed.{◌≤ℤ◌, non_neg, yes_non_neg}
use mir.Syntax.{w32, w64}
use mir.Val.{Fits, SFits, to_z, of_z}
use mir.Facts.{to_z-of_z}
use Rattle.integers.proofs.Parts.{up, dn, diff_parts, neg_up, neg_dn, le_parts}
use Rattle.integers.proofs.Linear.{#, ◌⊕◌, lit, ◌≼◌}
use Rattle.integers.proofs.Range.{room_near, room_fits32}
use Rattle.octagon.specs.Octagon.{Octagon}
use Rattle.octagon.specs.Cells.{limit}
use Rattle.octagon.specs.NormalForm.{sides, even_side, odd_side, normalised}
use Rattle.octagon.specs.Outcome.{accepted}
use Rattle.octagon.proofs.Within.{Normal, Near}
use Rattle.octagon.proofs.NormalForms.{accepted_normal, accepted_near}
use Rattle.octagon.proofs.Sides.{normal_sides, even_is, odd_is}
use Rattle.outline.specs.Outlining.{SideLength, Sized}

-- ---- one side

-- a side of 64 bits is cast to 32
pub cast : {y z : ℤ} → y ≡ z → SFits w64 z → SideLength z → T (non_neg (to_z w64 (of_z w64 y))) × Fits w32 (nat_abs (to_z w64 (of_z w64 y)))
cast e f l = rw (e, to_z-of_z f) (yes_non_neg l.more, l.fits)

-- the most that a side of an octagon on the map can be found to be
abbrev most : ℕ
most = 6 * limit

length : (z : ℤ) → pos 0 ≤ℤ z → # z ≼ lit most → SideLength z
unfolding up dn
length (pos n) h l = record { more = h; fits = record { fits = omega arith } }
length (negsuc n) h l = absurd (omega (arith, le_parts h))

even : (b o a : ℤ) → pos 0 ≤ℤ even_side b o a → # b ⊕ # a ≼ # o ⊕ # o ⊕ lit most → SideLength (even_side b o a)
even b o a h l = length (even_side b o a) h (omega (arith, even_is b o a))

odd : (b o a : ℤ) → pos 0 ≤ℤ odd_side b o a → # b ⊕ # a ≼ # o ⊕ lit most → SideLength (odd_side b o a)
odd b o a h l = length (odd_side b o a) h (omega (arith, odd_is b o a))

-- ---- all eight, and the start

pub normal_sized : (a : Octagon) → Normal a → Near a → Sized a
unfolding sides
normal_sized a n m =
    let s = normal_sides a n in
    record {
      start_i = room_fits32 (room_near 32 most (a.c0 -ℤ a.c7) tt (omega (arith, diff_parts a.c0 a.c7)) (omega (arith, diff_parts a.c0 a.c7)));
      start_j = room_fits32 (room_near 32 most (neg_ℤ a.c0) tt (omega (arith, neg_up a.c0, neg_dn a.c0)) (omega (arith, neg_up a.c0, neg_dn a.c0)));
      length0 = even a.c7 a.c0 a.c1 s.more0 (omega arith);
      length1 = odd a.c0 a.c1 a.c2 s.more1 (omega arith);
      length2 = even a.c1 a.c2 a.c3 s.more2 (omega arith);
      length3 = odd a.c2 a.c3 a.c4 s.more3 (omega arith);
      length4 = even a.c3 a.c4 a.c5 s.more4 (omega arith);
      length5 = odd a.c4 a.c5 a.c6 s.more5 (omega arith);
      length6 = even a.c5 a.c6 a.c7 s.more6 (omega arith);
      length7 = odd a.c6 a.c7 a.c0 s.more7 (omega arith);
    }

-- an accepted answer of `normalise` is such
pub accepted_sized : (c a : Octagon) → normalised c ≡ accepted a → Sized a
accepted_sized c a q = normal_sized a (accepted_normal c a q) (accepted_near c a q)
