-- Numbers of 32 bits in 64: as they are read back, and the room of their sums. Assumes nothing.
use mathlib.Core.Path.{◌≡◌, ◌∙◌}
use Prim.Native.Nat.{ℕ, ◌^◌, ◌<◌}
use native.Mathlib.Omega.{arith}
use lib.IntN.{ℤ, pos}
use mir.Syntax.{w32, w64}
use mir.Val.{SFits, to_z, of_z}
use mir.Facts.{to_z-of_z, to_z_pos}
use Rattle.integers.specs.Range.{Room}
use Rattle.integers.proofs.Parts.{up, dn}
use Rattle.integers.proofs.Range.{room, room_fits, room_i32, widened}
use Rattle.clearance.specs.declared.disc.Axes.{Axes}

-- a signed number in 64 bits
abbrev pub wide : ℤ → ℤ
wide z = to_z w64 (of_z w64 (to_z w32 (of_z w32 z)))

pub widened_is : {z : ℤ} → SFits w32 z → wide z ≡ z
widened_is f = to_z-of_z (widened f) ∙ to_z-of_z f

-- an unsigned one
pub natural_is : (n : ℕ) → n < 2 ^ 32 → to_z w64 n ≡ pos n
natural_is n h = to_z_pos w64 {n = n} (omega arith)

-- a sum of four of either fits
pub signed_room : {z : ℤ} → SFits w32 z → Room 2 z
signed_room f = room_i32 2 tt f

pub natural_room : (n : ℕ) → n < 2 ^ 32 → Room 2 (pos n)
unfolding up dn
natural_room n h = room 2 (omega arith) (omega arith)

-- a number that is worked out as another that has room
pub fits_as : {k : ℕ} {z a : ℤ} → z ≡ a → Room k a → SFits w64 z
fits_as e r = rw e (room_fits r)

pub kept_as : {k : ℕ} {z a : ℤ} → z ≡ a → Room k a → to_z w64 (of_z w64 z) ≡ a
kept_as e r = rw e (to_z-of_z (room_fits r))

-- four bounds as they are read back
pub record Kept (a : Axes) : Type 0 where
  pub kept0 : to_z w64 (of_z w64 a.c0) ≡ a.c0
  pub kept2 : to_z w64 (of_z w64 a.c2) ≡ a.c2
  pub kept4 : to_z w64 (of_z w64 a.c4) ≡ a.c4
  pub kept6 : to_z w64 (of_z w64 a.c6) ≡ a.c6
