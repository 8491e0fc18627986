-- `Axes::about` meets its contract: a radius and a coordinate have room in 64 bits. Assumes nothing.
use mathlib.Core.Path.{◌≡◌, refl}
use Prim.Native.Nat.{ℕ, ◌^◌, ◌<◌}
use native.Mathlib.Omega.{arith}
use lib.IntN.{ℤ, pos, ◌+ℤ◌, ◌-ℤ◌}
use mir.Syntax.{w32, w64}
use mir.Val.{SFits, to_z, of_z}
use Rattle.integers.specs.Range.{Room}
use Rattle.integers.proofs.Range.{signs, room_add, room_neg}
use Rattle.clearance.proofs.Wide.{wide, widened_is, natural_is, signed_room, natural_room, kept_as}
use Rattle.clearance.proofs.disc.Axes.about.Goals as goal

-- a radius n farther out than a coordinate z, to either side
module _ (n : ℕ) {z : ℤ} (b : n < 2 ^ 32) (f : SFits w32 z) where
  plus_is : to_z w64 n +ℤ wide z ≡ pos n +ℤ z
  plus_is = rw (natural_is n b, widened_is f) refl

  less_is : to_z w64 n -ℤ wide z ≡ pos n -ℤ z
  less_is = rw (natural_is n b, widened_is f) refl

  plus_room : Room 1 (pos n +ℤ z)
  plus_room = room_add (natural_room n b) (signed_room f)

  less_room : Room 1 (pos n -ℤ z)
  less_room = room_add (natural_room n b) (room_neg (signed_room f))

  plus_kept : to_z w64 (of_z w64 (to_z w64 n +ℤ wide z)) ≡ pos n +ℤ z
  plus_kept = kept_as plus_is plus_room

  less_kept : to_z w64 (of_z w64 (to_z w64 n -ℤ wide z)) ≡ pos n -ℤ z
  less_kept = kept_as less_is less_room

pub returns : goal.returns
returns c =
    let n = c.args.tree.radius in
    let b : n < 2 ^ 32 = omega arith in
    let x : SFits w32 c.args.tree.x = search signs in
    let y : SFits w32 c.args.tree.y = search signs in
    rw (less_kept n b y, plus_kept n b x, plus_kept n b y, less_kept n b x) refl
