-- `Axes::with_slants` meets its contract: each sum has room in 64 bits, and fits 32 by what is required. Assumes nothing.
use mathlib.Core.Path.{◌≡◌, refl}
use Prim.Native.Nat.{ℕ, ◌^◌, ◌<◌}
use native.Mathlib.Omega.{arith}
use lib.IntN.{ℤ, pos, neg_ℤ, ◌+ℤ◌, ◌-ℤ◌, +ℤ_assoc}
use mir.Syntax.{w32, w64}
use mir.Val.{SFits, to_z, of_z}
use mir.Facts.{to_z-of_z}
use Rattle.integers.specs.Range.{Room}
use Rattle.integers.proofs.Range.{signs, wide_fits, room_add, room_neg, room_less}
use Rattle.octagon.specs.Octagon.{Octagon}
use Rattle.octagon.specs.Widths.{Held}
use Rattle.octagon.proofs.Fields.{stored}
use Rattle.clearance.specs.declared.disc.Axes.{Axes}
use Rattle.clearance.specs.Clearing.{with_slants}
use Rattle.clearance.proofs.Wide.{wide, widened_is, natural_is, signed_room, natural_room, fits_as, kept_as, Kept}
use Rattle.clearance.proofs.disc.Axes.with_slants.Goals as goal

module _ (a : Axes) (x y : ℤ) (n : ℕ) (b : n < 2 ^ 32) (f : SFits w32 x) (g : SFits w32 y) where
  -- ---- the numbers as they are read back, and their room

  abbrev s : ℤ
  s = pos n

  abbrev about : Octagon
  about = with_slants a x y n

  x_is : wide x ≡ x
  x_is = widened_is f

  y_is : wide y ≡ y
  y_is = widened_is g

  s_is : to_z w64 n ≡ s
  s_is = natural_is n b

  x_room : Room 2 x
  x_room = signed_room f

  y_room : Room 2 y
  y_room = signed_room g

  s_room : Room 2 s
  s_room = natural_room n b

  -- ---- the farthest columns of the slants, in the centre's row

  east_is : to_z w64 n +ℤ wide x ≡ s +ℤ x
  east_is = rw (s_is, x_is) refl

  west_is : to_z w64 n -ℤ wide x ≡ s -ℤ x
  west_is = rw (s_is, x_is) refl

  east_room : Room 1 (s +ℤ x)
  east_room = room_add s_room x_room

  west_room : Room 1 (s -ℤ x)
  west_room = room_add s_room (room_neg x_room)

  -- ---- each bound along a slant as it is worked out, and its room

  is1 : to_z w64 (of_z w64 (to_z w64 n +ℤ wide x)) -ℤ wide y ≡ about.c1
  is1 = rw (kept_as east_is east_room, y_is) (+ℤ_assoc s x (neg_ℤ y))

  is3 : to_z w64 (of_z w64 (to_z w64 n +ℤ wide x)) +ℤ wide y ≡ about.c3
  is3 = rw (kept_as east_is east_room, y_is) (+ℤ_assoc s x y)

  is5 : to_z w64 (of_z w64 (to_z w64 n -ℤ wide x)) +ℤ wide y ≡ about.c5
  is5 = rw (kept_as west_is west_room, y_is) (+ℤ_assoc s (neg_ℤ x) y)

  is7 : to_z w64 (of_z w64 (to_z w64 n -ℤ wide x)) -ℤ wide y ≡ about.c7
  is7 = rw (kept_as west_is west_room, y_is) (+ℤ_assoc s (neg_ℤ x) (neg_ℤ y))

  room1 : Room 0 about.c1
  room1 = room_add (room_less s_room) (room_add x_room (room_neg y_room))

  room3 : Room 0 about.c3
  room3 = room_add (room_less s_room) (room_add x_room y_room)

  room5 : Room 0 about.c5
  room5 = room_add (room_less s_room) (room_add (room_neg x_room) y_room)

  room7 : Room 0 about.c7
  room7 = room_add (room_less s_room) (room_add (room_neg x_room) (room_neg y_room))

  sum5_fits : SFits w64 (to_z w64 (of_z w64 (to_z w64 n -ℤ wide x)) +ℤ wide y)
  sum5_fits = fits_as is5 room5

  kept1 : to_z w64 (of_z w64 (to_z w64 (of_z w64 (to_z w64 n +ℤ wide x)) -ℤ wide y)) ≡ about.c1
  kept1 = kept_as is1 room1

  kept3 : to_z w64 (of_z w64 (to_z w64 (of_z w64 (to_z w64 n +ℤ wide x)) +ℤ wide y)) ≡ about.c3
  kept3 = kept_as is3 room3

  kept5 : to_z w64 (of_z w64 (to_z w64 (of_z w64 (to_z w64 n -ℤ wide x)) +ℤ wide y)) ≡ about.c5
  kept5 = kept_as is5 room5

  kept7 : to_z w64 (of_z w64 (to_z w64 (of_z w64 (to_z w64 n -ℤ wide x)) -ℤ wide y)) ≡ about.c7
  kept7 = kept_as is7 room7

  -- ---- and those along the axes, which are passed on

  kept : Held w32 about → Kept a
  kept h = record {
    kept0 = to_z-of_z (wide_fits h.held0);
    kept2 = to_z-of_z (wide_fits h.held2);
    kept4 = to_z-of_z (wide_fits h.held4);
    kept6 = to_z-of_z (wide_fits h.held6);
  }

pub overflow_cast-result-5 : goal.overflow_cast-result-5
overflow_cast-result-5 c = rw (kept1 c.args.self c.args.tree.x c.args.tree.y c.args.reach (omega arith) (search signs) (search signs)) c.requires.held1

pub overflow_cast-result-6 : goal.overflow_cast-result-6
overflow_cast-result-6 c = rw (kept3 c.args.self c.args.tree.x c.args.tree.y c.args.reach (omega arith) (search signs) (search signs)) c.requires.held3

pub overflow_add-result-4 : goal.overflow_add-result-4
overflow_add-result-4 c = sum5_fits c.args.self c.args.tree.x c.args.tree.y c.args.reach (omega arith) (search signs) (search signs)

pub overflow_cast-result-7 : goal.overflow_cast-result-7
overflow_cast-result-7 c = rw (kept5 c.args.self c.args.tree.x c.args.tree.y c.args.reach (omega arith) (search signs) (search signs)) c.requires.held5

pub overflow_cast-result-8 : goal.overflow_cast-result-8
overflow_cast-result-8 c = rw (kept7 c.args.self c.args.tree.x c.args.tree.y c.args.reach (omega arith) (search signs) (search signs)) c.requires.held7

pub returns : goal.returns
returns c =
    let a = c.args.self in
    let x = c.args.tree.x in
    let y = c.args.tree.y in
    let n = c.args.reach in
    let b : n < 2 ^ 32 = omega arith in
    let f : SFits w32 x = search signs in
    let g : SFits w32 y = search signs in
    let k = kept a x y n b f g c.requires in
    stored w32 c.requires
    k.kept0
    (kept1 a x y n b f g)
    k.kept2
    (kept3 a x y n b f g)
    k.kept4
    (kept5 a x y n b f g)
    k.kept6
    (kept7 a x y n b f g)
