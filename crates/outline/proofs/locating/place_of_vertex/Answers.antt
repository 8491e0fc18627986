-- `place_of_vertex` meets its contract: a vertex that fits is cast, and each number is a quarter. Assumes nothing.
use mathlib.Core.Path.{◌≡◌}
use Prim.Native.Nat.{ℕ, ◌<◌, ◌≤◌}
use native.Mathlib.Omega.{arith}
use mir.Facts.{to_z-of_z}
use borrow.Author.Tests.{lt-ltb, le-ltb}
use Rattle.integers.proofs.Range.{wide_fits}
use Rattle.outline.specs.declared.Outline.{Outline}
use Rattle.outline.specs.declared.walk.Cell.{Cell}
use Rattle.outline.specs.Walk.{vertex}
use Rattle.outline.specs.Places.{HeldCell, place_of_vertex}
use Rattle.outline.proofs.locating.place_of_vertex.Goals as goal

-- the vertex that was found fits
fitting : (o : Outline) (k : ℕ) {v : Cell} → ((n : ℕ) → n < 8 → HeldCell (vertex o n)) → k ≤ 7 → v ≡ vertex o k → HeldCell v
fitting o k r l e = rw e (r k (omega arith))

pub returns-then-k-gt7 : goal.returns-then-k-gt7
unfolding place_of_vertex
returns-then-k-gt7 c = rw (lt-ltb 7 c.args.k c.if-k-gt7.true)

pub overflow_cast-v : goal.overflow_cast-v
overflow_cast-v c =
    let east = fitting c.args.o c.args.k c.requires c.if-k-gt7.false c.vertex-v.ensures in
    rw (to_z-of_z (wide_fits east.fits_x)) east.fits_x

pub overflow_cast-v-2 : goal.overflow_cast-v-2
overflow_cast-v-2 c =
    let north = fitting c.args.o c.args.k c.requires c.if-k-gt7.false c.vertex-v.ensures in
    rw (to_z-of_z (wide_fits north.fits_y)) north.fits_y

pub returns : goal.returns
unfolding place_of_vertex
returns c =
    let f = fitting c.args.o c.args.k c.requires c.if-k-gt7.false c.vertex-v.ensures in
    rw (
      le-ltb 7 c.args.k c.if-k-gt7.false,
      c.place_of.ensures,
      to_z-of_z (wide_fits f.fits_x),
      to_z-of_z (wide_fits f.fits_y),
      to_z-of_z f.fits_x,
      to_z-of_z f.fits_y,
      c.vertex-v.ensures,
    )
