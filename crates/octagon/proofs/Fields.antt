-- The eight fields of a struct in memory, read back from their bits. Assumes nothing.
use mathlib.Core.Path.{◌≡◌}
use lib.IntN.{ℤ}
use mir.Syntax.{Width}
use mir.Val.{to_z, of_z}
use mir.Facts.{to_z-of_z}
use Rattle.octagon.specs.Octagon.{Octagon}
use Rattle.octagon.specs.Widths.{Held}

-- eight bounds as a width's bits give them back
abbrev pub back : Width → Octagon → Octagon
back w c = record {
  c0 = to_z w (of_z w c.c0);
  c1 = to_z w (of_z w c.c1);
  c2 = to_z w (of_z w c.c2);
  c3 = to_z w (of_z w c.c3);
  c4 = to_z w (of_z w c.c4);
  c5 = to_z w (of_z w c.c5);
  c6 = to_z w (of_z w c.c6);
  c7 = to_z w (of_z w c.c7);
}

-- bounds that fit are what is read back
pub back_is : (w : Width) (c : Octagon) → Held w c → back w c ≡ c
back_is w c h =
    simp (
      to_z-of_z h.held0,
      to_z-of_z h.held1,
      to_z-of_z h.held2,
      to_z-of_z h.held3,
      to_z-of_z h.held4,
      to_z-of_z h.held5,
      to_z-of_z h.held6,
      to_z-of_z h.held7,
    )

-- eight results that are the bounds of c, stored and read back
pub stored : (w : Width) {c : Octagon} {r0 r1 r2 r3 r4 r5 r6 r7 : ℤ} → Held w c →
    r0 ≡ c.c0 → r1 ≡ c.c1 → r2 ≡ c.c2 → r3 ≡ c.c3 → r4 ≡ c.c4 → r5 ≡ c.c5 → r6 ≡ c.c6 → r7 ≡ c.c7 →
    back w (record { c0 = r0; c1 = r1; c2 = r2; c3 = r3; c4 = r4; c5 = r5; c6 = r6; c7 = r7 }) ≡ c
stored w {c} h e0 e1 e2 e3 e4 e5 e6 e7 = simp (e0, e1, e2, e3, e4, e5, e6, e7) (back_is w c h)
