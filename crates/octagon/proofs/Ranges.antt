-- The bounds of a normal form in a machine's widths. Assumes nothing.
use Prim.Native.Nat.{ℕ, suc}
use lib.IntN.{ℤ, ◌+ℤ◌}
use mir.Syntax.{w32, w64}
use Rattle.integers.specs.Range.{Room}
use Rattle.integers.proofs.Range.{room_fits, room_less, room_i32, room_add, room_half, room_min}
use Rattle.octagon.specs.Octagon.{Octagon}
use Rattle.octagon.specs.NormalForm.{even_bound, odd_bound, tight_even, tight_odd, normal_form}
use Rattle.octagon.specs.Widths.{Held, Roomy}

pub roomy_held : {n : ℕ} {c : Octagon} → Roomy n c → Held w64 c
roomy_held r = record {
  held0 = room_fits r.room0;
  held1 = room_fits r.room1;
  held2 = room_fits r.room2;
  held3 = room_fits r.room3;
  held4 = room_fits r.room4;
  held5 = room_fits r.room5;
  held6 = room_fits r.room6;
  held7 = room_fits r.room7;
}

pub roomy_less : {n : ℕ} {c : Octagon} → Roomy (suc n) c → Roomy n c
roomy_less r = record {
  room0 = room_less r.room0;
  room1 = room_less r.room1;
  room2 = room_less r.room2;
  room3 = room_less r.room3;
  room4 = room_less r.room4;
  room5 = room_less r.room5;
  room6 = room_less r.room6;
  room7 = room_less r.room7;
}

-- bounds in 32 bits leave room for sums of eight, and more
pub roomy_wide : {c : Octagon} → Held w32 c → Roomy 3 c
roomy_wide h = record {
  room0 = room_i32 3 tt h.held0;
  room1 = room_i32 3 tt h.held1;
  room2 = room_i32 3 tt h.held2;
  room3 = room_i32 3 tt h.held3;
  room4 = room_i32 3 tt h.held4;
  room5 = room_i32 3 tt h.held5;
  room6 = room_i32 3 tt h.held6;
  room7 = room_i32 3 tt h.held7;
}

-- from bounds with such room, every step of the normal form stays within 64 bits
even_room : {a b c d e : ℤ} → Room 3 a → Room 3 b → Room 3 c → Room 3 d → Room 3 e → Room 2 (even_bound a b c d e)
unfolding even_bound
even_room {a} {b} {c} {d} {e} f g h i j =
    room_min _ _ (room_min _ _ (room_less h) (room_add f i)) (room_min _ _ (room_add g j) (room_half _ (room_add g i)))

pub roomy_even : (c : Octagon) → Roomy 3 c → Roomy 2 (tight_even c)
unfolding tight_even
roomy_even c h = record {
  room0 = even_room h.room6 h.room7 h.room0 h.room1 h.room2;
  room1 = room_less h.room1;
  room2 = even_room h.room0 h.room1 h.room2 h.room3 h.room4;
  room3 = room_less h.room3;
  room4 = even_room h.room2 h.room3 h.room4 h.room5 h.room6;
  room5 = room_less h.room5;
  room6 = even_room h.room4 h.room5 h.room6 h.room7 h.room0;
  room7 = room_less h.room7;
}

pub roomy_odd : (c : Octagon) → Roomy 2 c → Roomy 1 (tight_odd c)
unfolding tight_odd odd_bound
roomy_odd c h = record {
  room0 = room_less h.room0;
  room1 = room_min c.c1 (c.c0 +ℤ c.c2) (room_less h.room1) (room_add h.room0 h.room2);
  room2 = room_less h.room2;
  room3 = room_min c.c3 (c.c2 +ℤ c.c4) (room_less h.room3) (room_add h.room2 h.room4);
  room4 = room_less h.room4;
  room5 = room_min c.c5 (c.c4 +ℤ c.c6) (room_less h.room5) (room_add h.room4 h.room6);
  room6 = room_less h.room6;
  room7 = room_min c.c7 (c.c6 +ℤ c.c0) (room_less h.room7) (room_add h.room6 h.room0);
}

pub roomy_form : (c : Octagon) → Roomy 3 c → Roomy 1 (normal_form c)
unfolding normal_form
roomy_form c h = roomy_odd (tight_even c) (roomy_even c h)
