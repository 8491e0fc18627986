-- The bounds of a hull: none is less than the first octagon's, and they fit where those of both octagons fit. Assumes nothing.
use mir.Syntax.{Width}
use mir.Val.{SFits}
use Rattle.integers.proofs.Minimum.{max_ind, max_left}
use Rattle.octagon.specs.Octagon.{Octagon}
use Rattle.octagon.specs.Widths.{Held}
use Rattle.octagon.proofs.Unique.{AtMost}
use Rattle.tape.specs.Hull.{hull}

pub hull_left : (a b : Octagon) → AtMost a (hull a b)
unfolding hull
hull_left a b = record {
  m0 = max_left a.c0 b.c0;
  m1 = max_left a.c1 b.c1;
  m2 = max_left a.c2 b.c2;
  m3 = max_left a.c3 b.c3;
  m4 = max_left a.c4 b.c4;
  m5 = max_left a.c5 b.c5;
  m6 = max_left a.c6 b.c6;
  m7 = max_left a.c7 b.c7;
}

-- bounds that fit have a hull that fits
pub hull_held : {w : Width} {a b : Octagon} → Held w a → Held w b → Held w (hull a b)
unfolding hull
hull_held {w} {a} {b} h k = record {
  held0 = max_ind (SFits w) a.c0 b.c0 (λ _. h.held0) (λ _. k.held0);
  held1 = max_ind (SFits w) a.c1 b.c1 (λ _. h.held1) (λ _. k.held1);
  held2 = max_ind (SFits w) a.c2 b.c2 (λ _. h.held2) (λ _. k.held2);
  held3 = max_ind (SFits w) a.c3 b.c3 (λ _. h.held3) (λ _. k.held3);
  held4 = max_ind (SFits w) a.c4 b.c4 (λ _. h.held4) (λ _. k.held4);
  held5 = max_ind (SFits w) a.c5 b.c5 (λ _. h.held5) (λ _. k.held5);
  held6 = max_ind (SFits w) a.c6 b.c6 (λ _. h.held6) (λ _. k.held6);
  held7 = max_ind (SFits w) a.c7 b.c7 (λ _. h.held7) (λ _. k.held7);
}
