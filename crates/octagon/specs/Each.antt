-- A fact of each of the eight bounds: of one octagon, of two bound for bound, and of three. Assumes nothing.
use Rattle.octagon.specs.declared.Octagon.{Octagon}

pub record Each {A : Type 0} (P : A → Type 0) (a : Octagon A) : Type 0 where
  pub each0 : P a.c0
  pub each1 : P a.c1
  pub each2 : P a.c2
  pub each3 : P a.c3
  pub each4 : P a.c4
  pub each5 : P a.c5
  pub each6 : P a.c6
  pub each7 : P a.c7

pub record Each2 {A B : Type 0} (P : A → B → Type 0) (a : Octagon A) (b : Octagon B) : Type 0 where
  pub each0 : P a.c0 b.c0
  pub each1 : P a.c1 b.c1
  pub each2 : P a.c2 b.c2
  pub each3 : P a.c3 b.c3
  pub each4 : P a.c4 b.c4
  pub each5 : P a.c5 b.c5
  pub each6 : P a.c6 b.c6
  pub each7 : P a.c7 b.c7

pub record Each3 {A B C : Type 0} (P : A → B → C → Type 0) (a : Octagon A) (b : Octagon B) (c : Octagon C) : Type 0 where
  pub each0 : P a.c0 b.c0 c.c0
  pub each1 : P a.c1 b.c1 c.c1
  pub each2 : P a.c2 b.c2 c.c2
  pub each3 : P a.c3 b.c3 c.c3
  pub each4 : P a.c4 b.c4 c.c4
  pub each5 : P a.c5 b.c5 c.c5
  pub each6 : P a.c6 b.c6 c.c6
  pub each7 : P a.c7 b.c7 c.c7
