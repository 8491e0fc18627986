-- Eight bounds in a machine's widths. Assumes nothing.
use Rattle.std.specs.Prelude.{ℕ}
use Rattle.std.specs.Int.{Width}
use Rattle.std.proofs.Common.{SFits}
use Rattle.integers.specs.Range.{Room}
use Rattle.octagon.specs.Octagon.{Octagon}

-- each bound fits a signed width
pub record Held (w : Width) (c : Octagon) : Type 0 where
  pub held0 : SFits w c.c0
  pub held1 : SFits w c.c1
  pub held2 : SFits w c.c2
  pub held3 : SFits w c.c3
  pub held4 : SFits w c.c4
  pub held5 : SFits w c.c5
  pub held6 : SFits w c.c6
  pub held7 : SFits w c.c7

-- a sum of 2 ^ n bounds fits an i64
pub record Roomy (n : ℕ) (c : Octagon) : Type 0 where
  pub room0 : Room n c.c0
  pub room1 : Room n c.c1
  pub room2 : Room n c.c2
  pub room3 : Room n c.c3
  pub room4 : Room n c.c4
  pub room5 : Room n c.c5
  pub room6 : Room n c.c6
  pub room7 : Room n c.c7
