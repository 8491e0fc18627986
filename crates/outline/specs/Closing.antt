-- When an outline closes, in the two equations of document 01. Assumes nothing.
use Rattle.std.specs.Prelude.{◌≡◌, Bool, ◌&&◌, ◌+◌, eqb}
use Rattle.outline.specs.declared.Outline.{Outline}

-- as many columns are walked forth as back, and as many rows up as down
pub record Closes (o : Outline) : Type 0 where
  pub across : o.n0 + o.n1 + o.n7 ≡ o.n3 + o.n4 + o.n5
  pub upward : o.n1 + o.n2 + o.n3 ≡ o.n5 + o.n6 + o.n7

-- the test of it
unfoldable pub closes : Outline → Bool
closes o = eqb (o.n0 + o.n1 + o.n7) (o.n3 + o.n4 + o.n5) && eqb (o.n1 + o.n2 + o.n3) (o.n5 + o.n6 + o.n7)
