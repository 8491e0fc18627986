-- The test of closing tells the two equations. Assumes nothing.
use mathlib.Core.Path.{◌≡◌}
use mathlib.Core.Bool.{true}
use Prim.Native.Nat.{◌+◌}
use lib.Dec.{eqb}
use borrow.Author.Tests.{eqb-true, eq-eqb}
use Rattle.integers.proofs.Tests.{both_true, and_true}
use Rattle.outline.specs.declared.Outline.{Outline}
use Rattle.outline.specs.Closing.{Closes, closes}

pub test_closes : (o : Outline) → closes o ≡ true → Closes o
unfolding closes
test_closes o h =
    let p = both_true (eqb (o.n0 + o.n1 + o.n7) (o.n3 + o.n4 + o.n5)) (eqb (o.n1 + o.n2 + o.n3) (o.n5 + o.n6 + o.n7)) h in
    record {
      across = eqb-true (o.n0 + o.n1 + o.n7) (o.n3 + o.n4 + o.n5) p.0;
      upward = eqb-true (o.n1 + o.n2 + o.n3) (o.n5 + o.n6 + o.n7) p.1;
    }

pub closes_test : (o : Outline) → Closes o → closes o ≡ true
unfolding closes
closes_test o k =
    and_true
    (eq-eqb (o.n0 + o.n1 + o.n7) (o.n3 + o.n4 + o.n5) k.across)
    (eq-eqb (o.n1 + o.n2 + o.n3) (o.n5 + o.n6 + o.n7) k.upward)
