-- `unpack` meets its contract. Assumes nothing.
use mathlib.Core.Path.{◌≡◌}
use mathlib.Core.List.{append-nil}
use Prim.Native.Nat.{ℕ}
use native.Mathlib.Omega.{arith}
use lib.ListN.{drop, length-replicate}
use lib.Seq.{take_all}
use Rattle.std.proofs.lemmas.List.{drop_all}
use Rattle.records.specs.Numbers.{unpacked}
use Rattle.sheet.proofs.Layouts.{field_below}
use Rattle.sheet.proofs.numbers.unpack.Goals as goal

-- the bytes that were read are below 256
pub returns-clause-fit : goal.returns-clause-fit
returns-clause-fit g c k h =
    let a = c.args in
    let l = c.loop-k in
    let e : l.values ≡ unpacked a.widths.now (drop a.at a.s.now) =
    rw (take_all l.k l.values (omega (arith, length-replicate {A = ℕ} g.row.N 0)), drop_all l.k a.widths.now (omega arith), append-nil l.values) at l.invariant.4 in
    rw e (field_below a.widths.now a.s.now a.at k (λ i. omega (arith, c.type_inv.s i)) (omega arith))
