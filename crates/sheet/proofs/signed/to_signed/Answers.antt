-- `to_signed` meets its contract. Assumes nothing.
use mathlib.Core.Path.{◌≡◌}
use Prim.Native.Nat.{◌/◌}
use lib.IntN.{◌-ℤ◌}
use mir.Syntax.{w32, w64}
use mir.Val.{SFits, to_z}
use mir.Facts.{to_z-of_z}
use Rattle.integers.proofs.Range.{wide_fits}
use Rattle.records.specs.Numbers.{signed}
use Rattle.sheet.proofs.TwosComplement.{turned, turned_fits, turned_back, signed_fits}
use Rattle.sheet.proofs.signed.to_signed.Goals.{After-power-all}
use Rattle.sheet.proofs.signed.to_signed.Goals as goal

-- what is turned half way round and back is the signed number, and that fits
back : (c : After-power-all) → let a = c.args in let f = c.power-all.result in to_z w64 (turned f a.v) -ℤ to_z w64 (f / 2) ≡ signed a.width a.v
back c = turned_back c.requires.0 c.requires.1 c.power-all.ensures

fits : (c : After-power-all) → let a = c.args in SFits w32 (signed a.width a.v)
fits c = signed_fits c.args.width c.args.v c.requires.0 c.requires.1

pub overflow_cast-result-2 : goal.overflow_cast-result-2
overflow_cast-result-2 c = turned_fits c.requires.0 c.requires.1 c.power-all.ensures

pub overflow_sub-result : goal.overflow_sub-result
overflow_sub-result c = rw (back c) (wide_fits (fits c))

pub overflow_cast-result-4 : goal.overflow_cast-result-4
overflow_cast-result-4 c = rw (back c, to_z-of_z (wide_fits (fits c))) (fits c)

pub returns : goal.returns
returns c = rw (back c, to_z-of_z (wide_fits (fits c)), to_z-of_z (fits c))
