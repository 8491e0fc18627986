-- Octagons in the logic: eight whole numbers, whatever width the code has them in. Assumes nothing.
use Rattle.std.specs.Prelude.{ℤ}
use Rattle.octagon.specs.declared.Octagon as declared

abbrev pub Octagon : Type 0
Octagon = declared.Octagon ℤ

-- eight 64-bit bounds
abbrev pub Bounds : Type 0
Bounds = Octagon
