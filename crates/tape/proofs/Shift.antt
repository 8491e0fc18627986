-- The number that is added to a coordinate, so that the sum tells its quarters. Assumes nothing.
use mathlib.Core.Bool.{false}
use Prim.Native.Nat.{ℕ, ◌+◌, ◌*◌, ◌^◌}
use lib.IntN.{pos}
use lib.Ieee.{Float, fin}

-- 1.5 × 2^50, and its bits
abbrev pub quarters : Float
quarters = fin false 3 (pos 49)

abbrev pub quarters_bits : ℕ
quarters_bits = 1072 * 2 ^ 52 + 3 * 2 ^ 51
