-- Lists of bytes, and numbers in bytes, the lowest byte first (document 01: little-endian), signed ones in two's complement; and numbers in
-- fields of given widths, one after the other. Assumes nothing.
use Rattle.std.specs.Prelude.{ℕ, zero, suc, ◌+◌, ◌-◌, ◌*◌, ◌/◌, ◌%◌, ◌^◌, ◌<◌, Bool, true, cond, ◌&&◌, List, [], ◌∷◌, ◌++◌, take, drop, get_or, leb, ltb, ℤ, pos, negsuc, ◌-ℤ◌}

-- each element is a byte
abbrev pub AreBytes : List ℕ → Type 0
AreBytes s = (i : ℕ) → get_or s i 0 < 256

-- the number that bytes are
abbrev pub number : List ℕ → ℕ
number [] = 0
number (b ∷ s) = b + 256 * number s

-- the lowest w bytes of a number
abbrev pub bytes : ℕ → ℕ → List ℕ
bytes zero v = []
bytes (suc w) v = (v % 256) ∷ bytes w (v / 256)

-- the signed number that v is in two's complement of w bytes, and the v that a signed number is
unfoldable pub signed : ℕ → ℕ → ℤ
signed w v = cond (ltb (2 * v) (256 ^ w)) (pos v) (pos v -ℤ pos (256 ^ w))

unfoldable pub twos : ℕ → ℤ → ℕ
twos w (pos n) = n
twos w (negsuc n) = 256 ^ w - suc n

-- fields of these widths, in bytes: how long they are together, the numbers in them, and the bytes of numbers
abbrev pub total_width : List ℕ → ℕ
total_width [] = 0
total_width (w ∷ ws) = w + total_width ws

-- no field is wider than a number of 32 bits
abbrev pub narrow : List ℕ → Bool
narrow [] = true
narrow (w ∷ ws) = leb w 4 && narrow ws

abbrev pub unpacked : List ℕ → List ℕ → List ℕ
unpacked [] s = []
unpacked (w ∷ ws) s = number (take w s) ∷ unpacked ws (drop w s)

abbrev pub packed : List ℕ → List ℕ → List ℕ
packed [] vs = []
packed (w ∷ ws) [] = []
packed (w ∷ ws) (v ∷ vs) = bytes w v ++ packed ws vs
