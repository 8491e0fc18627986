-- Numbers, fields and records in bytes, computed: the lowest byte first, and two's complement at the ends of its bytes. Assumes nothing.
use mathlib.Core.Path.{◌≡◌, refl}
use mathlib.Core.List.{List, [], ◌∷◌, map}
use Prim.Native.Nat.{ℕ}
use lib.IntN.{pos, negsuc}
use Rattle.records.specs.Text.{ascii}
use Rattle.records.specs.Numbers.{number, bytes, signed, twos, packed, unpacked}
use Rattle.records.specs.Rows.{records, end_to_end}

-- 1 + 2 * 256 + 3 * 256 ^ 2 + 4 * 256 ^ 3
pub little_endian : (number (1 ∷ 2 ∷ 3 ∷ 4 ∷ []) ≡ 67305985) × (bytes 4 67305985 ≡ 1 ∷ 2 ∷ 3 ∷ 4 ∷ []) × (bytes 2 513 ≡ 1 ∷ 2 ∷ [])
little_endian = (refl, refl, refl)

-- two bytes from 0 to 7FFF are a number as it is, and from 8000 to FFFF it less 65,536; the ends of one byte and of four; of no byte 0
pub twos_complement : (map (signed 2) (0 ∷ 513 ∷ 32767 ∷ 32768 ∷ 65535 ∷ []) ≡ pos 0 ∷ pos 513 ∷ pos 32767 ∷ negsuc 32767 ∷ negsuc 0 ∷ [])
    × (map (twos 2) (pos 0 ∷ pos 513 ∷ pos 32767 ∷ negsuc 32767 ∷ negsuc 0 ∷ []) ≡ 0 ∷ 513 ∷ 32767 ∷ 32768 ∷ 65535 ∷ [])
    × (map (signed 1) (127 ∷ 128 ∷ []) ≡ pos 127 ∷ negsuc 127 ∷ []) × (map (signed 4) (2147483647 ∷ 2147483648 ∷ []) ≡ pos 2147483647 ∷ negsuc 2147483647 ∷ [])
    × (signed 0 0 ≡ pos 0)
unfolding signed twos
twos_complement = (refl, refl, refl, refl, refl)

-- fields of 1, 3 and 2 bytes
pub fields_in_order : (unpacked (1 ∷ 3 ∷ 2 ∷ []) (1 ∷ 2 ∷ 3 ∷ 4 ∷ 5 ∷ 6 ∷ 7 ∷ []) ≡ 1 ∷ 262914 ∷ 1541 ∷ [])
    × (packed (1 ∷ 3 ∷ 2 ∷ []) (1 ∷ 262914 ∷ 1541 ∷ []) ≡ 1 ∷ 2 ∷ 3 ∷ 4 ∷ 5 ∷ 6 ∷ [])
fields_in_order = (refl, refl)

-- the codes of a text
pub letters_in_order : ascii "GRND -09\n" ≡ 71 ∷ 82 ∷ 78 ∷ 68 ∷ 32 ∷ 45 ∷ 48 ∷ 57 ∷ 10 ∷ []
letters_in_order = refl

-- records of 5 bytes from index 1
abbrev two : List (List ℕ)
two = (1 ∷ 2 ∷ 3 ∷ 4 ∷ 17 ∷ []) ∷ (5 ∷ 6 ∷ 7 ∷ 8 ∷ 18 ∷ []) ∷ []

pub records_in_order : (records 5 (16 ∷ 1 ∷ 2 ∷ 3 ∷ 4 ∷ 17 ∷ 5 ∷ 6 ∷ 7 ∷ 8 ∷ 18 ∷ 19 ∷ []) 1 2 ≡ two) × (end_to_end two ≡ 1 ∷ 2 ∷ 3 ∷ 4 ∷ 17 ∷ 5 ∷ 6 ∷ 7 ∷ 8 ∷ 18 ∷ [])
records_in_order = (refl, refl)
