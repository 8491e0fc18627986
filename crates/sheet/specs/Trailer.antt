-- The trailer that ends a sheet, as document 01 lays it out, over the record length. Assumes nothing.
use Rattle.std.specs.Prelude.{ℕ, ◌*◌, List, [], ◌∷◌, ◌++◌, get_or, drop}
use Rattle.records.specs.Text.{ascii}
use Rattle.records.specs.Numbers.{number, bytes, packed, unpacked}
use Rattle.sheet.specs.declared.trailer.Trailer.{Trailer}

-- its length in bytes
abbrev pub trailer_length : ℕ
trailer_length = 16

-- the letters GRND, as the number that their bytes are
abbrev pub letters : ℕ
letters = number (ascii "GRND")

-- its fields: distance back to the first record, record count, record length, two zero bytes, letters
abbrev pub trailer_layout : List ℕ
trailer_layout = 4 ∷ 4 ∷ 2 ∷ 2 ∷ 4 ∷ []

-- the numbers in the trailer of n records of L bytes each, and its bytes
abbrev pub trailer_values : ℕ → ℕ → List ℕ
trailer_values L n = L * n ∷ n ∷ L ∷ 0 ∷ letters ∷ []

unfoldable pub trailer : ℕ → ℕ → List ℕ
trailer L n = packed trailer_layout (trailer_values L n)

-- its last eight bytes for records of L bytes, however many: the record length, two zero bytes and the letters
abbrev pub marks : ℕ → List ℕ
marks L = bytes 2 L ++ (0 ∷ 0 ∷ ascii "GRND")

-- the trailer of these numbers, and the trailer at index t of s
abbrev pub trailer_from : List ℕ → Trailer
trailer_from v = record { distance = get_or v 0 0; count = get_or v 1 0; length = get_or v 2 0; zeros = get_or v 3 0; letters = get_or v 4 0 }

unfoldable pub trailer_at : List ℕ → ℕ → Trailer
trailer_at s t = trailer_from (unpacked trailer_layout (drop t s))
