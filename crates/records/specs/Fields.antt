-- Where the fields of a layout stand in bytes: what the theorems on layouts speak of. Assumes nothing.
use Rattle.std.specs.Prelude.{◌≡◌, List, ℕ, ◌<◌, length, take, get_or}
use Rattle.records.specs.Numbers.{number, total_width}
use Rattle.records.specs.Parts.{part}

-- the index at which field k begins: the fields before it take so many bytes
abbrev pub field_at : List ℕ → ℕ → ℕ
field_at ws k = total_width (take k ws)

-- the bytes of field k
abbrev pub field : List ℕ → List ℕ → ℕ → List ℕ
field ws b k = part b (field_at ws k) (get_or ws k 0)

-- the bytes b have the numbers vs in fields of these widths: number k is the one in field k
abbrev pub HasFields : List ℕ → List ℕ → List ℕ → Type 0
HasFields ws b vs = (k : ℕ) → k < length ws → number (field ws b k) ≡ get_or vs k 0
