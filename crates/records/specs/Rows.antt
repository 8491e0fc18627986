-- Records of one length L in a list of bytes, each the list of its own bytes. Assumes nothing.
use Rattle.std.specs.Prelude.{ℕ, zero, suc, ◌+◌, List, [], ◌∷◌, ◌++◌}
use Rattle.records.specs.Parts.{part}

-- the n records of L bytes each from index at
abbrev pub records : ℕ → List ℕ → ℕ → ℕ → List (List ℕ)
records L s at zero = []
records L s at (suc n) = part s at L ∷ records L s (at + L) n

-- the bytes of records, one after the other
abbrev pub end_to_end : List (List ℕ) → List ℕ
end_to_end [] = []
end_to_end (r ∷ rs) = r ++ end_to_end rs
