-- Small values of `laid`, computed: the bytes at the start of the memory, those after them, and the length. Assumes nothing.
use mathlib.Core.Path.{◌≡◌, refl}
use mathlib.Core.List.{[], ◌∷◌}
use Rattle.records.specs.Parts.{splice}
use Rattle.report.specs.Decimal.{decimal}
use Rattle.report.specs.Lines.{refused_line}
use Rattle.listing_c.specs.Listings.{laid}

-- two bytes in memory of five, and the line "refused 8" in memory of twelve
pub listings : (laid (1 ∷ 2 ∷ 3 ∷ 4 ∷ 5 ∷ []) (7 ∷ 6 ∷ []) ≡ (7 ∷ 6 ∷ 3 ∷ 4 ∷ 5 ∷ [], 2))
    × (laid (1 ∷ 2 ∷ 3 ∷ 4 ∷ 5 ∷ 6 ∷ 7 ∷ 8 ∷ 9 ∷ 10 ∷ 11 ∷ 12 ∷ []) (refused_line 8)
    ≡ (114 ∷ 101 ∷ 102 ∷ 117 ∷ 115 ∷ 101 ∷ 100 ∷ 32 ∷ 56 ∷ 10 ∷ 11 ∷ 12 ∷ [], 10))
unfolding splice refused_line decimal
listings = (refl, refl)
