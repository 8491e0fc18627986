-- A sheet whose trailer names 24 or 26 bytes a record, or a length that no record has, is listed by the rules of such sheets alone
-- (`listing_kept`). Assumes nothing.
use mathlib.Core.Path.{◌≡◌, ap}
use mathlib.Core.List.{List}
use Prim.Native.Nat.{ℕ, ◌-◌}
use Rattle.sheet.specs.Layout.{county_length}
use Rattle.sheet.specs.Trailer.{trailer_length, trailer_at}
use Rattle.sheet.specs.OldSheets.{old_parsed}
use Rattle.sheet.proofs.OldSheets.{parse_kept}
use Rattle.report.specs.Listing.{text_of, listing}

-- the text of what those rules read, or of their refusal
pub listing_kept : (s : List ℕ) (len : ℕ) → ¬ ((trailer_at s (len - trailer_length)).length ≡ county_length) → listing s len ≡ text_of (old_parsed s len)
unfolding listing
listing_kept s len n = ap text_of (parse_kept s len n)
