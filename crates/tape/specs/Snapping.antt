-- A coordinate's cell: the definition that computes, what it means, and what the steps of the code find. proofs/Coordinates.antt,
-- Nearest.antt and Between.antt join them. Assumes nothing.
use Rattle.std.specs.Prelude.{Bool, true, false, not, ◌&&◌, ℕ, ◌+◌, ◌*◌, ◌/◌, ◌<◌, ℤ, pos, negsuc, neg_ℤ, ◌+ℤ◌, ◌-ℤ◌, ◌*ℤ◌, ◌≤ℤ◌, ◌<ℤ◌, Float}
use Rattle.std.specs.Float.{nan, inf, fin}
use Rattle.std.specs.Float.Ieee.{up, down, le}
use Rattle.std.specs.Float.Ieee.Exact.{HasValue}
use Rattle.octagon.specs.Outcome.{Outcome, accepted, refused}
use Rattle.octagon.specs.Cells.{limit}
use Rattle.outline.specs.Places.{over}

-- the refusal number of a coordinate that is no number or an infinity
abbrev pub not_finite : ℕ
not_finite = 14

-- n, below nought where s is true
abbrev pub with_sign : Bool → ℕ → ℤ
with_sign false n = pos n
with_sign true n = neg_ℤ (pos n)

-- z / d rounded down, for a d above nought
abbrev pub floored : ℤ → ℕ → ℤ
floored (pos n) d = pos (n / d)
floored (negsuc n) d = negsuc (n / d)

-- "A coordinate e becomes the greatest whole number n with n × 0.25 - 0.125 at most e": (8 × e + 1) / 2 rounded down, where e is
-- ±m × up x / down x
unfoldable pub snapped : Float → Outcome ℤ
snapped nan = refused not_finite
snapped (inf s) = refused not_finite
snapped (fin s m x) = accepted (floored (with_sign s (8 * (m * up x)) +ℤ pos (down x)) (2 * down x))

-- ±a / d lies in the cell n: n / 4 - 1 / 8 is at most it, and (n + 1) / 4 - 1 / 8 is above it, both sides taken 8 × d times
pub record Spans (n : ℤ) (s : Bool) (a d : ℕ) : Type 0 where
  pub reached : (((n +ℤ n) -ℤ pos 1) *ℤ pos d) ≤ℤ with_sign s (8 * a)
  pub passed : with_sign s (8 * a) <ℤ (((n +ℤ n) +ℤ pos 1) *ℤ pos d)

-- the coordinate e lies in the cell n: it is some ±a / d that does
pub record InCell (e : Float) (n : ℤ) : Type 0 where
  pub sign : Bool
  pub size : ℕ
  pub part : ℕ
  pub some_part : 0 < part
  pub value : HasValue e sign size part
  pub spans : Spans n sign size part

-- ---- what the code compares with

-- the lower edge of the cell n in metres: n / 4 - 1 / 8, which is (2 × n - 1) / 8
abbrev pub edge : ℤ → Float
edge n = over ((n +ℤ n) -ℤ pos 1) 8

-- e is in one of the map's cells: at or above the lower edge of the first, and below that of the one past the last
abbrev pub within_edges : Float → Bool
within_edges e = le (edge (neg_ℤ (pos limit))) e && not (le (edge (pos (limit + 1))) e)

-- n quarters are as near to e as any other whole number of quarters: e is within an eighth of them
abbrev pub Nearest : ℤ → Float → Type 0
Nearest n nan = ⊥
Nearest n (inf s) = ⊥
Nearest n (fin s m x) =
    ((((n +ℤ n) -ℤ pos 1) *ℤ pos (down x)) ≤ℤ with_sign s (8 * (m * up x))) × (with_sign s (8 * (m * up x)) ≤ℤ (((n +ℤ n) +ℤ pos 1) *ℤ pos (down x)))
