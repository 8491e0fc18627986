-- Numbers as decimal text: definitions that compute, and the numbers that texts stand for. proofs/Decimals.antt ties the two.
-- Assumes nothing.
use Rattle.std.specs.Prelude.{true, false, List, [], ◌∷◌, ◌++◌, ℕ, zero, suc, ◌+◌, ◌-◌, ◌*◌, ◌/◌, ◌%◌, ◌≤◌, ltb, eqb, ℤ, pos, negsuc, nat_abs, neg_ℤ}

-- the byte of a digit: `0` is 48, `9` is 57
abbrev pub digit : ℕ → ℕ
digit d = 48 + d

-- the digits of n, the highest first, where n has at most k + 1 of them
abbrev pub digits : ℕ → ℕ → List ℕ
digits zero n = digit n ∷ []
digits (suc k) n = elim (ltb n 10) [ true ↦ digit n ∷ [] | false ↦ digits k (n / 10) ++ (digit (n % 10) ∷ []) ]

-- bytes that are digits and nothing else
pub data AllDigits : List ℕ → Type 0 where
  none : AllDigits []
  more : {b : ℕ} {s : List ℕ} → 48 ≤ b → b ≤ 57 → AllDigits s → AllDigits (b ∷ s)

-- a number in fewest digits: n has at most n + 1 of them
unfoldable pub decimal : ℕ → List ℕ
decimal n = digits n n

-- the number that digits stand for, read from the left after digits that stand for v
abbrev pub value_after : ℕ → List ℕ → ℕ
value_after v [] = v
value_after v (b ∷ s) = value_after (v * 10 + (b - 48)) s

unfoldable pub value : List ℕ → ℕ
value s = value_after 0 s

-- a signed number: a minus sign where it is below nought, and the digits of its magnitude
abbrev pub minus : ℕ
minus = 45

abbrev pub sign : ℤ → List ℕ
sign (pos n) = []
sign (negsuc n) = minus ∷ []

unfoldable pub signed_decimal : ℤ → List ℕ
signed_decimal z = sign z ++ decimal (nat_abs z)

-- the signed number that such text stands for
unfoldable pub integer : List ℕ → ℤ
integer [] = pos 0
integer (b ∷ s) = elim (eqb b minus) [ true ↦ neg_ℤ (pos (value s)) | false ↦ pos (value (b ∷ s)) ]
