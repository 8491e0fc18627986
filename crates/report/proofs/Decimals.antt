-- `decimal` is right: digits and nothing else, no leading zero, the number again when they are read, and no shorter digits for it; and
-- `signed_decimal` gives its number again. Assumes nothing.
use mathlib.Core.Path.{◌≡◌, refl, sym, ap, ◌∙◌}
use mathlib.Core.List.{List, [], ◌∷◌, ◌++◌}
use Prim.Native.Nat.{ℕ, zero, suc, ◌+◌, ◌-◌, ◌*◌, ◌/◌, ◌%◌, ◌^◌, ◌≤◌, ◌<◌}
use native.Mathlib.Omega.{arith}
use native.Mathlib.Nat.{pow-suc, pow-zero, pow-succ', mul_assoc, mul-le-mul_right, lt_of_lt_of_le}
use lib.Dec.{ltb}
use lib.IntN.{ℤ, pos, negsuc, neg_ℤ}
use lib.ListN.{length, get_or, length-append, get_or-append}
use borrow.Author.Tests.{lt-ltb, le-ltb, ltb-true, ltb-false, ne_eqb}
use Rattle.integers.proofs.Tests.{cases}
use Rattle.report.specs.Decimal.{digit, digits, AllDigits, none, more, decimal, value_after, value, minus, signed_decimal, integer}

-- ---- one digit, and one digit more

digits_one : (k n : ℕ) → n < 10 → digits k n ≡ digit n ∷ []
digits_one zero n h = refl
digits_one (suc k) n h = rw (lt-ltb n 10 h, digits)

digits_more : (k n : ℕ) → 10 ≤ n → digits (suc k) n ≡ digits k (n / 10) ++ (digit (n % 10) ∷ [])
digits_more k n h = rw (le-ltb n 10 h, digits)

-- a bound on the digits that is large enough is as good as another
enough : (k m n : ℕ) → n ≤ k → n ≤ m → digits k n ≡ digits m n
enough zero m n h l = digits_one zero n (omega arith) ∙ sym (digits_one m n (omega arith))
enough (suc k) zero n h l = digits_one (suc k) n (omega arith) ∙ sym (digits_one zero n (omega arith))
enough (suc k) (suc m) n h l =
    cases (ltb n 10)
    (λ t. let b = ltb-true n 10 t in digits_one (suc k) n b ∙ sym (digits_one (suc m) n b))
    (λ t. let b = ltb-false n 10 t in
    digits_more k n b ∙ ap (λ (s : List ℕ). s ++ (digit (n % 10) ∷ [])) (enough k m (n / 10) (omega arith) (omega arith)) ∙ sym (digits_more m n b))

pub decimal_one : (n : ℕ) → n < 10 → decimal n ≡ digit n ∷ []
unfolding decimal
decimal_one n h = digits_one n n h

pub decimal_more : (n : ℕ) → 10 ≤ n → decimal n ≡ decimal (n / 10) ++ (digit (n % 10) ∷ [])
unfolding decimal
decimal_more zero h = absurd (omega arith)
decimal_more (suc k) h =
    digits_more k (suc k) h ∙ ap (λ (s : List ℕ). s ++ (digit (suc k % 10) ∷ [])) (enough k (suc k / 10) (suc k / 10) (omega arith) (omega arith))

-- what holds of one digit, and of a number if of its digits but the last, holds of all
by_digits : (P : ℕ → Type 0) → ((n : ℕ) → n < 10 → P n) → ((n : ℕ) → 10 ≤ n → P (n / 10) → P n) → (n : ℕ) → P n
by_digits P one many n = go n n (omega arith)
  where
    go : (k n : ℕ) → n ≤ k → P n
    go zero n h = one n (omega arith)
    go (suc k) n h = cases (ltb n 10) (λ t. one n (ltb-true n 10 t)) (λ t. many n (ltb-false n 10 t) (go k (n / 10) (omega (arith, ltb-false n 10 t))))

-- ---- the number again

value_after_last : (v : ℕ) (s : List ℕ) (b : ℕ) → value_after v (s ++ (b ∷ [])) ≡ value_after v s * 10 + (b - 48)
value_after_last v [] b = refl
value_after_last v (a ∷ s) b = value_after_last (v * 10 + (a - 48)) s b

pub value_decimal : (n : ℕ) → value (decimal n) ≡ n
unfolding value
value_decimal =
    by_digits (λ n. value_after 0 (decimal n) ≡ n)
    (λ n h. rw (decimal_one n h) (omega arith))
    (λ n h r. rw (decimal_more n h, value_after_last 0 (decimal (n / 10)) (digit (n % 10)), r) (omega arith))

-- ---- digits and nothing else

last_digit : {s : List ℕ} (d : ℕ) → d < 10 → AllDigits s → AllDigits (s ++ (digit d ∷ []))
last_digit d h none = more {b = digit d} (omega arith) (omega arith) none
last_digit d h (more l m r) = more l m (last_digit d h r)

pub decimal_digits : (n : ℕ) → AllDigits (decimal n)
decimal_digits =
    by_digits (λ n. AllDigits (decimal n))
    (λ n h. rw (decimal_one n h) (more {b = digit n} (omega arith) (omega arith) none))
    (λ n h r. rw (decimal_more n h) (last_digit (n % 10) (omega arith) r))

-- ---- no leading zero, and fewest digits

pub decimal_some : (n : ℕ) → 1 ≤ length (decimal n)
decimal_some n =
    cases (ltb n 10)
    (λ t. rw (decimal_one n (ltb-true n 10 t)) (omega arith))
    (λ t. rw (decimal_more n (ltb-false n 10 t), length-append) (omega arith))

pub decimal_nought : decimal 0 ≡ digit 0 ∷ []
decimal_nought = decimal_one 0 (omega arith)

pub decimal_leads : (n : ℕ) → 0 < n → digit 1 ≤ get_or (decimal n) 0 0
decimal_leads =
    by_digits (λ n. 0 < n → 49 ≤ get_or (decimal n) 0 0)
    (λ n h l. rw (decimal_one n h) (omega arith))
    (λ n h r l. rw (decimal_more n h, get_or-append (decimal (n / 10)) (digit (n % 10) ∷ []) 0 0 (decimal_some (n / 10))) (r (omega arith)))

-- a number below 10 ^ k has at most k digits
pub length_decimal : (k n : ℕ) → 0 < k → n < 10 ^ k → length (decimal n) ≤ k
length_decimal zero n l h = absurd (omega arith)
length_decimal (suc k) n l h =
    cases (ltb n 10)
    (λ t. rw (decimal_one n (ltb-true n 10 t)) (omega arith))
    (λ t. rw (decimal_more n (ltb-false n 10 t), length-append) (next k (ltb-false n 10 t) (rw pow-suc at h) (length_decimal k (n / 10))))
  where
    next : (k : ℕ) → 10 ≤ n → n < 10 ^ k * 10 → (0 < k → n / 10 < 10 ^ k → length (decimal (n / 10)) ≤ k) → length (decimal (n / 10)) + 1 ≤ suc k
    next zero b h r = absurd (omega (arith, pow-zero 10))
    next (suc k) b h r = omega (arith, r (omega arith) (omega arith))

value_after_below : (v : ℕ) {s : List ℕ} → AllDigits s → value_after v s < (v + 1) * 10 ^ length s
value_after_below v none = omega (arith, pow-zero 10)
value_after_below v (more {b = b} {s = s} l m r) =
    rw (pow-succ' 10 (length s), ← mul_assoc (v + 1) 10 (10 ^ length s))
    (lt_of_lt_of_le (value_after_below (v * 10 + (b - 48)) r) (mul-le-mul_right (10 ^ length s) (omega arith)))

-- no digits that stand for n are fewer
pub decimal_fewest : (s : List ℕ) → AllDigits s → 0 < length s → length (decimal (value s)) ≤ length s
unfolding value
decimal_fewest s d h = length_decimal (length s) (value_after 0 s) h (omega (arith, value_after_below 0 d))

-- ---- signed numbers

integer_unsigned : {s : List ℕ} → AllDigits s → 1 ≤ length s → integer s ≡ pos (value s)
unfolding integer
integer_unsigned none h = absurd (omega arith)
integer_unsigned (more {b = b} {s = s} l m d) h = rw (ne_eqb b minus (λ e. omega (arith, e)), integer)

-- the number again
pub integer_signed_decimal : (z : ℤ) → integer (signed_decimal z) ≡ z
unfolding signed_decimal integer
integer_signed_decimal (pos n) = integer_unsigned (decimal_digits n) (decimal_some n) ∙ ap pos (value_decimal n)
integer_signed_decimal (negsuc n) = ap (λ (m : ℕ). neg_ℤ (pos m)) (value_decimal (suc n))
