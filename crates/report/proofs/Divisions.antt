-- Texts that are divided by a byte: into lines, and a line into its words, which are the ones it was made of. Assumes nothing.
use mathlib.Core.Path.{◌≡◌, refl, ap, ◌∙◌}
use mathlib.Core.List.{List, [], ◌∷◌, ◌++◌, map, append-nil, append_assoc}
use mathlib.Core.Bool.{Bool, true, ◌&&◌}
use Prim.Native.Nat.{ℕ, ◌≤◌, ◌<◌}
use native.Mathlib.Omega.{arith}
use lib.Dec.{ltb}
use lib.IntN.{ℤ, pos, negsuc}
use borrow.Author.Tests.{ltb-true, eq-eqb, ne_eqb}
use Rattle.integers.proofs.Tests.{both_true}
use Rattle.report.specs.Decimal.{AllDigits, none, more, minus, signed_decimal}
use Rattle.report.specs.Lines.{space, newline, line}
use Rattle.report.specs.ReadBack.{divided}
use Rattle.report.proofs.Decimals.{decimal_digits}

-- ---- a text whose bytes are all above the one that divides

pub data Above (b : ℕ) : List ℕ → Type 0 where
  nothing : Above b []
  byte : {a : ℕ} {s : List ℕ} → b < a → Above b s → Above b (a ∷ s)

above_append : {b : ℕ} {s t : List ℕ} → Above b s → Above b t → Above b (s ++ t)
above_append nothing k = k
above_append (byte h r) k = byte h (above_append r k)

above_less : {a b : ℕ} {s : List ℕ} → a ≤ b → Above b s → Above a s
above_less l nothing = nothing
above_less l (byte {a = c} h r) = byte {a = c} (omega arith) (above_less l r)

divided_whole : {b : ℕ} {w : List ℕ} → Above b w → divided b w ≡ w ∷ []
unfolding divided
divided_whole nothing = refl
divided_whole {b} (byte {a = a} h r) = rw (ne_eqb a b (λ e. omega (arith, e)), divided, divided_whole r)

pub divided_first : {b : ℕ} {w : List ℕ} (t : List ℕ) → Above b w → divided b (w ++ (b ∷ t)) ≡ w ∷ divided b t
unfolding divided
divided_first {b} t nothing = rw (eq-eqb b b refl, divided)
divided_first {b} t (byte {a = a} h r) = rw (ne_eqb a b (λ e. omega (arith, e)), divided, divided_first t r)

-- a text that is at hand is tested
abbrev pub are_above : ℕ → List ℕ → Bool
are_above b [] = true
are_above b (a ∷ s) = ltb b a && are_above b s

pub tested_above : (b : ℕ) (s : List ℕ) → are_above b s ≡ true → Above b s
tested_above b [] t = nothing
tested_above b (a ∷ s) t = let p = both_true (ltb b a) (are_above b s) t in byte (ltb-true b a p.0) (tested_above b s p.1)

-- ---- words

-- words that hold no space and no newline
pub data Words : List (List ℕ) → Type 0 where
  no_word : Words []
  word : {w : List ℕ} {ws : List (List ℕ)} → Above space w → Words ws → Words (w ∷ ws)

digits_word : {s : List ℕ} → AllDigits s → Above space s
digits_word none = nothing
digits_word (more {b = b} l m r) = byte {a = b} (omega arith) (digits_word r)

pub signed_decimal_word : (z : ℤ) → Above space (signed_decimal z)
unfolding signed_decimal
signed_decimal_word (pos n) = digits_word (decimal_digits n)
signed_decimal_word (negsuc n) = byte {a = minus} (omega arith) (digits_word (decimal_digits _))

pub integer_words : (zs : List ℤ) → Words (map signed_decimal zs)
integer_words [] = no_word
integer_words (z ∷ zs) = word (signed_decimal_word z) (integer_words zs)

-- ---- a line of words

-- words with a space between any two
abbrev phrase : List ℕ → List (List ℕ) → List ℕ
phrase w [] = w
phrase w (v ∷ vs) = w ++ (space ∷ phrase v vs)

line_phrase : (w : List ℕ) (ws : List (List ℕ)) → line w ws ≡ phrase w ws ++ (newline ∷ [])
line_phrase w [] = refl
line_phrase w (v ∷ vs) = rw (append_assoc w (space ∷ phrase v vs) (newline ∷ []), line_phrase v vs)

phrase_above : {w : List ℕ} {ws : List (List ℕ)} → Words (w ∷ ws) → Above newline (phrase w ws)
phrase_above (word h no_word) = above_less (omega arith) h
phrase_above (word h (word k r)) = above_append (above_less (omega arith) h) (byte {a = space} (omega arith) (phrase_above (word k r)))

phrase_divided : {w : List ℕ} {ws : List (List ℕ)} → Words (w ∷ ws) → divided space (phrase w ws) ≡ w ∷ ws
phrase_divided (word h no_word) = divided_whole h
phrase_divided (word {w = w} h (word {w = v} {ws = vs} k r)) =
    divided_first (phrase v vs) h ∙ ap (λ (ps : List (List ℕ)). w ∷ ps) (phrase_divided (word k r))

-- the text b is a line, with the newline that ends it, and has these words
pub record Lined (b : List ℕ) (ws : List (List ℕ)) : Type 0 where
  pub unended : List ℕ
  pub followed : (t : List ℕ) → divided newline (b ++ t) ≡ unended ∷ divided newline t
  pub alone : divided newline b ≡ unended ∷ [] ∷ []
  pub words : divided space unended ≡ ws

pub lined : {w : List ℕ} {ws : List (List ℕ)} → Words (w ∷ ws) → Lined (line w ws) (w ∷ ws)
unfolding divided
lined {w} {ws} h =
    let f : (t : List ℕ) → divided newline (line w ws ++ t) ≡ phrase w ws ∷ divided newline t =
    λ t. rw (line_phrase w ws, append_assoc (phrase w ws) (newline ∷ []) t) (divided_first t (phrase_above h)) in
    record { unended = phrase w ws; followed = f; alone = rw (append-nil (line w ws)) at (f []); words = phrase_divided h }
