-- A call that hands over what a function makes of its answer hands over the answer by that function. Assumes nothing.
use mathlib.Core.Path.{◌≡◌}
use mathlib.Core.Bool.{Bool, true, false}
use Prim.Native.Nat.{ℕ}
use Rattle.std.specs.Prelude.{Result, Ok, Err, MatchResult}
use Rattle.std.specs.Result.{IsOkAnd}
use Rattle.octagon.specs.declared.refusal.Refusal.{Refusal}
use Rattle.octagon.specs.Answers.{outcome}
use Rattle.koxirmeta_c.specs.Calls.{fitted, status, Hands}

-- the answer q is what f makes of the answer r
abbrev pub IsMapped : {A B : Type 0} → (A → B) → Result A Refusal → Result B Refusal → Type 0
IsMapped f r q = MatchResult r (λ a. IsOkAnd q (λ b. b ≡ f a)) (λ e. q ≡ Err e)

pub hands_mapped : {A B : Type 0} (f : A → B) (t : Bool) (r : Result A Refusal) (q : Result B Refusal) {m m' : B} {n : ℕ} →
    IsMapped f r q → Hands (fitted t (outcome q)) (λ b. b) m m' n → Hands (fitted t (outcome r)) f m m' n
unfolding fitted status
hands_mapped f true (Ok a) (Ok b) e h = record { answers = h.answers; leaves = rw (← e) h.leaves }
hands_mapped f true (Ok a) (Err d) e h = elim e [ ]
hands_mapped f true (Err e) q i h = let k = rw i at h in record { answers = k.answers; leaves = k.leaves }
hands_mapped f false r q i h = record { answers = h.answers; leaves = h.leaves }
