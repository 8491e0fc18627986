-- What single failures of a read or a write mean, and how many bytes were read, computed. Assumes nothing.
use mathlib.Core.Path.{◌≡◌, refl}
use mathlib.Core.Bool.{true, false}
use mathlib.Core.List.{[], ◌∷◌, map}
use Rattle.std.specs.Prelude.{ℕ, ◌-◌, ◌^◌, pos, negsuc, Ok, Err}
use Rattle.std.specs.declared.io.ErrorKind.TheVariants.{Interrupted, WouldBlock, IsADirectory, Uncategorized}
use Rattle.listing_io.specs.Transfers.{made_again, bytes_read, Failure, interrupted, failed, answer_of, told, bytes_moved}

-- a signal interrupted the call, with many tries left, one and none; and other failures, whatever is left
pub failures_made_again :
    made_again Interrupted 1000 ∷ made_again Interrupted 1 ∷ made_again Interrupted 0 ∷ made_again WouldBlock 1000 ∷ made_again IsADirectory 1 ∷ made_again Uncategorized 0 ∷ []
    ≡ true ∷ true ∷ false ∷ false ∷ false ∷ false ∷ []
failures_made_again = refl

pub input_bytes : map (bytes_read {E = ℕ}) (Ok 0 ∷ Ok 64 ∷ Err 9 ∷ []) ≡ 0 ∷ 64 ∷ 0 ∷ []
input_bytes = refl

-- ---- answers as one number

-- no byte, a count, the greatest answer, a count that is greater still, and a failure
pub answers :
    answer_of {E = ℕ} (Ok 0) ∷ answer_of {E = ℕ} (Ok 3) ∷ answer_of {E = ℕ} (Ok (2 ^ 63 - 1)) ∷ answer_of {E = ℕ} (Ok (2 ^ 63)) ∷ answer_of {E = ℕ} (Err 3) ∷ []
    ≡ pos 0 ∷ pos 3 ∷ pos (2 ^ 63 - 1) ∷ pos (2 ^ 63 - 1) ∷ negsuc 0 ∷ []
answers = refl

-- -1, and any other negative answer, on a buffer of five bytes: a signal interrupted the call, or it failed
pub negative_answers :
    told (negsuc 0) true 5 ∷ told (negsuc 0) false 5 ∷ told (negsuc 3) true 5 ∷ told (negsuc 3) false 5 ∷ []
    ≡ Err interrupted ∷ Err failed ∷ Err interrupted ∷ Err failed ∷ []
negative_answers = refl

-- 0, a count, the buffer's length and more than that; whether a signal came says nothing where the answer is not negative
pub counts_told :
    told (pos 0) false 5 ∷ told (pos 3) false 5 ∷ told (pos 5) false 5 ∷ told (pos 9) false 5 ∷ told (pos 0) true 5 ∷ told (pos 3) true 5 ∷ []
    ≡ Ok 0 ∷ Ok 3 ∷ Ok 5 ∷ Ok 5 ∷ Ok 0 ∷ Ok 3 ∷ []
counts_told = refl

pub moved_bytes : map (bytes_moved {E = Failure}) (Ok 0 ∷ Ok 3 ∷ Err interrupted ∷ Err failed ∷ []) ≡ 0 ∷ 3 ∷ 0 ∷ 0 ∷ []
moved_bytes = refl
