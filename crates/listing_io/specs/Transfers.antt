-- What the failure of one read or write means, and how many bytes were read, which the contracts bound. Assumes nothing.
use Rattle.std.specs.Prelude.{Bool, true, false, ℕ, suc, ◌-◌, ◌^◌, min, ℤ, pos, negsuc, Result, Ok, Err}
use Rattle.std.specs.declared.io.ErrorKind.{ErrorKind}
use Rattle.std.specs.declared.io.ErrorKind.TheVariants.{Interrupted}

-- a call that failed in this way is made again, while so many may be: only one that a signal interrupted, where one may be
abbrev pub made_again : ErrorKind → ℕ → Bool
made_again Interrupted (suc left) = true
made_again _ _ = false

-- the bytes of an input that was read to its end, or until the buffer was full: none where a read failed
abbrev pub bytes_read : {E : Type 0} → Result ℕ E → ℕ
bytes_read (Ok n) = n
bytes_read (Err e) = 0

-- ---- an answer as one number, as a system call has it: a negative one is no count

-- why a call moved no byte
pub data Failure : Type 0 where
  interrupted : Failure
  failed : Failure

-- the answer of a call of std's: the bytes that it says it moved, or -1 where it failed
abbrev pub answer_of : {E : Type 0} → Result ℕ E → ℤ
answer_of (Ok n) = pos (min n (2 ^ 63 - 1))
answer_of (Err e) = negsuc 0

-- what a call on so many bytes did, by its answer and whether a signal interrupted it
abbrev pub told : ℤ → Bool → ℕ → Result ℕ Failure
told (pos n) is_interrupted most = Ok (min n most)
told (negsuc n) true most = Err interrupted
told (negsuc n) false most = Err failed

-- the bytes that a call says it moved: none where it was interrupted or failed
abbrev pub bytes_moved : {E : Type 0} → Result ℕ E → ℕ
bytes_moved (Ok n) = n
bytes_moved (Err e) = 0
