-- Parts of a list of bytes, and the list with a part replaced. Assumes nothing.
use Rattle.std.specs.Prelude.{ℕ, ◌+◌, List, ◌++◌, length, take, drop}

-- n bytes of s from index at
abbrev pub part : List ℕ → ℕ → ℕ → List ℕ
part s at n = take n (drop at s)

-- s with its bytes from index at replaced by ys
unfoldable pub splice : List ℕ → ℕ → List ℕ → List ℕ
splice s at ys = take at s ++ ys ++ drop (at + length ys) s
