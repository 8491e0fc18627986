-- Laws of a list with a part replaced. Assumes nothing.
use mathlib.Core.Path.{◌≡◌, sym, ap, ◌∙◌}
use mathlib.Core.List.{List, [], ◌∷◌, ◌++◌, append_assoc, append-nil}
use Prim.Native.Nat.{ℕ, suc, ◌+◌, ◌≤◌, ◌<◌}
use native.Mathlib.Omega.{arith}
use native.Mathlib.Nat.{add-zero, zero-add, add_assoc}
use native.Mathlib.Numerals.{add-one}
use lib.ListN.{length, take, drop, set, length-append, length-drop, take-append-drop}
use lib.Seq.{set_split, drop-length, length-take-le, take_at, drop_at, take-append-le, take-take, drop-drop}
use Rattle.records.specs.Parts.{part, splice}
use Rattle.records.proofs.Parts.{drop_take}

pub splice_nil : (s : List ℕ) (at : ℕ) → splice s at [] ≡ s
unfolding splice
splice_nil s at = rw (append-nil, add-zero, take-append-drop)

pub length_splice : (s : List ℕ) (at : ℕ) (ys : List ℕ) → at + length ys ≤ length s → length (splice s at ys) ≡ length s
unfolding splice
length_splice s at ys h = simp (length-append, length-drop) (omega (arith, length-take-le at s (omega arith)))

-- what stands before the part
pub take_splice : (s : List ℕ) (at : ℕ) (ys : List ℕ) (n : ℕ) → at ≤ length s → n ≤ at → take n (splice s at ys) ≡ take n s
unfolding splice
take_splice s at ys n h k =
    let m : length (take at s) ≡ at = length-take-le at s h in
    rw append_assoc (take-append-le n (take at s) (ys ++ drop (at + length ys) s) (omega arith) ∙ take-take n at s k)

pub part_before : (s : List ℕ) (at : ℕ) (ys : List ℕ) (p n : ℕ) → at ≤ length s → p + n ≤ at → part (splice s at ys) p n ≡ part s p n
part_before s at ys p n h k = sym (drop_take p n (splice s at ys)) ∙ ap (drop p) (take_splice s at ys (p + n) h k) ∙ drop_take p n s

-- two parts in a row are one
pub splice_append : (s : List ℕ) (at : ℕ) (a b : List ℕ) → at + length a + length b ≤ length s → splice (splice s at a) (at + length a) b ≡ splice s at (a ++ b)
unfolding splice
splice_append s at a b h =
    let m = at + length a in
    let n : length (take at s ++ a) ≡ m = length-append (take at s) a ∙ ap (λ (x : ℕ). x + length a) (length-take-le at s (omega arith)) in
    let q = drop m s in
    let d : drop (m + length b) (take at s ++ a ++ q) ≡ drop (m + length b) s =
    sym (drop-drop (length b) m (take at s ++ a ++ q)) ∙ ap (drop (length b)) (drop_at (take at s ++ a) q m n) ∙ drop-drop (length b) m s in
    rw (d, take_at (take at s ++ a) q m n, length-append a b, ← add_assoc at (length a) (length b)) (simp append_assoc)

-- a part that is replaced before another, where this one begins
pub splice_before : (s : List ℕ) (at : ℕ) (a b : List ℕ) → at + length a + length b ≤ length s → splice (splice s (at + length a) b) at a ≡ splice s at (a ++ b)
unfolding splice
splice_before s at a b h =
    let m = at + length a in
    let z = drop (m + length b) s in
    let n : length (take m s) ≡ m = length-take-le m s (omega arith) in
    let e : take at (take m s ++ (b ++ z)) ≡ take at s = take-append-le at (take m s) (b ++ z) (omega arith) ∙ take-take at m s (omega arith) in
    let f : drop m (take m s ++ (b ++ z)) ≡ b ++ z = drop_at (take m s) (b ++ z) m n in
    rw (append_assoc (take m s) b z, e, f, length-append a b, ← add_assoc at (length a) (length b)) (simp append_assoc)

-- a part that is replaced by itself
pub splice_same : (s : List ℕ) (at n : ℕ) → at + n ≤ length s → splice s at (part s at n) ≡ s
unfolding splice
splice_same s at n h =
    let m : length (part s at n) ≡ n = length-take-le n (drop at s) (rw length-drop (omega arith)) in
    rw (m, ← drop-drop n at s, append_assoc, take-append-drop, take-append-drop)

-- a whole list that is replaced
pub splice_all : (s ys : List ℕ) → length ys ≡ length s → splice s 0 ys ≡ ys
unfolding splice
splice_all s ys e = rw (zero-add, e, drop-length) (append-nil ys)

pub splice_one : (s : List ℕ) (at x : ℕ) → at < length s → set s at x ≡ splice s at (x ∷ [])
unfolding splice
splice_one s at x h = set_split s at x h ∙ rw (← add-one at) (sym (append_assoc (take at s) (x ∷ []) (drop (at + 1) s)))

-- the first byte of a part, and the others
pub splice_cons : (s : List ℕ) (at x : ℕ) (xs : List ℕ) → at + suc (length xs) ≤ length s → splice (set s at x) (at + 1) xs ≡ splice s at (x ∷ xs)
splice_cons s at x xs h = rw (splice_one s at x (omega arith)) (splice_append s at (x ∷ []) xs (omega arith))
