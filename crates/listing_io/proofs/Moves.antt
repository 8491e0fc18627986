-- What reads and writes of parts come to together. Assumes nothing.
use Rattle.std.proofs.Common.{◌≡◌, ℕ, ◌+◌, ◌-◌, ◌≤◌, List, ◌++◌, Option, length, take, drop, sym, ap, ◌∙◌, subst, append_assoc, length-take-le, take-append-drop}
use borrow.Rule.Slice.PartMut.{put_mid, post_of}
use Rattle.std.proofs.Math.Seq.{take-append-add}
use Rattle.std.proofs.lemmas.List.{take-append-le, take_rest}
use Rattle.std.specs.Io.KnownBytes.{Appends, Consumes}
use Rattle.std.proofs.KnownBytes.{Appends-trans, Consumes-trans}

-- n bytes put into a buffer from an index on follow those before it
pub take_both : (at room n : ℕ) (s t : List ℕ) → at ≤ length s → n ≤ length t → take (at + n) (put_mid at room s t) ≡ take at s ++ take n t
take_both at room n s t within fits =
    let rest = t ++ post_of at room s in
    ap (λ m. take (m + n) (take at s ++ rest)) (sym (length-take-le at s within)) ∙ take-append-add (take at s) rest n ∙ ap (λ l. take at s ++ l) (take-append-le n t (post_of at room s) fits)

-- a reader that gave the first bytes of a buffer, and then n more, gave them all
pub reads_more : (a b c : Option (List ℕ)) (at room n : ℕ) (s t : List ℕ) → at ≤ length s → n ≤ length t
    → Consumes a b (take at s) → Consumes b c (take n t) → Consumes a c (take (at + n) (put_mid at room s t))
reads_more a b c at room n s t within fits first second =
    subst (Consumes a c) (sym (take_both at room n s t within fits)) (Consumes-trans a b c _ _ first second)

-- a writer that took the first bytes of a text, and then n more, took both
pub writes_more : (a b c : Option (List ℕ)) (all rest : List ℕ) (n : ℕ)
    → (written : List ℕ) × (all ≡ written ++ rest) × Appends a b written → Appends b c (take n rest)
    → (written : List ℕ) × (all ≡ written ++ take (length rest - n) (drop n rest)) × Appends a c written
writes_more a b c all rest n (done, split, first) second =
    let left : take (length rest - n) (drop n rest) ≡ drop n rest = take_rest rest n in
    let whole : rest ≡ take n rest ++ drop n rest = sym (take-append-drop n rest) in
    (done ++ take n rest, rw left (split ∙ ap (λ l. done ++ l) whole ∙ sym (append_assoc done (take n rest) (drop n rest))), Appends-trans a b c done (take n rest) first second)
