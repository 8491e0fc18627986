-- Words put into a buffer one after the other. Assumes nothing.
use mathlib.Core.Path.{◌≡◌, refl, sym, ap, ◌∙◌}
use mathlib.Core.List.{List, [], ◌∷◌, ◌++◌, append_assoc}
use Prim.Native.Nat.{ℕ, ◌+◌, ◌≤◌, ◌<◌}
use native.Mathlib.Omega.{arith}
use lib.ListN.{length, take, drop, set, length-append}
use lib.Seq.{length-take-le, drop-drop}
use borrow.Rule.Slice.PartMut.{put_mid}
use Rattle.records.specs.Parts.{splice}
use Rattle.records.proofs.Splices.{splice_nil, length_splice, splice_append, splice_one}
use Rattle.report.specs.Lines.{Put, Prefix}

-- nothing, one byte, and one word after another
pub put_nothing : (s : List ℕ) (at : ℕ) → at ≤ length s → Put s at [] s at
put_nothing s at h = record { fits = omega arith; text = sym (splice_nil s at); past = omega arith }

pub put_byte : (s : List ℕ) (at b : ℕ) → at < length s → Put s at (b ∷ []) (set s at b) (at + 1)
put_byte s at b h = record { fits = omega arith; text = splice_one s at b h; past = omega arith }

-- the buffer keeps its length
pub put_length : {s w t : List ℕ} {at next : ℕ} → Put s at w t next → length t ≡ length s
put_length {s} {w} {t} {at} p = ap length p.text ∙ length_splice s at w p.fits

-- what has been put from the start on is counted
pub put_prefix : {s w t : List ℕ} {next : ℕ} → Put s 0 w t next → Prefix next t
put_prefix {t = t} {next = n} p = let h : n ≤ length t = omega (arith, p.fits, p.past, put_length p) in (h, sym (length-take-le n t h))

pub put_then : {s v w t u : List ℕ} {at m next : ℕ} → Put s at v t m → Put t m w u next → Put s at (v ++ w) u next
put_then {s} {v} {w} {t} {u} {at} {m} p q =
    let n = length-append v w in
    let k = put_length p in
    record {
      fits = omega (arith, p.past, q.fits);
      text = q.text ∙ rw (p.text, p.past) (splice_append s at v w (omega (arith, p.past, q.fits)));
      past = omega (arith, p.past, q.past);
    }

-- a word that is copied over the part from index at on
pub put_copied : (s : List ℕ) (at n : ℕ) (w t : List ℕ) → at + length w ≤ length s → n ≡ length w → t ≡ w → Put s at w (put_mid at n s t) (at + length w)
unfolding splice
put_copied s at n w t h e f = record { fits = h; text = copied; past = refl }
  where
    copied : put_mid at n s t ≡ splice s at w
    copied = rw (e, f, drop-drop (length w) at s) (sym (append_assoc (take at s) w (drop (at + length w) s)))
