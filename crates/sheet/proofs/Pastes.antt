-- What std's copies leave, as a list with a part replaced. Assumes nothing.
use mathlib.Core.Path.{◌≡◌, ap, ◌∙◌, refl}
use mathlib.Core.List.{List}
use Prim.Native.Nat.{ℕ, ◌≤◌}
use native.Mathlib.Omega.{arith}
use lib.ListN.{length, take}
use lib.Seq.{paste, take_all, length-take-le}
use borrow.Rule.Slice.PartMut.{put_mid}
use Rattle.std.proofs.lemmas.Slice.{put_mid-paste}
use Rattle.records.specs.Parts.{splice}

-- after `copy_within`
pub paste_is : (u : List ℕ) (at : ℕ) (s : List ℕ) (n : ℕ) → n ≤ length s → paste u at s n ≡ splice u at (take n s)
unfolding splice
paste_is u at s n h = rw (length-take-le n s h)

-- after `copy_from_slice`, of a part of n elements that are then those of s
pub put_part_is : (u : List ℕ) (at n : ℕ) (now s : List ℕ) → now ≡ s → n ≡ length s → put_mid at n u now ≡ splice u at s
put_part_is u at n now s e h = put_mid-paste at n u now s n e refl h ∙ paste_is u at s n (omega arith) ∙ ap (splice u at) (take_all n s (omega arith))
