-- What document 02 says of an accepted join leaves no choice: `JoinedSheet` fixes the answer and every byte of the third buffer
-- (`joined_once`). Assumes nothing.
use mathlib.Core.Path.{◌≡◌, sym, ap, ◌∙◌}
use mathlib.Core.Logic.Iff
use mathlib.Core.List.{List}
use Prim.Native.Nat.{ℕ}
use Rattle.octagon.proofs.Outcomes.{accepted_same}
use Rattle.records.specs.Numbers.{AreBytes}
use Rattle.sheet.specs.Layout.{record_length}
use Rattle.sheet.specs.Cases.{stated_heading}
use Rattle.sheet.specs.Joining.{joined_count, joined_length, JoinedSheet}
use Rattle.sheet.proofs.OneBuffer.{SheetIn, one_buffer}

-- the buffer that is left has a sheet at its start
left_sheet : (s : List ℕ) (m : ℕ) (t : List ℕ) (n : ℕ) (u u' : List ℕ) (c d l : ℕ) → JoinedSheet s m t n u u' c d l
    → SheetIn record_length (stated_heading s m) (joined_count s m t n c d) l u'
left_sheet s m t n u u' c d l j = record { checks = j.checks; trailer_is = j.trailer_is; length_is = j.length_is }

-- `JoinedSheet` leaves no choice: it fixes the answer and every byte
pub joined_once : (s : List ℕ) (m : ℕ) (t : List ℕ) (n : ℕ) (u v w : List ℕ) (c d l e f k : ℕ) → AreBytes v → AreBytes w
    → JoinedSheet s m t n u v c d l → JoinedSheet s m t n u w e f k → (l ≡ k) × (v ≡ w)
joined_once s m t n u v w c d l e f k bv bw i j =
    let p : e ≡ c = accepted_same (sym j.first_counted ∙ i.first_counted) in
    let q : f ≡ d = accepted_same (sym j.second_counted ∙ i.second_counted) in
    let g : k ≡ l =
    j.length_is
    ∙ ap (λ (a : ℕ). joined_length s m (joined_count s m t n a f)) p
    ∙ ap (λ (a : ℕ). joined_length s m (joined_count s m t n c a)) q ∙ sym i.length_is in
    let o : JoinedSheet s m t n u w c d l = rw (g, p, q) at j in (
      sym g,
      one_buffer record_length (stated_heading s m) (joined_count s m t n c d) l v w bv bw
          (left_sheet s m t n u v c d l i)
          (left_sheet s m t n u w c d l o)
          (i.heading ∙ sym o.heading)
          (λ r. Iff.trans (i.records r) (Iff.symm (o.records r)))
          (i.past ∙ sym o.past),
    )
