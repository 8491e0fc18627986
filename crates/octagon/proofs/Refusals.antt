-- The numbers of the refusals tell them apart. Assumes nothing.
use mathlib.Core.Path.{◌≡◌, refl, sym, ap, ◌∙◌}
use mathlib.Core.Bool.{cond}
use Prim.Native.Nat.{ℕ}
use lib.Dec.{eqb}
use Rattle.octagon.specs.declared.refusal.Refusal.{Refusal}
use Rattle.octagon.specs.declared.refusal.Refusal.TheVariants.{NoCell, OffMap, NotClosed, NothingLeft, TooManyFolds, NoVertex, BadLength, BadTrailer, BadDistance, BadNumber, NoRoom, NoRecord, NotFinite, NoPoint, HalfPoint, TooWide, TwoRecords, NoOrigin, NoOtherCell, OffOldMap}
use Rattle.octagon.specs.Answers.{refusal_number}

-- the refusal of a number; of one that is none's, the last
refusal_of : ℕ → Refusal
refusal_of n =
    cond (eqb n 1) NoCell (cond (eqb n 2) OffMap (cond (eqb n 3) NotClosed (cond (eqb n 5) NothingLeft (cond (eqb n 6) TooManyFolds
    (cond (eqb n 7) NoVertex (cond (eqb n 8) BadLength (cond (eqb n 9) BadTrailer (cond (eqb n 10) BadDistance (cond (eqb n 11) BadNumber
    (cond (eqb n 12) NoRoom (cond (eqb n 13) NoRecord (cond (eqb n 14) NotFinite (cond (eqb n 15) NoPoint (cond (eqb n 16) HalfPoint
    (cond (eqb n 17) TooWide (cond (eqb n 18) TwoRecords (cond (eqb n 19) NoOrigin
    (cond (eqb n 20) NoOtherCell OffOldMap))))))))))))))))))

back : (e : Refusal) → refusal_of (refusal_number e) ≡ e
unfolding refusal_of
back NoCell = refl
back OffMap = refl
back NotClosed = refl
back NothingLeft = refl
back TooManyFolds = refl
back NoVertex = refl
back BadLength = refl
back BadTrailer = refl
back BadDistance = refl
back BadNumber = refl
back NoRoom = refl
back NoRecord = refl
back NotFinite = refl
back NoPoint = refl
back HalfPoint = refl
back TooWide = refl
back TwoRecords = refl
back NoOrigin = refl
back NoOtherCell = refl
back OffOldMap = refl

pub number_tells : (d e : Refusal) → refusal_number d ≡ refusal_number e → d ≡ e
number_tells d e q = sym (back d) ∙ ap refusal_of q ∙ back e
