-- The documents' number of each refusal, what a call's answer says in their words, and the octagon of eight 64-bit bounds. Assumes nothing.
use Rattle.std.specs.Prelude.{ℕ, Result, Ok, Err}
use Rattle.octagon.specs.Octagon.{Octagon, Bounds}
use Rattle.octagon.specs.declared.refusal.Refusal.{Refusal}
use Rattle.octagon.specs.declared.refusal.Refusal.TheVariants as refusal
use Rattle.octagon.specs.Outcome.{Outcome, accepted, refused}

abbrev pub refusal_number : Refusal → ℕ
refusal_number refusal.NoCell = 1
refusal_number refusal.OffMap = 2
refusal_number refusal.NotClosed = 3
refusal_number refusal.NothingLeft = 5
refusal_number refusal.TooManyFolds = 6
refusal_number refusal.NoVertex = 7
refusal_number refusal.BadLength = 8
refusal_number refusal.BadTrailer = 9
refusal_number refusal.BadDistance = 10
refusal_number refusal.BadNumber = 11
refusal_number refusal.NoRoom = 12
refusal_number refusal.NoRecord = 13
refusal_number refusal.NotFinite = 14
refusal_number refusal.NoPoint = 15
refusal_number refusal.HalfPoint = 16
refusal_number refusal.TooWide = 17
refusal_number refusal.TwoRecords = 18
refusal_number refusal.NoOrigin = 19
refusal_number refusal.NoOtherCell = 20
refusal_number refusal.OffOldMap = 21

-- an answer: its value, or the number of its refusal
abbrev pub outcome : {A : Type 0} → Result A Refusal → Outcome A
outcome (Ok a) = accepted a
outcome (Err e) = refused (refusal_number e)

-- the octagon of eight 64-bit bounds, which are the same whole numbers
abbrev pub octagon_of : Bounds → Octagon
octagon_of b = b
