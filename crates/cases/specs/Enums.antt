-- Each case of each answer, as the contracts read it: the number or the value that it holds, and no other. Assumes nothing.
use Rattle.std.specs.Prelude.{◌≡◌, ℕ, Bool, true, false, List, [], ◌∷◌, map, Ok, Err, refl}
use Rattle.octagon.specs.Octagon.{Octagon}
use Rattle.octagon.specs.declared.refusal.Refusal.{Refusal}
use Rattle.octagon.specs.declared.refusal.Refusal.TheVariants as refusal
use Rattle.octagon.specs.Outcome.{accepted, refused}
use Rattle.octagon.specs.Answers.{refusal_number, outcome}
use Rattle.morphology.specs.declared.Spread.TheVariants as spread
use Rattle.morphology.specs.Marks.{exact, filled, spread_outcome, marked, unmarked, fills}
use Rattle.outline.specs.declared.Outline.{Outline}
use Rattle.outline.specs.declared.place.Place.{Place}
use Rattle.decomposition.specs.declared.Split.{Split}
use Rattle.spectrum.specs.declared.Spectrum.TheVariants as spectrum
use Rattle.spectrum.specs.Answers.{outcome as ending_outcome}
use Rattle.sheet.specs.declared.Record.{Record}
use Rattle.cases.specs.Numbers.{printed_refusals}

-- the refusals, in the order of their numbers
abbrev pub every_refusal : List Refusal
every_refusal =
    refusal.NoCell ∷ refusal.OffMap ∷ refusal.NotClosed ∷ refusal.NothingLeft ∷ refusal.TooManyFolds ∷ refusal.NoVertex ∷ refusal.BadLength ∷
    refusal.BadTrailer ∷ refusal.BadDistance ∷ refusal.BadNumber ∷ refusal.NoRoom ∷ refusal.NoRecord ∷ refusal.NotFinite ∷ refusal.NoPoint ∷
    refusal.HalfPoint ∷ refusal.TooWide ∷ refusal.TwoRecords ∷ refusal.NoOrigin ∷ refusal.NoOtherCell ∷ refusal.OffOldMap ∷ []

-- each has the number that the documents print
pub numbers_as_printed : map refusal_number every_refusal ≡ printed_refusals
numbers_as_printed = refl

-- "A refusal hands back its number"
pub record RefusalsAsGiven (e : Refusal) : Type 0 where
  pub of_octagon : outcome {A = Octagon} (Err e) ≡ refused (refusal_number e)
  pub of_spread : spread_outcome (Err e) ≡ refused (refusal_number e)
  pub of_count : outcome {A = ℕ} (Err e) ≡ refused (refusal_number e)
  pub of_outline : outcome {A = Outline} (Err e) ≡ refused (refusal_number e)
  pub of_place : outcome {A = Place} (Err e) ≡ refused (refusal_number e)
  pub of_split : outcome {A = Split} (Err e) ≡ refused (refusal_number e)
  pub of_spectrum : ending_outcome (Err e) ≡ refused (refusal_number e)
  pub of_check : outcome {A = ℕ} (Err e) ≡ refused (refusal_number e)
  pub of_fetch : outcome {A = Record} (Err e) ≡ refused (refusal_number e)
  pub of_writing : outcome {A = ℕ} (Err e) ≡ refused (refusal_number e)

pub refusals_as_given : (e : Refusal) → RefusalsAsGiven e
refusals_as_given e =
    record { of_octagon = refl; of_spread = refl; of_count = refl; of_outline = refl; of_place = refl; of_split = refl; of_spectrum = refl; of_check = refl; of_fetch = refl; of_writing = refl }

-- and what is accepted its value
pub record ValuesAsGiven (n : ℕ) (a : Octagon) (o : Outline) (p : Place) (s : Split) (r : Record) : Type 0 where
  pub of_octagon : outcome (Ok a) ≡ accepted a
  pub of_exact : spread_outcome (Ok (spread.Exact a)) ≡ accepted (exact a)
  pub of_filled : spread_outcome (Ok (spread.Filled a)) ≡ accepted (filled a)
  pub of_count : outcome (Ok n) ≡ accepted n
  pub of_outline : outcome (Ok o) ≡ accepted o
  pub of_place : outcome (Ok p) ≡ accepted p
  pub of_split : outcome (Ok s) ≡ accepted s
  pub of_finished : ending_outcome (Ok (spectrum.Finished n)) ≡ accepted (record { trims = n; is_finished = true })
  pub of_spent : ending_outcome (Ok (spectrum.Spent n)) ≡ accepted (record { trims = n; is_finished = false })
  pub of_check : outcome (Ok n) ≡ accepted n
  pub of_fetch : outcome (Ok r) ≡ accepted r
  pub of_writing : outcome (Ok n) ≡ accepted n

pub values_as_given : (n : ℕ) (a : Octagon) (o : Outline) (p : Place) (s : Split) (r : Record) → ValuesAsGiven n a o p s r
values_as_given n a o p s r =
    record { of_octagon = refl; of_exact = refl; of_filled = refl; of_count = refl; of_outline = refl; of_place = refl; of_split = refl; of_finished = refl; of_spent = refl; of_check = refl; of_fetch = refl; of_writing = refl }

-- the mark of each case of a spread, what is left without it, and an answer that is marked
pub record MarksAsGiven (e : Refusal) (a : Octagon) : Type 0 where
  pub of_exact : fills (spread_outcome (Ok (spread.Exact a))) ≡ false
  pub of_filled : fills (spread_outcome (Ok (spread.Filled a))) ≡ true
  pub of_refused : fills (spread_outcome (Err e)) ≡ false
  pub exact_unmarked : unmarked (spread_outcome (Ok (spread.Exact a))) ≡ accepted a
  pub filled_unmarked : unmarked (spread_outcome (Ok (spread.Filled a))) ≡ accepted a
  pub refused_unmarked : unmarked (spread_outcome (Err e)) ≡ refused (refusal_number e)
  pub marked_exact : marked false (outcome (Ok a)) ≡ accepted (exact a)
  pub marked_filled : marked true (outcome (Ok a)) ≡ accepted (filled a)
  pub marked_refused : (t : Bool) → marked t (outcome {A = Octagon} (Err e)) ≡ refused (refusal_number e)

pub marks_as_given : (e : Refusal) (a : Octagon) → MarksAsGiven e a
marks_as_given e a = record {
  of_exact = refl;
  of_filled = refl;
  of_refused = refl;
  exact_unmarked = refl;
  filled_unmarked = refl;
  refused_unmarked = refl;
  marked_exact = refl;
  marked_filled = refl;
  marked_refused = λ t. refl;
}
