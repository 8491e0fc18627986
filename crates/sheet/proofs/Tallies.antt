-- From the tally of the records of two sheets to what a join of them answers and leaves: a tally that is refused, or for which there is no
-- room, refuses the join, and any other joins them. Assumes nothing.
use mathlib.Core.Path.{◌≡◌, refl, sym, ap}
use mathlib.Core.Bool.{Bool, true, false, cond}
use mathlib.Core.List.{List}
use Prim.Native.Nat.{ℕ, ◌+◌, ◌*◌, ◌≤◌}
use native.Mathlib.Omega.{arith}
use lib.ListN.{length}
use lib.Seq.{length-take-le}
use Rattle.octagon.specs.Outcome.{Outcome, accepted, refused, then, left}
use Rattle.octagon.proofs.Outcomes.{accepted_same, accepted_not_refused, past_test}
use Rattle.sheet.specs.declared.stored.Records.{Records}
use Rattle.sheet.specs.Answers.{no_room, two_records}
use Rattle.sheet.specs.Layout.{record_length}
use Rattle.sheet.specs.Trailer.{trailer_length}
use Rattle.sheet.specs.Merging.{conflict, merged, tallied}
use Rattle.sheet.specs.Sheets.{sheet_limit}
use Rattle.sheet.specs.Stored.{plots_of, said}
use Rattle.sheet.specs.Writing.{written_over, written_length, has_no_room}
use Rattle.sheet.specs.Joining.{union, united}
use Rattle.sheet.proofs.Turns.{few_together}
use Rattle.sheet.proofs.Joins.{unite_differing, unite_room, unite_good}

module _ (a b : Records) (u : List ℕ) where
  -- what a join of their sheets answers and leaves
  abbrev Answers : Outcome ℕ → List ℕ → Type 0
  Answers o u' = (o ≡ then (united u (said a) (said b)) (λ x. accepted (written_length x))) × (u' ≡ left u (united u (said a) (said b)) (written_over u))

  pub tally_refused : (k : ℕ) → tallied (plots_of a) (plots_of b) ≡ refused k → Answers (refused k) u
  tally_refused k r = go (conflict (plots_of a) (plots_of b)) refl r
    where
      go : (d : Bool) → conflict (plots_of a) (plots_of b) ≡ d → cond d (refused two_records) (accepted (length (merged (plots_of a) (plots_of b)))) ≡ refused k → Answers (refused k) u
      go true c r = rw (unite_differing u (said a) (said b) c) (sym r, refl)
      go false c r = absurd (accepted_not_refused r)

  module _ (all : ℕ) (r : tallied (plots_of a) (plots_of b) ≡ accepted all) where
    agree : (conflict (plots_of a) (plots_of b) ≡ false) × (length (merged (plots_of a) (plots_of b)) ≡ all)
    agree = let f = past_test (conflict (plots_of a) (plots_of b)) two_records (accepted (length (merged (plots_of a) (plots_of b)))) all r in (f.0, accepted_same f.1)

    pub tally_counts : all ≡ length (merged (plots_of a) (plots_of b))
    tally_counts = sym agree.1

    -- the new length, which is far below what fits
    pub tally_few : a.rows.at + record_length * all ≤ 93 * sheet_limit
    tally_few = omega (arith, tally_counts, few_together a b, a.short)

    pub tally_length : a.rows.at + record_length * all + trailer_length ≡ written_length (union (said a) (said b))
    tally_length =
        let l = length-take-le a.rows.at a.bytes.now (omega (arith, a.within)) in
        rw (l, agree.1)

    pub tally_full : has_no_room u (a.rows.at + record_length * all + trailer_length) ≡ true → Answers (refused no_room) u
    tally_full h = rw (unite_room u (said a) (said b) agree.0 (rw tally_length at h)) (refl, refl)

    pub tally_joins : has_no_room u (a.rows.at + record_length * all + trailer_length) ≡ false → (u' : List ℕ)
        → u' ≡ written_over u (union (said a) (said b)) → Answers (accepted (a.rows.at + record_length * all + trailer_length)) u'
    tally_joins h u' w = rw (unite_good u (said a) (said b) agree.0 (rw tally_length at h)) (ap accepted tally_length, w)
