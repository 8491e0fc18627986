-- A walk that is under way: n entries stand in the list, and the walk from there on gives the whole walk. What `walk`'s proof cites.
-- Assumes nothing.
use mathlib.Core.Path.{◌≡◌, refl, sym, ◌∙◌}
use mathlib.Core.Bool.{Bool, true, false}
use mathlib.Core.List.{List, ◌∷◌}
use Prim.Native.Nat.{ℕ, suc, ◌+◌, ◌-◌, ◌<◌, ◌≤◌}
use native.Mathlib.Omega.{arith}
use native.Mathlib.Nat.{sub-zero, zero-add}
use native.Mathlib.Numerals.{add-one}
use lib.ListN.{length, set, length-set}
use Rattle.records.specs.Parts.{splice}
use Rattle.records.proofs.Splices.{splice_nil, splice_one, splice_cons}
use Rattle.spectrum.specs.Walks.{Walk, trimmed, entered, finished, walk}
use Rattle.spectrum.specs.Answers.{ending}
use Rattle.spectrum.proofs.Walks.{walk_last, walk_more, walk_fits}

-- an ending by its parts
ending_is : (w : Walk) {n : ℕ} {t : Bool} → n ≡ w.trims → t ≡ w.is_finished → record { trims = n; is_finished = t } ≡ ending w
ending_is w e f = rw (e, f) refl

module _ (cells : ℕ → ℕ) (s₀ : List ℕ) where
  -- the whole walk, and the one that is left after n entries
  abbrev all : Walk
  all = walk cells (length s₀) 0 (cells 0)

  abbrev rest : ℕ → Walk
  rest n = walk cells (length s₀ - n) n (cells n)

  pub record Progress (s : List ℕ) (n : ℕ) : Type 0 where
    pub bounded : n ≤ length s₀
    pub as_long : length s ≡ length s₀
    pub entries_left : splice s n (rest n).entries ≡ splice s₀ 0 all.entries
    pub trims_left : n + (rest n).trims ≡ all.trims
    pub ends_alike : (rest n).is_finished ≡ all.is_finished

  pub begun : Progress s₀ 0
  begun = record {
    bounded = omega arith;
    as_long = refl;
    entries_left = rw sub-zero;
    trims_left = rw (sub-zero, zero-add);
    ends_alike = rw sub-zero;
  }

  -- the list is full, and something is open
  pub filled_up : {s : List ℕ} {n : ℕ} → Progress s n → length s₀ ≤ n → (record { trims = n; is_finished = false } ≡ ending all) × (s ≡ splice s₀ 0 all.entries)
  unfolding walk
  filled_up {s} {n} h l =
      let e : length s₀ - n ≡ 0 = omega arith in
      let t : n ≡ all.trims = omega (arith, rw e at h.trims_left) in
      (ending_is all t (rw e at h.ends_alike), sym (splice_nil s n) ∙ (rw e at h.entries_left))

  module _ {s : List ℕ} {n : ℕ} (h : Progress s n) (l : n < length s₀) where
    one_place : length s₀ - n ≡ suc (length s₀ - (n + 1))
    one_place = omega arith

    abbrev lost : ℕ
    lost = cells n - cells (n + 1)

    -- the last entry is written
    pub last_written : cells (n + 1) ≡ 0 → (record { trims = n + 1; is_finished = true } ≡ ending all) × (set s n lost ≡ splice s₀ 0 all.entries)
    last_written e =
        let r : rest n ≡ trimmed cells (suc n) (λ now. entered (cells n - now) finished) = rw one_place (walk_last cells (length s₀ - (n + 1)) n (cells n) (rw add-one at e)) in
        (ending_is all (rw r at h.trims_left) (rw r at h.ends_alike), splice_one s n lost (omega (arith, h.as_long)) ∙ rw add-one (rw r at h.entries_left))

    -- an entry is written, and the walk goes on
    pub one_more : 1 ≤ cells (n + 1) → Progress (set s n lost) (n + 1)
    one_more k =
        let w = rest (n + 1) in
        let r : rest n ≡ record { entries = lost ∷ w.entries; trims = suc w.trims; is_finished = w.is_finished } =
        rw (one_place, add-one) (walk_more cells (length s₀ - suc n) n (cells n) (rw add-one at k)) in
        record {
          bounded = omega arith;
          as_long = simp length-set h.as_long;
          entries_left =
              splice_cons s n lost w.entries (omega (arith, walk_fits cells (length s₀ - (n + 1)) (n + 1) (cells (n + 1)), h.as_long)) ∙ (rw r at h.entries_left);
          trims_left = omega (arith, rw r at h.trims_left);
          ends_alike = rw r at h.ends_alike;
        }
