-- A walk over the scales of a plot: the cells lost between one scale and the next, one trim for each. Definitions that compute.
-- proofs/Walks.antt says what a walk is, entry by entry. Assumes nothing.
use Rattle.std.specs.Prelude.{◌≡◌, Bool, true, false, cond, List, [], ◌∷◌, ℕ, zero, suc, ◌-◌, ◌<◌, ◌≤◌, eqb, length, get_or}
use Rattle.cell_count.specs.Count.{sum}

-- how a walk went: the entries that it wrote, the trims that it made, and whether nothing was left at its end
pub record Walk : Type 0 where
  pub entries : List ℕ
  pub trims : ℕ
  pub is_finished : Bool

-- a walk of no step: nothing is left, or there is no place for a further entry
abbrev pub finished : Walk
finished = record { entries = []; trims = 0; is_finished = true }

abbrev pub spent : Walk
spent = record { entries = []; trims = 0; is_finished = false }

-- one trim, by n folds, with so many cells open after it: k goes on with their number, and the trim is counted
abbrev pub trimmed : (ℕ → ℕ) → ℕ → (ℕ → Walk) → Walk
trimmed cells n k = let w = k (cells n) in record { entries = w.entries; trims = suc w.trims; is_finished = w.is_finished }

-- an entry, before those of a walk
abbrev pub entered : ℕ → Walk → Walk
entered e w = record { entries = e ∷ w.entries; trims = w.trims; is_finished = w.is_finished }

-- the walk from n folds on, with `still` cells open and so many places; cells n is how many are open by n folds. A step makes one trim, by
-- one fold more, and writes the cells lost; where none are open after it, it was the last
unfoldable pub walk : (ℕ → ℕ) → ℕ → ℕ → ℕ → Walk
walk cells zero n still = spent
walk cells (suc places) n still = trimmed cells (suc n) (λ now. entered (still - now) (cond (eqb now 0) finished (walk cells places (suc n) now)))

-- the sum of its entries
abbrev pub total : Walk → ℕ
total w = sum w.trims (λ n. get_or w.entries n 0)

-- what a walk w from no folds on is, with so many places
pub record WalkOf (cells : ℕ → ℕ) (places : ℕ) (w : Walk) : Type 0 where
  -- as many entries as trims, and a place for each
  pub one_each : length w.entries ≡ w.trims
  pub within : w.trims ≤ places
  -- entry n is what is lost from n folds to n + 1; it was due, for something was open by n
  pub lost : (n : ℕ) → n < w.trims → get_or w.entries n 0 ≡ cells n - cells (suc n)
  pub due : (n : ℕ) → n < w.trims → 1 ≤ cells n
  -- finished where nothing is left; spent only where the places are used up and something is open, so that a further entry was due
  pub left_nothing : w.is_finished ≡ true → cells w.trims ≡ 0
  pub left_some : w.is_finished ≡ false → (w.trims ≡ places) × (1 ≤ cells w.trims)
