-- The words of the laws of demand 3 ("What the laws compare" of document 01) and of document 02's U7 and U8: what they ask of the calls that
-- they name, and what those with several parts say. Assumes nothing.
use Rattle.std.specs.Prelude.{◌≡◌, ◌↔◌, ◌⊎◌, ℕ}
use Rattle.octagon.specs.Octagon.{Octagon}
use Rattle.octagon.specs.Outcome.{Outcome, accepted, refused, then, off_map}
use Rattle.octagon.specs.Cells.{◌⊆◌, In}
use Rattle.octagon.specs.NormalForm.{normalised}
use Rattle.morphology.specs.Marks.{Marked}
use Rattle.morphology.specs.Operations.{nothing_left, dilation, erosion, opened}
use Rattle.morphology.specs.Folds.{dilation_n, erosion_n}

-- a call that is not refused as off the map
abbrev pub Allowed : {R : Type 0} → Outcome R → Type 0
Allowed o = ¬ (o ≡ refused off_map)

-- eroding by f and then by g; where the first gives 5, that is the answer of the two
abbrev pub erosions : Octagon → Octagon → Octagon → Outcome Octagon
erosions p f g = then (erosion p f) (λ e. erosion e g)

-- both calls of eroding by f and then by g are allowed; the second is made where the first is accepted
pub record AllowedTwice (p f g : Octagon) : Type 0 where
  pub first : Allowed (erosion p f)
  pub second : (e : Octagon) → erosion p f ≡ accepted e → Allowed (erosion e g)

-- eroding by the dilation of f and g, exact or filled, both calls allowed
abbrev pub erosion_by_both : Octagon → Octagon → Octagon → Outcome Octagon
erosion_by_both p f g = then (dilation f g) (λ d. erosion p d.octagon)

pub record AllowedByBoth (p f g : Octagon) : Type 0 where
  pub first : Allowed (dilation f g)
  pub second : (d : Marked) → dilation f g ≡ accepted d → Allowed (erosion p d.octagon)

-- "An octagon spread by a frame lies in the plot exactly when the octagon lies in the trimmed plot; where nothing is left, none does."
-- "Containment in an octagon reads the same for filled spreads."
pub record LiesIn (x f p : Octagon) : Type 0 where
  pub spread : Marked
  pub spread_accepted : dilation x f ≡ accepted spread
  pub trimmed_or_nothing : ((e : Octagon) × (erosion p f ≡ accepted e)) ⊎ (erosion p f ≡ refused nothing_left)
  pub exactly : (e : Octagon) → erosion p f ≡ accepted e → (In spread.octagon ⊆ In p) ↔ (In x ⊆ In e)
  pub none : erosion p f ≡ refused nothing_left → ¬ (In spread.octagon ⊆ In p)

-- "Spreading and then trimming by one frame is accepted and returns exactly the plot's cells": the plot's normal form
pub record Returned (p f : Octagon) : Type 0 where
  pub spread : Marked
  pub spread_accepted : dilation p f ≡ accepted spread
  pub plot : Octagon
  pub plot_normalised : normalised p ≡ accepted plot
  pub returned : erosion spread.octagon f ≡ accepted plot

-- ---- folds one after the other (U7: "two frames, then three")

-- dilating m times by f, and then what came of it n times, with the mark of the second call; a refusal of the first is the answer of the two
abbrev pub dilations_n : Octagon → Octagon → ℕ → ℕ → Outcome Marked
dilations_n p f m n = then (dilation_n p f m) (λ d. dilation_n d.octagon f n)

-- eroding m times by f, and then what is left n times by g; where the first gives 5, that is the answer of the two
abbrev pub erosions_n : Octagon → Octagon → ℕ → Octagon → ℕ → Outcome Octagon
erosions_n p f m g n = then (erosion_n p f m) (λ e. erosion_n e g n)

-- ---- openings by more (U8)

-- opening by the dilation of f and g, exact or filled: "a plot opened by F spread with G"; a refusal of the first is the answer of the two
abbrev pub opening_by_both : Octagon → Octagon → Octagon → Outcome Marked
opening_by_both p f g = then (dilation f g) (λ d. opened p d.octagon)

-- eroding n times by f, and then dilating what is left n times; a refusal of the first is the answer of the two
abbrev pub opened_n : Octagon → Octagon → ℕ → Outcome Marked
opened_n p f n = then (erosion_n p f n) (λ e. dilation_n e f n)
