-- The spectrum from the normal forms of its operands: they open the same cells, so the walk by them is the walk. Assumes nothing.
use mathlib.Core.Path.{◌≡◌, refl}
use Prim.Native.Nat.{ℕ}
use Rattle.octagon.specs.Octagon.{Octagon}
use Rattle.octagon.specs.Outcome.{accepted}
use Rattle.octagon.specs.NormalForm.{normalised}
use Rattle.octagon.proofs.NormalForms.{normalised_again}
use Rattle.cell_count.specs.Area.{area}
use Rattle.morphology.specs.Folds.{dilation_n, erosion_n}
use Rattle.spectrum.specs.Walks.{walk}
use Rattle.spectrum.specs.Spectra.{frame_form, open_cells, spectrum}
use Rattle.spectrum.proofs.Frames.{frame_of}
use Rattle.spectrum.proofs.Walks.{walk_same}

-- a frame's normal form is a frame
pub frame_form_again : (f b : Octagon) → frame_form f ≡ accepted b → frame_form b ≡ accepted b
unfolding frame_form
frame_form_again f b q =
    let n = (frame_of f b q).normal in
    rw (normalised_again f b n) (rw n at q)

module _ (p f a b : Octagon) (of_p : normalised p ≡ accepted a) where
  same_open : normalised f ≡ accepted b → (n : ℕ) → open_cells a b n ≡ open_cells p f n
  unfolding open_cells erosion_n dilation_n
  same_open of_f n = rw (of_p, of_f, normalised_again p a of_p, normalised_again f b of_f) refl

  pub spectrum_of_forms : frame_form f ≡ accepted b → (places : ℕ) → spectrum p f places ≡ accepted (walk (open_cells a b) places 0 (area a))
  unfolding spectrum
  spectrum_of_forms q places =
      rw (of_p, q, walk_same (open_cells a b) (open_cells p f) (same_open (frame_of f b q).normal) places 0 (area a)) refl
