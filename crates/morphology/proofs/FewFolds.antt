-- No folds give the first operand's normal form, exact, and one fold is the plain call. Assumes nothing.
use mathlib.Core.Path.{◌≡◌, refl}
use Rattle.octagon.specs.Octagon.{Octagon}
use Rattle.octagon.specs.Outcome.{accepted}
use Rattle.octagon.specs.NormalForm.{normalised, placed}
use Rattle.octagon.proofs.Map.{near_test}
use Rattle.octagon.proofs.NormalForms.{accepted_near, normalised_again}
use Rattle.morphology.specs.Marks.{exact}
use Rattle.morphology.specs.Operations.{sums, differences, dilation, erosion, opened}
use Rattle.morphology.specs.Folds.{multiples, dilation_n, erosion_n}
use Rattle.morphology.specs.Premises.{erosions, erosions_n, opened_n}
use Rattle.morphology.proofs.Multiples.{sums_zero, sums_suc, differences_zero, differences_suc}

-- the bounds of one fold
pub sums_one : (a b : Octagon) → sums a (multiples 1 b) ≡ sums a b
sums_one a b = rw (sums_suc 0 a b, sums_zero a b)

differences_one : (a b : Octagon) → differences a (multiples 1 b) ≡ differences a b
differences_one a b = rw (differences_suc 0 a b, differences_zero a b)

-- one fold
pub dilation_one : (p f : Octagon) → dilation_n p f 1 ≡ dilation p f
unfolding dilation_n dilation
dilation_one p f = simp sums_one

pub erosion_one : (p f : Octagon) → erosion_n p f 1 ≡ erosion p f
unfolding erosion_n erosion
erosion_one p f = simp differences_one

pub erosions_one : (p f g : Octagon) → erosions_n p f 1 g 1 ≡ erosions p f g
erosions_one p f g = simp erosion_one

pub opened_one : (p f : Octagon) → opened_n p f 1 ≡ opened p f
unfolding opened
opened_one p f = simp (erosion_one, dilation_one)

-- no folds: the first operand, normalised, where both are accepted
module _ (p f a b : Octagon) (h : normalised p ≡ accepted a) (k : normalised f ≡ accepted b) where
  pub dilation_none : dilation_n p f 0 ≡ accepted (exact a)
  unfolding dilation_n placed
  dilation_none = rw (h, k, sums_zero a b, near_test a (accepted_near p a h)) refl

  pub erosion_none : erosion_n p f 0 ≡ accepted a
  unfolding erosion_n
  erosion_none = rw (h, k, differences_zero a b, normalised_again p a h) refl

-- and so it is opened by no folds
pub opened_none : (p f a b : Octagon) → normalised p ≡ accepted a → normalised f ≡ accepted b → opened_n p f 0 ≡ accepted (exact a)
opened_none p f a b h k = rw (erosion_none p f a b h k) (dilation_none a f a b (normalised_again p a h) k)
