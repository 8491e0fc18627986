-- Trims add up (document 02's U7), about the answers of `erode_n`: up to the fold limit, m folds and then n are m + n folds, nothing left
-- included, where the first call is not refused as off the map; and m folds of one element and n of another may be made in either order.
-- Assumes nothing.
use mathlib.Core.Path.{◌≡◌, refl, sym, ◌∙◌}
use mathlib.Core.Logic.{◌⊎◌, inl, inr}
use Prim.Native.Nat.{ℕ, ◌+◌, ◌≤◌}
use native.Mathlib.Omega.{arith}
use Rattle.octagon.specs.Octagon.{Octagon}
use Rattle.octagon.specs.Outcome.{Outcome, accepted, refused, then}
use Rattle.octagon.specs.Cells.{Cells, ◌≐◌, Empty, Some, In, LeavesMap}
use Rattle.morphology.specs.Sets.{ErodedTimes}
use Rattle.morphology.specs.Operations.{nothing_left}
use Rattle.morphology.specs.Folds.{fold_limit, erosion_n}
use Rattle.morphology.specs.Premises.{Allowed, erosions_n}
use Rattle.morphology.specs.Cases.{fails, passes, stands, Fitting, ErodingTimes}
use Rattle.morphology.proofs.SetLaws.{same_refl, same_sym, same_empty, some_there, leaves_same, eroded_times_same, eroded_times_add, eroded_times_empty, eroded_past}
use Rattle.morphology.proofs.Checks.{passing, retold, onward_operands, check_one}
use Rattle.morphology.proofs.Handed.{not_empty, stays, itself, same_set, stands_one}
use Rattle.morphology.proofs.Erosions.{eroding_times, erosion_n_exactly}
use Rattle.morphology.proofs.Decided.{accepted_allowed, nothing_allowed, Decided, erosion_n_decided, erosion_n_fits, erosion_n_element}

-- an answer that a set decides is decided by each set with the same cells
fitting_same : {A B : Cells} {o : Outcome Octagon} → A ≐ B → Fitting A o → Fitting B o
fitting_same e = retold (same_empty e, same_empty (same_sym e)) (retold (leaves_same e, leaves_same (same_sym e)) (same_set e))

-- n folds of g after an answer that the set A decides: the set A, eroded n times, decides the answer of both
eroded_on : {A : Cells} {o : Outcome Octagon} (g : Octagon) (n : ℕ) → n ≤ fold_limit → ¬ (Empty (In g)) → ¬ (LeavesMap (In g)) → Allowed o →
    Fitting A o → Fitting (ErodedTimes n A (In g)) (then o (λ e. erosion_n e g n))
eroded_on g n l s t a (fails h) = fails (eroded_times_empty n h s)
eroded_on g n l s t a (passes _ (fails h)) = absurd (a refl)
eroded_on g n l s t a (passes _ (passes _ (stands {a = e} r))) =
    fitting_same (eroded_times_same n r.cells (same_refl (In g)))
    (passing t (passing s (passing (stays (itself r)) (passing (not_empty (itself r)) (passing (λ m. omega arith) (eroding_times e g n))))))

-- ---- one element

-- "the same for trims, nothing left included": whatever the operands hold, and whatever the answer is
pub erosions_add : (p f : Octagon) (m n : ℕ) → m + n ≤ fold_limit → Allowed (erosion_n p f m) → erosions_n p f m f n ≡ erosion_n p f (m + n)
erosions_add p f m n l a = sym ((erosion_n_exactly p f (m + n) (erosions_n p f m f n)).1 cases)
  where
    cases : ErodingTimes p f (m + n) (erosions_n p f m f n)
    cases =
        passes (λ k. omega arith)
        (onward_operands (λ e. erosion_n e f n)
        (λ _ _ s t c. fitting_same (eroded_times_add m n (In p) (In f)) (eroded_on f n (omega arith) s t a c))
        (passing (λ k. omega arith) (eroding_times p f m)))

-- the same with no word for two calls: n folds of what m left
pub trim_again : (p f : Octagon) (m n : ℕ) (e : Octagon) → m + n ≤ fold_limit → erosion_n p f m ≡ accepted e → erosion_n e f n ≡ erosion_n p f (m + n)
trim_again p f m n e l q = rw q at (erosions_add p f m n l (accepted_allowed q))

-- so, of operands that hold a cell, both are one octagon, or both are 5
pub erosions_either : (p f : Octagon) (m n : ℕ) → Some (In p) → Some (In f) → m + n ≤ fold_limit → Allowed (erosion_n p f m) → Allowed (erosion_n p f (m + n)) →
    ((e : Octagon) × (erosions_n p f m f n ≡ accepted e) × (erosion_n p f (m + n) ≡ accepted e)) ⊎ ((erosions_n p f m f n ≡ refused nothing_left) × (erosion_n p f (m + n) ≡ refused nothing_left))
erosions_either p f m n s t l a b = go (erosion_n_decided p f (m + n) s t l b) (erosions_add p f m n l a) refl
  where
    go : {A : Cells} {o : Outcome Octagon} → Decided A o → {q r : Outcome Octagon} → q ≡ r → r ≡ o →
        ((e : Octagon) × (q ≡ accepted e) × (r ≡ accepted e)) ⊎ ((q ≡ refused nothing_left) × (r ≡ refused nothing_left))
    go (fails h) x y = inr (x ∙ y, y)
    go (passes _ (stands {a = e} r)) x y = inl (e, x ∙ y, y)

-- "where the first of two trims gives 5, that is the answer of the two", and of m + n folds
pub nothing_then : (p f : Octagon) (m : ℕ) (g : Octagon) (n : ℕ) → erosion_n p f m ≡ refused nothing_left → erosions_n p f m g n ≡ refused nothing_left
nothing_then p f m g n e = rw e refl

pub nothing_later : (p f : Octagon) (m n : ℕ) → m + n ≤ fold_limit → erosion_n p f m ≡ refused nothing_left → erosion_n p f (m + n) ≡ refused nothing_left
nothing_later p f m n l e = sym (erosions_add p f m n l (nothing_allowed e)) ∙ nothing_then p f m f n e

-- ---- two elements

-- the answer of m folds of f and then n of g, where g is on the map
two_fit : (p f : Octagon) (m : ℕ) (g : Octagon) (n : ℕ) → Some (In p) → Some (In f) → Some (In g) → m ≤ fold_limit → n ≤ fold_limit →
    Allowed (erosion_n p f m) → ¬ (LeavesMap (In g)) → Fitting (ErodedTimes n (ErodedTimes m (In p) (In f)) (In g)) (erosions_n p f m g n)
two_fit p f m g n s t u k l a b = eroded_on g n l (some_there u) b a (erosion_n_fits p f m s t k a)

-- trimming by m folds of one element and n of another gives the same answer in either order, nothing left included
pub erosions_n_commute : (p f : Octagon) (m : ℕ) (g : Octagon) (n : ℕ) → Some (In p) → Some (In f) → Some (In g) → m ≤ fold_limit → n ≤ fold_limit →
    Allowed (erosion_n p f m) → Allowed (erosion_n p g n) → erosions_n p f m g n ≡ erosions_n p g n f m
erosions_n_commute p f m g n s t u k l a b =
    check_one (check_one stands_one) _ _
    (fitting_same (eroded_past (In p) (In g) (In f) n m) (two_fit p f m g n s t u k l a (erosion_n_element p g n s u l b)))
    (two_fit p g n f m s u t l k b (erosion_n_element p f m s t k a))
