-- The answers of `erode_n` and `erode`, each with the case of document 01 in which it is given. Assumes nothing.
use mathlib.Core.Path.{◌≡◌}
use mathlib.Core.Logic.{◌↔◌}
use Prim.Native.Nat.{ℕ}
use native.Mathlib.Omega.{arith}
use lib.Dec.{ltb}
use borrow.Author.Tests.{ltb-true, lt-ltb}
use Rattle.octagon.specs.Octagon.{Octagon}
use Rattle.octagon.specs.Outcome.{Outcome, accepted, refused}
use Rattle.octagon.specs.Cells.{Empty, In, Represents}
use Rattle.morphology.specs.Sets.{Eroded, ErodedTimes}
use Rattle.morphology.specs.Operations.{differences, nothing_left, erosion}
use Rattle.morphology.specs.Folds.{multiples, fold_limit, erosion_n}
use Rattle.morphology.specs.Cases.{Eroding, ErodingTimes}
use Rattle.morphology.proofs.Multiples.{multiples_erode}
use Rattle.morphology.proofs.SetLaws.{same_trans, eroded_times_same}
use Rattle.morphology.proofs.Checks.{by_test, passing, skip, later, failed, after_operands, skip_operands, check_one, operands_one, exactly}
use Rattle.morphology.proofs.Handed.{represented, not_refused, stands_one}
use Rattle.morphology.proofs.Operands.{on_operands, fitted}
use Rattle.morphology.proofs.FewFolds.{erosion_one}

-- one of the cases holds of any operands and any n
pub eroding_times : (p f : Octagon) (n : ℕ) → ErodingTimes p f n (erosion_n p f n)
unfolding erosion_n
eroding_times p f n =
    by_test (ltb fold_limit n) _ (ltb-true fold_limit n, lt-ltb fold_limit n) λ _.
    on_operands p f _ λ a b h k.
    fitted (differences a (multiples n b)) (same_trans (multiples_erode n a b k.normal) (eroded_times_same n h.cells k.cells))

-- and each answer is given exactly where its case holds
pub erosion_n_exactly : (p f : Octagon) (n : ℕ) (o : Outcome Octagon) → (erosion_n p f n ≡ o) ↔ ErodingTimes p f n o
erosion_n_exactly p f n = exactly (erosion_n p f n) (check_one (operands_one (check_one (check_one stands_one)))) (eroding_times p f n)

-- accepted: exactly the n-fold erosion of definition 2.17; normalised, and on the map
pub erosion_n_accepted : (p f : Octagon) (n : ℕ) (e : Octagon) → erosion_n p f n ≡ accepted e → Represents e (ErodedTimes n (In p) (In f))
erosion_n_accepted p f n e q = represented (later (later (after_operands (later ((erosion_n_exactly p f n (accepted e)).0 q)))))

-- ---- one fold

eroding : (p f : Octagon) → Eroding p f (erosion p f)
eroding p f = passing (λ l. omega arith) (rw (erosion_one p f) at (eroding_times p f 1))

pub erosion_exactly : (p f : Octagon) (o : Outcome Octagon) → (erosion p f ≡ o) ↔ Eroding p f o
erosion_exactly p f = exactly (erosion p f) (operands_one (check_one (check_one stands_one))) (eroding p f)

-- accepted: exactly the positions at which the whole of f stands inside p; normalised, and on the map
pub erosion_accepted : (p f e : Octagon) → erosion p f ≡ accepted e → Represents e (Eroded (In p) (In f))
erosion_accepted p f e q = represented (later (later (after_operands ((erosion_exactly p f (accepted e)).0 q))))

-- "A trim says that nothing is left only when no position fits"
pub erosion_nothing : (p f : Octagon) → erosion p f ≡ refused nothing_left → Empty (Eroded (In p) (In f))
erosion_nothing p f q =
    failed (λ c. not_refused (skip (λ e. omega arith) c)) (skip_operands (omega arith) ((erosion_exactly p f (refused nothing_left)).0 q))
