-- Allowed calls on operands that hold a cell have answers that a set decides. Assumes nothing.
use mathlib.Core.Path.{◌≡◌, sym, ◌∙◌}
use Prim.Native.Nat.{ℕ, ◌≤◌}
use native.Mathlib.Omega.{arith}
use Rattle.octagon.specs.Octagon.{Octagon}
use Rattle.octagon.specs.Outcome.{Outcome, accepted, refused}
use Rattle.octagon.specs.Cells.{Cells, ◌≐◌, Empty, Some, In, LeavesMap}
use Rattle.octagon.proofs.Outcomes.{refused_same, accepted_not_refused}
use Rattle.morphology.specs.Sets.{Eroded, ErodedTimes}
use Rattle.morphology.specs.Marks.{Marked}
use Rattle.morphology.specs.Operations.{nothing_left, dilation, erosion}
use Rattle.morphology.specs.Folds.{fold_limit, dilation_n, erosion_n}
use Rattle.morphology.specs.Premises.{Allowed}
use Rattle.morphology.specs.Cases.{Answers, Check, Stands, OnOperands, Fitting, OnFolds}
use Rattle.morphology.proofs.SetLaws.{same_sym, same_empty, some_there}
use Rattle.morphology.proofs.Checks.{passing, other, not_failed, retold, after, check_one}
use Rattle.morphology.proofs.Handed.{same_set, stands_one, spreads_accepted}
use Rattle.morphology.proofs.FewFolds.{dilation_one, erosion_one}
use Rattle.morphology.proofs.Dilations.{dilating_times}
use Rattle.morphology.proofs.Erosions.{eroding_times}

-- ---- which calls are allowed

-- one that is accepted, and one that says that nothing is left
pub accepted_allowed : {R : Type 0} {o : Outcome R} {a : R} → o ≡ accepted a → Allowed o
accepted_allowed e q = accepted_not_refused (sym e ∙ q)

pub nothing_allowed : {R : Type 0} {o : Outcome R} → o ≡ refused nothing_left → Allowed o
nothing_allowed e q = let n = refused_same (sym e ∙ q) in omega (arith, n)

-- ---- what they answer

-- an answer is the octagon that stands for a set, or 5 where the set has no cell
abbrev pub Decided : Cells → Answers Octagon
Decided A = Check (Empty A) nothing_left (Stands A)

pub decided_by : {A B : Cells} {o : Outcome Octagon} → A ≐ B → Decided A o → Decided B o
decided_by e = retold (same_empty e, same_empty (same_sym e)) (same_set e)

-- a set decides one answer
pub decided_same : {A B : Cells} {o q : Outcome Octagon} → A ≐ B → Decided A o → Decided B q → o ≡ q
decided_same {A} {B} {o} {q} e c d = check_one stands_one o q (decided_by e c) d

-- operands that hold a cell are not refused by an allowed call, nor are few enough folds
allowed_operands : {R : Type 0} {C : Answers R} {p f : Octagon} {o : Outcome R} → Some (In p) → Some (In f) → Allowed o → OnOperands p f C o → C o
allowed_operands s t a c = other a (passing (some_there t) (other a (passing (some_there s) c)))

allowed_folds : {R : Type 0} {C : Answers R} {p f : Octagon} {o : Outcome R} (n : ℕ) → Some (In p) → Some (In f) → n ≤ fold_limit → Allowed o →
    OnFolds n (OnOperands p f C) o → C o
allowed_folds n s t l a c = allowed_operands s t a (passing (λ m. omega arith) c)

-- an allowed n-fold erosion is decided by the positions that fit
module _ (p f : Octagon) (n : ℕ) (s : Some (In p)) (t : Some (In f)) (l : n ≤ fold_limit) (a : Allowed (erosion_n p f n)) where
  pub erosion_n_fits : Fitting (ErodedTimes n (In p) (In f)) (erosion_n p f n)
  erosion_n_fits = allowed_folds n s t l a (eroding_times p f n)

  pub erosion_n_decided : Decided (ErodedTimes n (In p) (In f)) (erosion_n p f n)
  erosion_n_decided = after (other a) erosion_n_fits

  -- and its element is on the map
  pub erosion_n_element : ¬ (LeavesMap (In f))
  erosion_n_element = not_failed a (passing (some_there t) (other a (passing (some_there s) (passing (λ m. omega arith) (eroding_times p f n)))))

-- and so is one fold
pub erosion_decided : (p f : Octagon) → Some (In p) → Some (In f) → Allowed (erosion p f) → Decided (Eroded (In p) (In f)) (erosion p f)
erosion_decided p f s t a = rw (erosion_one p f) at (erosion_n_decided p f 1 s t (omega arith) (rw (erosion_one p f) a))

-- an allowed dilation is accepted, exact or filled
pub dilation_n_allowed : (p f : Octagon) (n : ℕ) → Some (In p) → Some (In f) → n ≤ fold_limit → Allowed (dilation_n p f n) →
    (d : Marked) × (dilation_n p f n ≡ accepted d)
dilation_n_allowed p f n s t l a = spreads_accepted (other a (allowed_folds n s t l a (dilating_times p f n)))

pub dilation_allowed : (p f : Octagon) → Some (In p) → Some (In f) → Allowed (dilation p f) → (d : Marked) × (dilation p f ≡ accepted d)
dilation_allowed p f s t a = rw (dilation_one p f) at (dilation_n_allowed p f 1 s t (omega arith) (rw (dilation_one p f) a))
