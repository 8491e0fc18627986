-- Checks that are made one after the other (specs/Cases.antt): a test that computes decides one, and each answer has one case.
-- Assumes nothing.
use mathlib.Core.Path.{◌≡◌, refl, sym, ◌∙◌}
use mathlib.Core.Logic.{◌↔◌}
use mathlib.Core.Bool.{Bool, true, false, cond}
use Prim.Native.Nat.{ℕ, ◌≤◌}
use native.Mathlib.Omega.{arith}
use Rattle.integers.proofs.Tests.{cases, true_is_not_false}
use Rattle.octagon.specs.Octagon.{Octagon}
use Rattle.octagon.specs.Outcome.{Outcome, accepted, refused, then}
use Rattle.octagon.specs.Cells.{Empty, In, LeavesMap}
use Rattle.octagon.proofs.Outcomes.{refused_same, accepted_not_refused}
use Rattle.morphology.specs.Cases.{Answers, Check, fails, passes, OnOperand, OnOperands}

-- ---- one check

-- a test that computes decides it
pub by_test : {R T : Type 0} {k : ℕ} {C : Answers R} (t : Bool) (o : Outcome R) → (t ≡ true) ↔ T → (t ≡ false → C o) → Check T k C (cond t (refused k) o)
by_test t o e c = cases t (λ h. rw h (fails (e.0 h))) (λ h. rw h (passes (λ x. true_is_not_false (sym (e.1 x) ∙ h)) (c h)))

-- where its test does not hold, or the answer is another, the answer is that of what comes after it
pub passing : {R T : Type 0} {k : ℕ} {C : Answers R} {o : Outcome R} → ¬ T → Check T k C o → C o
passing n (fails t) = absurd (n t)
passing n (passes h c) = c

pub other : {R T : Type 0} {k : ℕ} {C : Answers R} {o : Outcome R} → ¬ (o ≡ refused k) → Check T k C o → C o
other n (fails t) = absurd (n refl)
other n (passes h c) = c

-- and its test does not hold
pub not_failed : {R T : Type 0} {k : ℕ} {C : Answers R} {o : Outcome R} → ¬ (o ≡ refused k) → Check T k C o → ¬ T
not_failed n (fails t) = absurd (n refl)
not_failed n (passes h c) = h

-- of an answer that is accepted: the test does not hold, and the answer is that of what comes after it
pub passed : {R T : Type 0} {k : ℕ} {C : Answers R} {a : R} → Check T k C (accepted a) → ¬ T
passed c = not_failed (λ e. accepted_not_refused e) c

pub later : {R T : Type 0} {k : ℕ} {C : Answers R} {a : R} → Check T k C (accepted a) → C (accepted a)
later c = other (λ e. accepted_not_refused e) c

pub skip : {R T : Type 0} {j k : ℕ} {C : Answers R} → ¬ (j ≡ k) → Check T k C (refused j) → C (refused j)
skip n c = other (λ e. n (refused_same e)) c

pub after_operands : {R : Type 0} {C : Answers R} {p f : Octagon} {a : R} → OnOperands p f C (accepted a) → C (accepted a)
after_operands c = later (later (later (later c)))

-- an operand of a call that is accepted passes the checks of another
pub operand_passes : {R S : Type 0} {C : Answers R} {D : Answers S} {p : Octagon} {a : R} {o : Outcome S} → OnOperand p C (accepted a) → OnOperand p D o → D o
operand_passes c d = passing (passed (later c)) (passing (passed c) d)

pub on_operand_of : {R S : Type 0} {C : Answers R} {D : Answers S} {p : Octagon} {a : R} {o : Outcome S} → OnOperand p C (accepted a) → D o → OnOperand p D o
on_operand_of c d = passes (passed c) (passes (passed (later c)) d)

pub skip_operands : {R : Type 0} {C : Answers R} {p f : Octagon} {j : ℕ} → 3 ≤ j → OnOperands p f C (refused j) → C (refused j)
skip_operands l c = skip (λ e. omega arith) (skip (λ e. omega arith) (skip (λ e. omega arith) (skip (λ e. omega arith) c)))

-- where the answer is its own and no later one, the test holds
pub failed : {R T : Type 0} {k : ℕ} {C : Answers R} {o : Outcome R} → (C o → ⊥) → Check T k C o → T
failed n (fails t) = t
failed n (passes h c) = absurd (n c)

-- the same with other words for the test, and for what comes after it
pub retold : {R T U : Type 0} {k : ℕ} {C D : Answers R} {o : Outcome R} → T ↔ U → (C o → D o) → Check T k C o → Check U k D o
retold e f (fails t) = fails (e.0 t)
retold e f (passes h c) = passes (λ u. h (e.1 u)) (f c)

pub after : {R T : Type 0} {k : ℕ} {C D : Answers R} {o : Outcome R} → (C o → D o) → Check T k C o → Check T k D o
after f = retold (λ t. t, λ t. t) f

pub on_both : {R : Type 0} {C D : Answers R} {p f : Octagon} {o : Outcome R} → (C o → D o) → OnOperands p f C o → OnOperands p f D o
on_both f c = after (after (after (after f))) c

-- a step g after a call whose answer is o: each check of the call is one of the two steps
pub onward : {R S T : Type 0} {k : ℕ} {C : Answers R} {D : Answers S} {o : Outcome R} (g : R → Outcome S) →
    (¬ T → C o → D (then o g)) → Check T k C o → Check T k D (then o g)
onward g f (fails t) = fails t
onward g f (passes h c) = passes h (f h c)

pub onward_operands : {R S : Type 0} {C : Answers R} {D : Answers S} {p f : Octagon} {o : Outcome R} (g : R → Outcome S) →
    (¬ (Empty (In p)) → ¬ (LeavesMap (In p)) → ¬ (Empty (In f)) → ¬ (LeavesMap (In f)) → C o → D (then o g)) → OnOperands p f C o → OnOperands p f D (then o g)
onward_operands g h c = onward g (λ a. onward g (λ b. onward g (λ d. onward g (λ e. h a b d e)))) c

-- ---- one answer

-- no two answers have their case
abbrev pub One : {R : Type 0} → Answers R → Type 0
One {R} C = (o q : Outcome R) → C o → C q → o ≡ q

pub check_one : {R T : Type 0} {k : ℕ} {C : Answers R} → One C → One (Check T k C)
check_one f o q (fails t) (fails u) = refl
check_one f o q (fails t) (passes h c) = absurd (h t)
check_one f o q (passes h c) (fails u) = absurd (h u)
check_one f o q (passes h c) (passes g d) = f o q c d

pub operands_one : {R : Type 0} {C : Answers R} {p f : Octagon} → One C → One (OnOperands p f C)
operands_one f = check_one (check_one (check_one (check_one f)))

-- so the answer that has its case is the only one
pub exactly : {R : Type 0} {C : Answers R} (a : Outcome R) → One C → C a → (o : Outcome R) → (a ≡ o) ↔ C o
exactly a f c o = (λ e. rw e at c, λ d. f a o c d)
