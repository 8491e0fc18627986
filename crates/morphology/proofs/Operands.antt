-- The operands of a call, which are normalised, the first before the second: document 01's checks of them, and their normal forms.
-- Assumes nothing.
use mathlib.Core.Path.{◌≡◌, refl}
use Prim.Native.Nat.{ℕ}
use Rattle.octagon.specs.Octagon.{Octagon}
use Rattle.octagon.specs.Outcome.{Outcome, accepted, refused, then, no_cell, off_map}
use Rattle.octagon.specs.Cells.{Cells, ◌≐◌, Empty, Some, In, LeavesMap, Smallest}
use Rattle.octagon.specs.NormalForm.{normal_form, normalised}
use Rattle.octagon.proofs.Within.{Normal}
use Rattle.octagon.proofs.Vertices.{normal_normalised}
use Rattle.octagon.proofs.Smallest.{smallest_own}
use Rattle.octagon.proofs.Normalising.{some_normal, Normalising, is_normal, is_empty, is_off, normalising, form_cells}
use Rattle.octagon.proofs.NormalForms.{accepted_means, accepted_normal}
use Rattle.morphology.specs.Operations.{with_both, fitting}
use Rattle.morphology.specs.Cases.{Answers, Check, fails, passes, stands, OnOperand, OnOperands, Fitting}
use Rattle.morphology.proofs.SetLaws.{same_refl, same_sym, same_empty, leaves_same}
use Rattle.morphology.proofs.Handed.{not_empty, stays, represents_same}

-- ---- normal forms

-- a has the cells of p, and its sides are nought or more
pub record Form (p a : Octagon) : Type 0 where
  pub normal : Normal a
  pub cells : In a ≐ In p

-- whatever has a cell has such a form, on the map or off it
pub form_of : (p : Octagon) → Some (In p) → Form p (normal_form p)
form_of p s = record { normal = some_normal p s; cells = form_cells p }

-- the form is the smallest octagon that holds those cells
pub form_smallest : {p a : Octagon} → Form p a → Smallest a (In p)
form_smallest {p} {a} h = (smallest_own p a).1 (normal_normalised a h.normal, h.cells)

-- both operands of a call, accepted
pub record Accepted (p f a b : Octagon) : Type 0 where
  pub of_p : normalised p ≡ accepted a
  pub of_f : normalised f ≡ accepted b

-- ---- the checks

-- an answer that h makes of a normalised octagon with the cells of A
pub judged : {R : Type 0} {A : Cells} {k : ℕ} {C : Answers R} (d : Octagon) (h : Outcome Octagon → Outcome R) → In d ≐ A →
    h (refused no_cell) ≡ refused k → h (refused off_map) ≡ refused off_map → ((a : Octagon) → normalised d ≡ accepted a → C (h (accepted a))) →
    Check (Empty A) k (Check (LeavesMap A) off_map C) (h (normalised d))
judged {R} {A} {k} {C} d h e p q f = go (normalising d) refl
  where
    go : {o : Outcome Octagon} → Normalising d o → normalised d ≡ o → Check (Empty A) k (Check (LeavesMap A) off_map C) (h o)
    go (is_normal a _ _ _ _) r =
        let t = accepted_means d a r in
        passes (λ n. not_empty t (same_empty (same_sym e) n)) (passes (λ l. stays t (leaves_same (same_sym e) l)) (f a r))
    go (is_empty n) r = rw p (fails (same_empty e n))
    go (is_off _ l) r = rw q (passes (λ n. n l.x l.y ((e l.x l.y).0 l.cell.0)) (fails (leaves_same e l)))

-- a call on two operands, by what it answers on their normal forms
on_operand : {R : Type 0} {C : Answers R} (p : Octagon) (g : Octagon → Outcome R) → ((a : Octagon) → Form p a → C (g a)) → OnOperand p C (then (normalised p) g)
on_operand p g f = judged p (λ o. then o g) (same_refl (In p)) refl refl (λ a q. f a (record { normal = accepted_normal p a q; cells = (accepted_means p a q).cells }))

pub on_operands : {R : Type 0} {C : Answers R} (p f : Octagon) (g : Octagon → Octagon → Outcome R) →
    ((a b : Octagon) → Form p a → Form f b → C (g a b)) → OnOperands p f C (with_both p f g)
on_operands p f g h = on_operand p (λ a. then (normalised f) (λ b. g a b)) (λ a i. on_operand f (λ b. g a b) (λ b j. h a b i j))

-- the positions within differences of bounds
pub fitted : {A : Cells} (d : Octagon) → In d ≐ A → Fitting A (fitting (normalised d))
fitted d e = judged d fitting e refl refl λ a q. stands (represents_same e (accepted_means d a q))
