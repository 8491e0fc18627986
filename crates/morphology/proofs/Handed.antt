-- The octagon that is handed back after the last check (specs/Cases.antt): one that stands for a set, or one that is marked. Assumes nothing.
use mathlib.Core.Path.{◌≡◌, refl, sym, ◌∙◌, ap}
use mathlib.Core.Logic.{◌↔◌}
use mathlib.Core.Bool.{Bool, true, false}
use Prim.Native.Nat.{ℕ}
use Rattle.integers.proofs.Tests.{cases, true_is_not_false}
use Rattle.octagon.specs.Octagon.{Octagon}
use Rattle.octagon.specs.Outcome.{Outcome, accepted, refused, off_map}
use Rattle.octagon.specs.Cells.{Cells, ◌⊆◌, ◌≐◌, Empty, Some, In, OnMap, LeavesMap, Represents, Smallest, limit}
use Rattle.octagon.specs.NormalForm.{normalised, placed}
use Rattle.octagon.proofs.Outcomes.{accepted_same, accepted_not_refused}
use Rattle.octagon.proofs.Smallest.{smallest_unique, smallest_same, smallest_normalised, smallest_on_map, smallest_again, smallest_own, placed_within, placed_leaving, within_or_leaving}
use Rattle.octagon.proofs.Unique.{unique}
use Rattle.cell_count.specs.Count.{count, inside}
use Rattle.cell_count.specs.Area.{cell_count}
use Rattle.cell_count.proofs.Counted.{count_when}
use Rattle.morphology.specs.Marks.{Marked, exact, filled, marked}
use Rattle.morphology.specs.Cases.{Check, fails, passes, Stands, stands, Covers, Says, says_exact, says_filled, NoOctagon, Spreads, StaysExact, Spreading}
use Rattle.morphology.proofs.SetLaws.{same_refl, same_sym, same_trans}
use Rattle.morphology.proofs.Checks.{One}

-- ---- the octagon that stands for a set

pub represented : {A : Cells} {a : Octagon} → Stands A (accepted a) → Represents a A
represented (stands r) = r

pub not_refused : {A : Cells} {k : ℕ} → Stands A (refused k) → ⊥
not_refused c = go c refl
  where
    go : {A : Cells} {k : ℕ} {o : Outcome Octagon} → Stands A o → o ≡ refused k → ⊥
    go (stands r) q = accepted_not_refused q

pub not_empty : {A : Cells} {a : Octagon} → Represents a A → ¬ (Empty A)
not_empty r h = let s = r.is_normalised.some in h s.x s.y ((r.cells s.x s.y).0 s.cell)

pub stays : {A : Cells} {a : Octagon} → Represents a A → ¬ (LeavesMap A)
stays r l = l.cell.1 (r.on_the_map l.x l.y ((r.cells l.x l.y).1 l.cell.0))

-- the octagon stands for each set with the same cells, and for its own cells
pub represents_same : {A B : Cells} {a : Octagon} → A ≐ B → Represents a A → Represents a B
represents_same e r = record { cells = same_trans r.cells e; is_normalised = r.is_normalised; on_the_map = r.on_the_map }

pub itself : {A : Cells} {a : Octagon} → Represents a A → Represents a (In a)
itself r = represents_same (same_sym r.cells) r

pub same_set : {A B : Cells} {o : Outcome Octagon} → A ≐ B → Stands A o → Stands B o
same_set e (stands r) = stands (represents_same e r)

-- a set has one such octagon
represents_one : {A : Cells} (a b : Octagon) → Represents a A → Represents b A → a ≡ b
represents_one a b r s = unique r.is_normalised.reached s.is_normalised.reached (same_trans r.cells (same_sym s.cells))

pub stands_one : {A : Cells} → One (Stands A)
stands_one o q (stands {a = a} r) (stands {a = b} s) = ap accepted (represents_one a b r s)

-- ---- the octagon that covers a set

-- one that stands for a set covers it
pub represents_covers : {A : Cells} {a : Octagon} → Represents a A → Covers a A
represents_covers {A} {a} r = record {
  smallest = smallest_same r.cells ((smallest_own a a).1 (r.is_normalised, same_refl (In a)));
  on_the_map = r.on_the_map;
}

-- it is its own normal form, and holds a cell
pub own_form : {A : Cells} {a : Octagon} → Covers a A → normalised a ≡ accepted a
own_form c = smallest_again c.smallest (λ x y i. c.on_the_map x y (c.smallest.holds x y i))

pub covers_some : {A : Cells} {a : Octagon} → Covers a A → Some (In a)
covers_some c = (smallest_normalised c.smallest).some

-- and `count_cells` gives the number of its cells
pub covers_counted : {A : Cells} {a : Octagon} → Covers a A → cell_count a ≡ accepted (count limit (inside a))
covers_counted {a = a} c = count_when a (covers_some c) c.on_the_map

covers_same : {A B : Cells} {a : Octagon} → A ≐ B → Covers a A → Covers a B
covers_same e c = record { smallest = smallest_same e c.smallest; on_the_map = c.on_the_map }

covers_one : {A : Cells} (a b : Octagon) → Covers a A → Covers b A → a ≡ b
covers_one {A} a b c d = smallest_unique (same_refl A) c.smallest d.smallest

-- ---- marks

-- each mark has one octagon, and no answer has both marks
says_one : {T : Type 0} {E F : Octagon → Type 0} → ((a b : Octagon) → E a → E b → a ≡ b) → ((a b : Octagon) → F a → F b → a ≡ b) → One (Says T E F)
says_one e f o q (says_exact {a = a} n r) (says_exact {a = b} m s) = ap (λ c. accepted (exact c)) (e a b r s)
says_one e f o q (says_exact n r) (says_filled t s) = absurd (n t)
says_one e f o q (says_filled t r) (says_exact n s) = absurd (n t)
says_one e f o q (says_filled {a = a} t r) (says_filled {a = b} u s) = ap (λ c. accepted (filled c)) (f a b r s)

pub says_not_refused : {T : Type 0} {E F : Octagon → Type 0} {k : ℕ} → Says T E F (refused k) → ⊥
says_not_refused c = go c refl
  where
    go : {T : Type 0} {E F : Octagon → Type 0} {k : ℕ} {o : Outcome Marked} → Says T E F o → o ≡ refused k → ⊥
    go (says_exact n r) q = accepted_not_refused q
    go (says_filled t r) q = accepted_not_refused q

pub spreads_one : {T : Type 0} {A : Cells} → One (Spreads T A)
spreads_one = says_one represents_one covers_one

pub stays_exact_one : {T : Type 0} {A : Cells} → One (StaysExact T A)
stays_exact_one = says_one represents_one represents_one

-- the same with other words for the test, and for the set
pub spreads_same : {T U : Type 0} {A B : Cells} {o : Outcome Marked} → T ↔ U → A ≐ B → Spreads T A o → Spreads U B o
spreads_same h e (says_exact n r) = says_exact (λ u. n (h.1 u)) (represents_same e r)
spreads_same h e (says_filled t c) = says_filled (h.0 t) (covers_same e c)

-- whatever its mark, an octagon is handed back
pub spreads_accepted : {T : Type 0} {A : Cells} {o : Outcome Marked} → Spreads T A o → (m : Marked) × (o ≡ accepted m)
spreads_accepted (says_exact {a = a} n r) = (exact a, refl)
spreads_accepted (says_filled {a = a} t c) = (filled a, refl)

-- the smallest octagon that holds a set, placed, and marked by a test that is false only where it has no other cells
pub placed_spreads : {T : Type 0} {A : Cells} (s : Octagon) (t : Bool) → Smallest s A → (t ≡ true) ↔ T → (t ≡ false → In s ≐ A) →
    Check (LeavesMap A) off_map (Spreads T A) (marked t (placed s))
placed_spreads {T} {A} s t m e f =
    within_or_leaving m
    (λ h. rw (placed_within m h) (passes (λ l. l.cell.1 (h l.x l.y l.cell.0)) (inside (smallest_on_map m h))))
    (λ l. rw (placed_leaving m l) (fails l))
  where
    inside : In s ⊆ OnMap → Spreads T A (accepted (record { is_filled = t; octagon = s }))
    inside h =
        cases t (λ q. rw q (says_filled (e.0 q) (record { smallest = m; on_the_map = h })))
        (λ q. rw q (says_exact (λ x. true_is_not_false (sym (e.1 x) ∙ q)) (record { cells = f q; is_normalised = smallest_normalised m; on_the_map = h })))

-- what is known of an octagon that is handed back with a mark
pub spreading : {T : Type 0} {A : Cells} (m : Marked) → Spreads T A (accepted m) → Spreading T A m
spreading {T} {A} m c = go c refl
  where
    go : {o : Outcome Marked} → Spreads T A o → o ≡ accepted m → Spreading T A m
    go (says_exact n r) q =
        rw (← accepted_same q)
        (record { covers = represents_covers r; exact_stands = λ _. r; filled_where = (λ e. absurd (true_is_not_false (sym e)), λ t. absurd (n t)) })
    go (says_filled t c) q =
        rw (← accepted_same q) (record { covers = c; exact_stands = λ e. absurd (true_is_not_false e); filled_where = (λ _. t, λ _. refl) })

pub stays_exact_known : {T : Type 0} {A : Cells} (m : Marked) → StaysExact T A (accepted m) →
    Represents m.octagon A × ((m.is_filled ≡ true) ↔ T)
stays_exact_known {T} {A} m c = go c refl
  where
    go : {o : Outcome Marked} → StaysExact T A o → o ≡ accepted m → Represents m.octagon A × ((m.is_filled ≡ true) ↔ T)
    go (says_exact n r) q = rw (← accepted_same q) (r, (λ e. absurd (true_is_not_false (sym e)), λ t. absurd (n t)))
    go (says_filled t r) q = rw (← accepted_same q) (r, (λ _. t, λ _. refl))

-- so, where no octagon has just its cells once T holds, it is filled exactly where no octagon has them
pub filled_exactly : {T : Type 0} {A : Cells} (m : Marked) → Spreading T A m → (T → NoOctagon A) → (m.is_filled ≡ true) ↔ NoOctagon A
filled_exactly m s n = (
  λ e. n (s.filled_where.0 e),
  λ h. cases m.is_filled (λ e. e) (λ e. absurd (h m.octagon (s.exact_stands e).cells)),
)
