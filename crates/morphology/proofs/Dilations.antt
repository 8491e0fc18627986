-- The answers of `dilate_n` and `dilate`, each with the case of documents 01 and 02 in which it is given. Assumes nothing.
use mathlib.Core.Path.{◌≡◌, sym, ◌∙◌, ap}
use mathlib.Core.Logic.{◌↔◌, inl, inr}
use mathlib.Core.Bool.{Bool, true, false, cond}
use Prim.Native.Nat.{ℕ, ◌≤◌}
use native.Mathlib.Omega.{arith}
use lib.Dec.{ltb}
use borrow.Author.Tests.{ltb-true, lt-ltb}
use Rattle.integers.proofs.Tests.{cases, both_true, and_true, true_is_not_false}
use Rattle.octagon.specs.Octagon.{Octagon}
use Rattle.octagon.specs.Outcome.{Outcome, accepted, refused}
use Rattle.octagon.specs.Cells.{Cells, ◌≐◌, In}
use Rattle.octagon.specs.NormalForm.{normalised, placed, is_on_map}
use Rattle.octagon.proofs.Outcomes.{accepted_same, accepted_not_refused, past_test, then_accepted}
use Rattle.morphology.specs.Sets.{Dilated, DilatedTimes, OpposedRows}
use Rattle.morphology.specs.Marks.{Marked}
use Rattle.morphology.specs.Operations.{sums, are_opposed, dilation}
use Rattle.morphology.specs.Folds.{multiples, fold_limit, are_opposed_in, dilation_n}
use Rattle.morphology.specs.Cases.{passes, NoOctagon, Spreading, Dilating, DilatingTimes}
use Rattle.morphology.proofs.DiagonalRows.{not_opposed, not_opposed'}
use Rattle.morphology.proofs.Multiples.{multiples_dilate}
use Rattle.morphology.proofs.SetLaws.{same_refl, same_sym, same_trans, leaves_same, dilated_comm, dilated_times_same}
use Rattle.morphology.proofs.Checks.{by_test, passing, passed, later, after_operands, on_operand_of, after, on_both, check_one, operands_one, exactly}
use Rattle.morphology.proofs.Handed.{spreads_one, spreads_same, placed_spreads, spreading, filled_exactly}
use Rattle.morphology.proofs.Fillings.{multiples_smallest}
use Rattle.morphology.proofs.Operands.{Form, form_smallest, Accepted, on_operands}
use Rattle.morphology.proofs.Pairings.{rows_test, opposed_no_octagon}
use Rattle.morphology.proofs.FoldedRows.{opposed_times_no_octagon}
use Rattle.morphology.proofs.FewFolds.{dilation_one}

-- the call on the normal forms a and b of its operands
module _ (p f : Octagon) (n : ℕ) (a b : Octagon) (h : Form p a) (k : Form f b) where
  opposed_test : (are_opposed_in n a b ≡ true) ↔ ((1 ≤ n) × OpposedRows (In p) (In f))
  opposed_test = (
    λ t. let q = both_true (ltb 0 n) (are_opposed a b) t in (ltb-true 0 n q.0, (rows_test p f a b h k).0 q.1),
    λ r. and_true (lt-ltb 0 n r.0) ((rows_test p f a b h k).1 r.1),
  )

  apart : are_opposed_in n a b ≡ false → 1 ≤ n → are_opposed a b ≡ false
  apart t m = cases (are_opposed a b) (λ u. absurd (true_is_not_false (sym (and_true (lt-ltb 0 n m) u) ∙ t))) (λ u. u)

  exact_cells : are_opposed_in n a b ≡ false → In (sums a (multiples n b)) ≐ DilatedTimes n (In p) (In f)
  exact_cells t =
      same_trans (multiples_dilate n a b h.normal k.normal (λ m. (not_opposed a b (apart t m), not_opposed' a b (apart t m))))
      (dilated_times_same n h.cells k.cells)

-- one of the cases holds of any operands and any n
pub dilating_times : (p f : Octagon) (n : ℕ) → DilatingTimes p f n (dilation_n p f n)
unfolding dilation_n
dilating_times p f n =
    by_test (ltb fold_limit n) _ (ltb-true fold_limit n, lt-ltb fold_limit n) λ _.
    on_operands p f _ λ a b h k.
    placed_spreads (sums a (multiples n b)) (are_opposed_in n a b) (multiples_smallest n (form_smallest h) (form_smallest k)) (opposed_test p f n a b h k) (exact_cells p f n a b h k)

-- and each answer is given exactly where its case holds
pub dilation_n_exactly : (p f : Octagon) (n : ℕ) (o : Outcome Marked) → (dilation_n p f n ≡ o) ↔ DilatingTimes p f n o
dilation_n_exactly p f n = exactly (dilation_n p f n) (check_one (operands_one (check_one spreads_one))) (dilating_times p f n)

-- accepted: exact, the n-fold dilation of definition 2.16; filled, the smallest octagon that holds it; normalised, and on the map
pub dilation_n_accepted : (p f : Octagon) (n : ℕ) (m : Marked) → dilation_n p f n ≡ accepted m →
    Spreading ((1 ≤ n) × OpposedRows (In p) (In f)) (DilatedTimes n (In p) (In f)) m
dilation_n_accepted p f n m q = spreading m (later (after_operands (later ((dilation_n_exactly p f n (accepted m)).0 q))))

-- filled exactly where no octagon has just the cells of that set
pub dilation_n_filled : (p f : Octagon) (n : ℕ) (m : Marked) → dilation_n p f n ≡ accepted m → (m.is_filled ≡ true) ↔ NoOctagon (DilatedTimes n (In p) (In f))
dilation_n_filled p f n m q = filled_exactly m (dilation_n_accepted p f n m q) (λ t. opposed_times_no_octagon p f n t.0 t.1)

-- and its bounds: the sums of the operands' normal forms, the second's n times
pub record Sum (p f : Octagon) (n : ℕ) (d : Octagon) : Type 0 where
  pub a : Octagon
  pub b : Octagon
  pub few : ltb fold_limit n ≡ false
  pub operands : Accepted p f a b
  pub is_sums : d ≡ sums a (multiples n b)

pub accepted_sum : (p f : Octagon) (n : ℕ) (m : Marked) → dilation_n p f n ≡ accepted m → Sum p f n m.octagon
unfolding dilation_n placed
accepted_sum p f n m q =
    let k = past_test (ltb fold_limit n) _ _ m q in
    let s = then_accepted (normalised p) _ m k.1 in
    let t = then_accepted (normalised f) _ m s.second in
    let e = sums s.between (multiples n t.between) in
    let u = then_accepted (placed e) _ m t.second in
    record {
      a = s.between;
      b = t.between;
      few = k.0;
      operands = record { of_p = s.first; of_f = t.first };
      is_sums = ap (λ n. n.octagon) (sym (accepted_same u.second)) ∙ told_sum (is_on_map e) _ e u.between u.first;
    }
  where
    told_sum : (t : Bool) (k : ℕ) (e d : Octagon) → cond t (accepted e) (refused k) ≡ accepted d → d ≡ e
    told_sum true k e d q = sym (accepted_same q)
    told_sum false k e d q = absurd (accepted_not_refused (sym q))

-- ---- one fold

pub dilating : (p f : Octagon) → Dilating p f (dilation p f)
dilating p f =
    on_both (after (spreads_same (λ t. t.1, λ r. (omega arith, r)) (same_refl (Dilated (In p) (In f)))))
    (passing (λ l. omega arith) (rw (dilation_one p f) at (dilating_times p f 1)))

pub dilation_exactly : (p f : Octagon) (o : Outcome Marked) → (dilation p f ≡ o) ↔ Dilating p f o
dilation_exactly p f = exactly (dilation p f) (operands_one (check_one spreads_one)) (dilating p f)

-- accepted: exact, the sums of a cell of one and a cell of the other; filled, the smallest octagon that holds them; normalised, and on the map
pub dilation_accepted : (p f : Octagon) (m : Marked) → dilation p f ≡ accepted m → Spreading (OpposedRows (In p) (In f)) (Dilated (In p) (In f)) m
dilation_accepted p f m q = spreading m (later (after_operands ((dilation_exactly p f (accepted m)).0 q)))

-- whichever operand is put first, with the same mark
pub dilation_turned : (p f : Octagon) (m : Marked) → dilation p f ≡ accepted m → dilation f p ≡ accepted m
dilation_turned p f m q =
    let c = (dilation_exactly p f (accepted m)).0 q in
    let d = after_operands c in
    let e = dilated_comm (In p) (In f) in
    (dilation_exactly f p (accepted m)).1
    (on_operand_of (later (later c)) (on_operand_of c
    (passes (λ l. passed d (leaves_same (same_sym e) l)) (spreads_same (turned, turned) e (later d)))))
  where
    turned : {A B : Cells} → OpposedRows A B → OpposedRows B A
    turned (inl r) = inr (r.1, r.0)
    turned (inr r) = inl (r.1, r.0)

-- filled exactly where no octagon has just the sums as its cells
pub dilation_filled : (p f : Octagon) (m : Marked) → dilation p f ≡ accepted m → (m.is_filled ≡ true) ↔ NoOctagon (Dilated (In p) (In f))
dilation_filled p f m q = filled_exactly m (dilation_accepted p f m q) (opposed_no_octagon p f)
