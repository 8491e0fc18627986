-- n-fold dilations of opposed rows leave holes too: a row that is dilated by one of its own kind is a row of that kind, so opposed rows
-- stay opposed. Assumes nothing.
use mathlib.Core.Path.{◌≡◌, refl, ◌∙◌, ap₂}
use mathlib.Core.Logic.{inl, inr}
use Prim.Native.Nat.{ℕ, zero, suc, ◌≤◌}
use native.Mathlib.Omega.{arith}
use lib.IntN.{ℤ, ◌+ℤ◌}
use Rattle.integers.proofs.Parts.{sum_parts, eq_parts}
use Rattle.integers.proofs.Linear.{#, same}
use Rattle.octagon.specs.Octagon.{Octagon}
use Rattle.octagon.specs.Cells.{Cells, ◌≐◌, Some, In}
use Rattle.octagon.specs.NormalForm.{normal_form}
use Rattle.morphology.specs.Sets.{Dilated, DilatedTimes, DiagonalRow, OpposedRows}
use Rattle.morphology.specs.Operations.{sums}
use Rattle.morphology.specs.Folds.{multiples}
use Rattle.morphology.specs.Cases.{NoOctagon}
use Rattle.morphology.proofs.Additive.{Additive, adds1, adds3}
use Rattle.morphology.proofs.Meet.{Opposed}
use Rattle.morphology.proofs.Multiples.{multiples_dilate}
use Rattle.morphology.proofs.SetLaws.{same_refl, same_sym, same_trans, dilated_same, dilated_times_same, dilated_times_once}
use Rattle.morphology.proofs.Operands.{Form, form_of}
use Rattle.morphology.proofs.Pairings.{opposed_same, opposed_some, opposed_no_octagon}

-- ---- rows

module _ {d : ℤ → ℤ → ℤ} (add : Additive d) where
  row_sum : {A B : Cells} → DiagonalRow d A → DiagonalRow d B → DiagonalRow d (Dilated A B)
  row_sum {A} {B} r s = record {
    line = r.line +ℤ s.line;
    on_line = λ x y t.
        rw (← t.sum_x, ← t.sum_y)
        (add t.ax t.ay t.bx t.by ∙ ap₂ ◌+ℤ◌ (r.on_line t.ax t.ay t.of_a) (s.on_line t.bx t.by t.of_b));
    two = record { one = beside r.two.one; other = beside r.two.other; apart = λ e. r.two.apart (back e) };
  }
    where
      c : Some B
      c = s.two.one

      beside : Some A → Some (Dilated A B)
      beside a = record {
        x = a.x +ℤ c.x;
        y = a.y +ℤ c.y;
        cell = record { ax = a.x; ay = a.y; bx = c.x; by = c.y; of_a = a.cell; of_b = c.cell; sum_x = refl; sum_y = refl };
      }

      back : {u v : ℤ} → u +ℤ c.x ≡ v +ℤ c.x → u ≡ v
      back {u} {v} e = same (# v) (omega (arith, eq_parts e, sum_parts u c.x, sum_parts v c.x)) (omega arith)

  row_times : {B : Cells} (n : ℕ) → DiagonalRow d B → DiagonalRow d (DilatedTimes n B B)
  row_times zero r = r
  row_times (suc n) r = row_sum (row_times n r) r

opposed_times : {A B : Cells} (n : ℕ) → OpposedRows A B → OpposedRows A (DilatedTimes n B B)
opposed_times n (inl r) = inl (r.0, row_times adds3 n r.1)
opposed_times n (inr r) = inr (r.0, row_times adds1 n r.1)

-- ---- the element dilated by itself

-- is an octagon, as no octagon is opposed to itself
own_times : (f b : Octagon) (n : ℕ) → Form f b → In (sums b (multiples n b)) ≐ DilatedTimes n (In f) (In f)
own_times f b n k =
    same_trans (multiples_dilate n b b k.normal k.normal (λ _. (alone, alone))) (dilated_times_same n k.cells k.cells)
  where
    alone : Opposed b b → ⊥
    alone o = omega arith

-- so from the first fold on no octagon has just the cells of the n-fold dilation of opposed rows
pub opposed_times_no_octagon : (p f : Octagon) (n : ℕ) → 1 ≤ n → OpposedRows (In p) (In f) → NoOctagon (DilatedTimes n (In p) (In f))
opposed_times_no_octagon p f zero l r s e = absurd (omega arith)
opposed_times_no_octagon p f (suc n) l r s e =
    let k = form_of f (opposed_some r).1 in
    let b = normal_form f in
    let c = own_times f b n k in
    let same_sum = same_trans (dilated_times_once n (In p) (In f)) (dilated_same (same_refl (In p)) (same_sym c)) in
    opposed_no_octagon p (sums b (multiples n b)) (opposed_same (same_refl (In p)) (same_sym c) (opposed_times n r)) s (same_trans e same_sum)
