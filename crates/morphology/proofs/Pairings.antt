-- Pairings of any octagons, however slack their bounds: opposed diagonal rows, whose dilation is no octagon, and all others, whose
-- dilation is the octagon of the sums. In either case the sums are the smallest octagon that holds it. Assumes nothing.
use mathlib.Core.Path.{◌≡◌, sym, ◌∙◌}
use mathlib.Core.Logic.{◌↔◌, inl, inr}
use mathlib.Core.Bool.{true}
use lib.IntN.{ℤ}
use Rattle.integers.proofs.Tests.{cases, true_is_not_false}
use Rattle.octagon.specs.Octagon.{Octagon}
use Rattle.octagon.specs.Cells.{Cells, ◌≐◌, Some, In, Normalised, Smallest}
use Rattle.octagon.specs.NormalForm.{normal_form}
use Rattle.octagon.proofs.Vertices.{normal_normalised}
use Rattle.morphology.specs.Sets.{Dilated, Two, DiagonalRow, OpposedRows}
use Rattle.morphology.specs.Operations.{sums, are_opposed}
use Rattle.morphology.specs.Cases.{NoOctagon}
use Rattle.morphology.proofs.Sums.{summed, summed_normal, sums_exact}
use Rattle.morphology.proofs.DiagonalRows.{opposed_rows_test, not_opposed, not_opposed'}
use Rattle.morphology.proofs.Holes.{no_octagon}
use Rattle.morphology.proofs.SetLaws.{same_sym, same_trans, same_some, dilated_same}
use Rattle.morphology.proofs.Fillings.{sums_smallest}
use Rattle.morphology.proofs.Operands.{Form, form_of, form_smallest}

two_same : {A B : Cells} → A ≐ B → Two A → Two B
unfolding same_some
two_same e t = record { one = same_some e t.one; other = same_some e t.other; apart = t.apart }

row_same : {d : ℤ → ℤ → ℤ} {A B : Cells} → A ≐ B → DiagonalRow d A → DiagonalRow d B
row_same e r = record { line = r.line; on_line = λ x y i. r.on_line x y ((e x y).1 i); two = two_same e r.two }

pub opposed_same : {A B C D : Cells} → A ≐ C → B ≐ D → OpposedRows A B → OpposedRows C D
opposed_same e f (inl r) = inl (row_same e r.0, row_same f r.1)
opposed_same e f (inr r) = inr (row_same e r.0, row_same f r.1)

pub opposed_some : {A B : Cells} → OpposedRows A B → Some A × Some B
opposed_some (inl r) = (r.0.two.one, r.1.two.one)
opposed_some (inr r) = (r.0.two.one, r.1.two.one)

-- the test on normal forms is true exactly where the bounds that they were made of hold opposed rows
pub rows_test : (p f a b : Octagon) → Form p a → Form f b → (are_opposed a b ≡ true) ↔ OpposedRows (In p) (In f)
rows_test p f a b h k =
    let t = opposed_rows_test a b (normal_normalised a h.normal) (normal_normalised b k.normal) in
    (λ e. opposed_same h.cells k.cells (t.0 e), λ r. t.1 (opposed_same (same_sym h.cells) (same_sym k.cells) r))

-- ---- any octagons that hold a cell, on the map or off it

-- "In all other pairings the spread is the octagon whose normalised bounds are the sums."
pub sums_are_dilation : (p f : Octagon) → Some (In p) → Some (In f) → ¬ (OpposedRows (In p) (In f)) →
    (In (sums (normal_form p) (normal_form f)) ≐ Dilated (In p) (In f)) × Normalised (sums (normal_form p) (normal_form f))
sums_are_dilation p f s t o =
    let a = normal_form p in
    let b = normal_form f in
    let h = form_of p s in
    let k = form_of f t in
    let u = cases (are_opposed a b) (λ e. absurd (o ((rows_test p f a b h k).0 e))) (λ e. e) in (
      same_trans (sums_exact a b h.normal k.normal (not_opposed a b u) (not_opposed' a b u)) (dilated_same h.cells k.cells),
      normal_normalised (sums a b) (summed_normal a b (sums a b) (summed a b) h.normal k.normal),
    )

-- "Spreading one by the other leaves holes, so no octagon is the true answer."
pub opposed_no_octagon : (p f : Octagon) → OpposedRows (In p) (In f) → NoOctagon (Dilated (In p) (In f))
opposed_no_octagon p f r s e =
    let t = opposed_some r in
    let h = form_of p t.0 in
    let k = form_of f t.1 in
    no_octagon (normal_form p) (normal_form f) s h.normal k.normal (opposed_same (same_sym h.cells) (same_sym k.cells) r)
    (same_trans e (dilated_same (same_sym h.cells) (same_sym k.cells)))

-- and these are all the pairings that no octagon is the true answer of
pub opposed_exactly : (p f : Octagon) → Some (In p) → Some (In f) → OpposedRows (In p) (In f) ↔ NoOctagon (Dilated (In p) (In f))
opposed_exactly p f s t =
    let a = normal_form p in
    let b = normal_form f in
    let r = rows_test p f a b (form_of p s) (form_of f t) in (
      opposed_no_octagon p f,
      λ n. cases (are_opposed a b) (λ e. r.0 e) (λ e. absurd (n (sums a b) (sums_are_dilation p f s t (λ o. true_is_not_false (sym (r.1 o) ∙ e))).0)),
    )

-- "A spread of opposed diagonal rows shall now give the smallest octagon that holds all the sums": the sums of any two are that
pub sums_are_smallest : (p f : Octagon) → Some (In p) → Some (In f) → Smallest (sums (normal_form p) (normal_form f)) (Dilated (In p) (In f))
sums_are_smallest p f s t = sums_smallest (form_smallest (form_of p s)) (form_smallest (form_of f t))
