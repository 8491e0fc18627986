-- The two tests of the frame, in sets: it has the cell (0, 0), and it has no other. Assumes nothing.
use mathlib.Core.Path.{◌≡◌, refl, sym, ◌∙◌}
use mathlib.Core.Logic.{◌↔◌}
use mathlib.Core.Bool.{true, false}
use Prim.Native.Nat.{◌≤◌}
use native.Mathlib.Omega.{arith}
use borrow.Author.Tests.{eqb-true, eq-eqb}
use lib.IntN.{ℤ, pos}
use Rattle.integers.specs.Minimum.{min_ℤ, half_ℤ}
use Rattle.integers.proofs.Parts.{up, dn}
use Rattle.integers.proofs.Tests.{cases, true_is_not_false}
use Rattle.integers.proofs.Linear.{lit, same}
use Rattle.octagon.specs.Octagon.{Octagon}
use Rattle.octagon.specs.Outcome.{accepted}
use Rattle.octagon.specs.Cells.{◌⊆◌, In, limit}
use Rattle.octagon.specs.NormalForm.{even_bound, odd_bound, tight_even, tight_odd, normal_form, has_cell, is_on_map, placed, normalised}
use Rattle.octagon.specs.OneCell.{OneCell, one_cell}
use Rattle.octagon.proofs.Within.{within}
use Rattle.octagon.proofs.Outcomes.{then_accepted, past_test, accepted_same, accepted_not_refused}
use Rattle.octagon.proofs.NormalForms.{accepted_means, normalised_again}
use Rattle.octagon.proofs.OneCell.{one_cell_smallest}
use Rattle.cell_count.specs.Count.{inside, without}
use Rattle.cell_count.specs.Area.{triangle, rectangle, cuts, area, cell_count}
use Rattle.cell_count.proofs.Counts.{count_some}
use Rattle.cell_count.proofs.Inside.{inside_is}
use Rattle.cell_count.proofs.Counted.{own_count, count_equal, count_difference}
use Rattle.spectrum.specs.Spectra.{no_other_cell, has_origin, has_one_cell, frame_tested, frame_form}
use Rattle.spectrum.specs.Cases.{NoOther}

-- the octagon of the cell (0, 0)
abbrev origin : Octagon
origin = one_cell (pos 0) (pos 0)

one_counted : cell_count origin ≡ accepted 1
unfolding cell_count area rectangle cuts triangle normalised normal_form tight_odd tight_even even_bound odd_bound min_ℤ half_ℤ has_cell placed is_on_map
one_counted = refl

origin_only : In origin ⊆ OneCell (pos 0) (pos 0)
unfolding up dn
origin_only x y i = let w = within i in (same (lit 0) (omega arith) refl, same (lit 0) (omega arith) refl)

module _ (f b : Octagon) (of_f : normalised f ≡ accepted b) where
  -- the normal form has the frame's cells
  same_cells : (x y : ℤ) → In b x y ↔ In f x y
  same_cells = (accepted_means f b of_f).cells

  pub origin_test : (has_origin b ≡ true) ↔ In f (pos 0) (pos 0)
  origin_test = (
    λ t. (same_cells (pos 0) (pos 0)).0 ((inside_is b (pos 0) (pos 0)).0 t),
    λ i. (inside_is b (pos 0) (pos 0)).1 ((same_cells (pos 0) (pos 0)).1 i),
  )

  b_counted : cell_count b ≡ accepted (area b)
  b_counted = own_count b (normalised_again f b of_f)

  module _ (o : In f (pos 0) (pos 0)) where
    origin_inside : In origin ⊆ In b
    origin_inside x y i = let h = origin_only x y i in rw (h.0, h.1) ((same_cells (pos 0) (pos 0)).1 o)

    -- a cell that is not (0, 0) is a second one
    second : (x y : ℤ) → In f x y → inside origin x y ≡ false → 2 ≤ area b
    second x y i e =
        let j = (same_cells x y).1 i in
        omega (
          arith,
          count_difference origin b 1 (area b) one_counted b_counted limit (omega arith) origin_inside,
          count_some limit (without (inside b) (inside origin)) x y ((accepted_means f b of_f).on_the_map x y j) (rw ((inside_is b x y).1 j, e) refl),
        )

    pub alone_test : (has_one_cell b ≡ true) ↔ NoOther (In f)
    alone_test = (
      λ t x y i.
          cases (inside origin x y) (λ e. origin_only x y ((inside_is origin x y).0 e)) (λ e. absurd (omega (arith, second x y i e, eqb-true (area b) 1 t))),
      λ h.
          eq-eqb (area b) 1
          (count_equal b origin (area b) 1 b_counted one_counted
          (λ x y. (λ i. let g = h x y ((same_cells x y).0 i) in rw (g.0, g.1) ((one_cell_smallest (pos 0) (pos 0)).holds (pos 0) (pos 0) (refl, refl)), origin_inside x y))),
    )

-- ---- a frame that is accepted

-- it has the cell (0, 0), and another
pub record Frame (f b : Octagon) : Type 0 where
  pub normal : normalised f ≡ accepted b
  pub holds_origin : In f (pos 0) (pos 0)
  pub holds_other : ¬ (NoOther (In f))

pub frame_of : (f b : Octagon) → frame_form f ≡ accepted b → Frame f b
unfolding frame_form
frame_of f b q =
    let t = then_accepted (normalised f) frame_tested b q in
    let c = t.between in
    cases (has_origin c)
    (λ o.
    let i = (origin_test f c t.first).0 o in
    let s = past_test (has_one_cell c) no_other_cell (accepted c) b (rw o at t.second) in
    rw (← accepted_same s.1)
    (record {
      normal = t.first;
      holds_origin = i;
      holds_other = λ h. true_is_not_false (sym ((alone_test f c t.first i).1 h) ∙ s.0);
    }))
    (λ o. absurd (accepted_not_refused (sym (rw o at t.second))))
