-- What the answer of `normalise` means in sets, said whole for any eight bounds: `normalising`. NormalForms.antt takes it apart
-- in the words of document 01. Assumes nothing.
use mathlib.Core.Path.{◌≡◌, refl, sym, ◌∙◌}
use mathlib.Core.Bool.{true}
use native.Mathlib.Omega.{arith}
use lib.IntN.{ℤ, pos, ◌+ℤ◌}
use mir.Syntax.{w32}
use Rattle.integers.proofs.Parts.{up, dn, sum_parts}
use Rattle.integers.proofs.Linear.{#, ◌⊕◌, lit, ◌≼◌}
use Rattle.integers.proofs.Tests.{cases, both_true, test_le, le_test, and_true, true_is_not_false}
use Rattle.octagon.specs.Octagon.{Octagon}
use Rattle.octagon.specs.Outcome.{Outcome, accepted, refused, no_cell, off_map}
use Rattle.octagon.specs.Cells.{◌≐◌, Empty, Some, In, LeavesMap}
use Rattle.octagon.specs.NormalForm.{meet, has_cell, is_on_map, placed, normal_form, normalised}
use Rattle.octagon.specs.Widths.{Held}
use Rattle.octagon.proofs.Within.{Within, Normal, Near, within, cell_in}
use Rattle.octagon.proofs.Tight.{form_in, form_out}
use Rattle.octagon.proofs.Closing.{Meeting, form_normal}
use Rattle.octagon.proofs.Map.{test_near, far_cell, near_held}

-- ---- the test for a cell

meet_test : (a b : ℤ) → lit 0 ≼ # a ⊕ # b → meet a b ≡ true
unfolding up dn
meet_test a b h = le_test (pos 0) (a +ℤ b) (omega (arith, sum_parts a b))

meet_told : (a b : ℤ) → meet a b ≡ true → lit 0 ≼ # a ⊕ # b
unfolding up dn
meet_told a b h = let l = test_le (pos 0) (a +ℤ b) h in omega (arith, sum_parts a b)

-- opposite bounds with a cell between them meet
cell_test : (n : Octagon) (x y : ℤ) → Within n x y → has_cell n ≡ true
unfolding has_cell
cell_test n x y i =
    and_true (and_true (and_true
    (meet_test n.c0 n.c4 (omega arith))
    (meet_test n.c1 n.c5 (omega arith)))
    (meet_test n.c2 n.c6 (omega arith)))
    (meet_test n.c3 n.c7 (omega arith))

test_meet : (n : Octagon) → has_cell n ≡ true → Meeting n
unfolding has_cell
test_meet n h =
    let p3 = both_true _ (meet n.c3 n.c7) h in
    let p2 = both_true _ (meet n.c2 n.c6) p3.0 in
    let p1 = both_true (meet n.c0 n.c4) (meet n.c1 n.c5) p2.0 in
    record {
      m0 = meet_told n.c0 n.c4 p1.0;
      m1 = meet_told n.c1 n.c5 p1.1;
      m2 = meet_told n.c2 n.c6 p2.1;
      m3 = meet_told n.c3 n.c7 p3.1;
    }

-- a normal form whose opposite bounds meet has sides of nought or more
pub test_normal : (c : Octagon) → has_cell (normal_form c) ≡ true → Normal (normal_form c)
test_normal c h = form_normal c (test_meet (normal_form c) h)

pub form_held : (c : Octagon) → has_cell (normal_form c) ≡ true → is_on_map (normal_form c) ≡ true → Held w32 (normal_form c)
form_held c h m = near_held (normal_form c) (test_normal c h) (test_near (normal_form c) m)

-- ---- the answer, whole

-- bounds that hold a cell, on the map or off it: their normal form has sides of nought or more
pub some_normal : (c : Octagon) → Some (In c) → Normal (normal_form c)
some_normal c s = test_normal c (cell_test (normal_form c) s.x s.y (form_in c s.x s.y (within s.cell)))

pub form_cells : (c : Octagon) → In (normal_form c) ≐ In c
form_cells c x y = (λ i. cell_in (form_out c x y (within i)), λ i. cell_in (form_in c x y (within i)))

-- each answer, with what it says of the bounds c
pub data Normalising (c : Octagon) : Outcome Octagon → Type 0 where
  is_normal : (a : Octagon) → a ≡ normal_form c → Normal a → Near a → In a ≐ In c → Normalising c (accepted a)
  is_empty : Empty (In c) → Normalising c (refused no_cell)
  is_off : Normal (normal_form c) → LeavesMap (In c) → Normalising c (refused off_map)

pub normalising : (c : Octagon) → Normalising c (normalised c)
unfolding normalised placed
normalising c =
    cases (has_cell (normal_form c))
    (λ h. cases (is_on_map (normal_form c))
    (λ m. rw (h, m) (is_normal (normal_form c) refl (test_normal c h) (test_near (normal_form c) m) (form_cells c)))
    (λ m. rw (h, m) (is_off (test_normal c h) (leaves (far_cell (normal_form c) (test_normal c h) m)))))
    (λ h. rw h (is_empty (λ x y i. true_is_not_false (sym (cell_test (normal_form c) x y (form_in c x y (within i))) ∙ h))))
  where
    leaves : LeavesMap (In (normal_form c)) → LeavesMap (In c)
    leaves f = record { x = f.x; y = f.y; cell = ((form_cells c f.x f.y).0 f.cell.0, f.cell.1) }
