-- Bigger tool, less ground (document 02's U8), about the answers of `opening` and `erode`: a plot opened by one element spread with another
-- lies inside the plot opened by the first, and where a trim by the first leaves nothing, so does a trim by both. The spread may be exact or
-- filled, and so may the openings: it is octagons that are compared, not sets. So what both open has no more cells, by `count_cells`.
-- Assumes nothing.
use mathlib.Core.Path.{◌≡◌, sym, ◌∙◌}
use Prim.Native.Nat.{ℕ, ◌≤◌}
use Rattle.octagon.specs.Octagon.{Octagon}
use Rattle.octagon.specs.Outcome.{accepted, refused}
use Rattle.octagon.specs.Cells.{◌⊆◌, Empty, In, Smallest, limit}
use Rattle.octagon.proofs.Outcomes.{accepted_not_refused, Through, then_accepted}
use Rattle.cell_count.specs.Count.{count, inside}
use Rattle.cell_count.specs.Area.{cell_count}
use Rattle.cell_count.proofs.Counted.{count_subset}
use Rattle.morphology.specs.Sets.{Dilated, Eroded}
use Rattle.morphology.specs.Marks.{Marked}
use Rattle.morphology.specs.Operations.{nothing_left, dilation, erosion, opened}
use Rattle.morphology.specs.Premises.{Allowed, opening_by_both}
use Rattle.morphology.specs.Cases.{fails, passes}
use Rattle.morphology.proofs.SetLaws.{same_sym, same_trans, same_empty, some_there, eroded_twice, eroded_empty}
use Rattle.morphology.proofs.OpenedSets.{opened_by_dilated}
use Rattle.morphology.proofs.Fillings.{eroded_by_smallest, opened_by_smallest}
use Rattle.morphology.proofs.Checks.{passing, other, after, operand_passes}
use Rattle.morphology.proofs.Handed.{not_empty, covers_some, covers_counted, represents_covers, spreads_accepted}
use Rattle.morphology.proofs.Dilations.{dilation_exactly, dilation_accepted, dilation_turned}
use Rattle.morphology.proofs.Erosions.{erosion_exactly, erosion_accepted, erosion_nothing}
use Rattle.morphology.proofs.Openings.{opening, opening_exactly, opening_accepted, opening_steps}

-- ---- the smallest octagon that holds the sums of two

module _ (p f g d : Octagon) (s : Smallest d (Dilated (In f) (In g))) where
  opens_less : (m w : Marked) → opened p f ≡ accepted m → opened p d ≡ accepted w → In w.octagon ⊆ In m.octagon
  opens_less m w q r =
      let left = opening_steps p d w r in
      let t = (represents_covers (erosion_accepted p d left.between left.first)).smallest in
      let u = opened_by_smallest p s t (opening_accepted p d w r).covers.smallest in
      u.least m.octagon (λ x y i. (opening_accepted p f m q).covers.smallest.holds x y (opened_by_dilated (In p) (In f) (In g) x y i))

  -- where the first does not fit, neither do both
  fits_nowhere : Empty (Eroded (In p) (In f)) → Empty (Eroded (In p) (In d))
  fits_nowhere h =
      let c = s.reached.reached0.cell.0 in
      same_empty (same_sym (same_trans (eroded_by_smallest p s) (same_sym (eroded_twice (In p) (In f) (In g)))))
      (eroded_empty h (λ n. n c.bx c.by c.of_b))

-- ---- the calls

module _ (p f g : Octagon) (d : Marked) (q : dilation f g ≡ accepted d) where
  -- of three accepted calls: the octagons handed back
  pub larger_opens_less : (m w : Marked) → opened p f ≡ accepted m → opened p d.octagon ≡ accepted w → In w.octagon ⊆ In m.octagon
  larger_opens_less = opens_less p f g d.octagon (dilation_accepted f g d q).covers.smallest

  -- where the trim by F leaves nothing, so does the trim by both
  pub closed_to_larger : erosion p f ≡ refused nothing_left → erosion p d.octagon ≡ refused nothing_left
  closed_to_larger r =
      let c = (dilation_accepted f g d q).covers in
      (erosion_exactly p d.octagon (refused nothing_left)).1
      (after (after (λ _.
      passes (some_there (covers_some c))
      (passes (λ l. l.cell.1 (c.on_the_map l.x l.y l.cell.0))
      (fails (fits_nowhere p f g d.octagon c.smallest (erosion_nothing p f r))))))
      ((erosion_exactly p f (refused nothing_left)).0 r))

  module _ (w : Marked) (r : opened p d.octagon ≡ accepted w) where
    left : Through (erosion p d.octagon) (λ e. dilation e d.octagon) w
    left = opening_steps p d.octagon w r

    -- so nothing that both open is closed to F
    pub open_to_smaller : ¬ (erosion p f ≡ refused nothing_left)
    open_to_smaller t = accepted_not_refused (sym left.first ∙ closed_to_larger t)

    -- and the opening by F is accepted, but where it is refused as off the map
    pub smaller_opens : Allowed (opened p f) → (m : Marked) × (opened p f ≡ accepted m) × (In w.octagon ⊆ In m.octagon)
    smaller_opens a =
        let s = (dilation_accepted f g d q).covers.smallest in
        let fits : ¬ (Empty (Eroded (In p) (In f))) =
        λ h. not_empty (erosion_accepted p d.octagon left.between left.first) (fits_nowhere p f g d.octagon s h) in
        let m =
        spreads_accepted (other a (passing fits
        (operand_passes ((dilation_exactly f g (accepted d)).0 q) (operand_passes ((opening_exactly p d.octagon (accepted w)).0 r) (opening p f))))) in
        (m.0, m.1, larger_opens_less m.0 w m.1 r)

-- "a plot opened by F spread with G lies inside the plot opened by F": the same with a word for the two calls
pub both_open_less : (p f g : Octagon) (m w : Marked) → opened p f ≡ accepted m → opening_by_both p f g ≡ accepted w → In w.octagon ⊆ In m.octagon
both_open_less p f g m w q r =
    let t = then_accepted (dilation f g) (λ d. opened p d.octagon) w r in
    larger_opens_less p f g t.between t.first m w q t.second

-- and so for G, which may be put first
pub larger_opens_less' : (p f g : Octagon) (d m w : Marked) → dilation f g ≡ accepted d → opened p g ≡ accepted m → opened p d.octagon ≡ accepted w →
    In w.octagon ⊆ In m.octagon
larger_opens_less' p f g d m w q = larger_opens_less p g f d (dilation_turned f g d q) m w

pub open_to_smaller' : (p f g : Octagon) (d w : Marked) → dilation f g ≡ accepted d → opened p d.octagon ≡ accepted w → ¬ (erosion p g ≡ refused nothing_left)
open_to_smaller' p f g d w q = open_to_smaller p g f d (dilation_turned f g d q) w

-- ---- the cells

-- what an opening hands back is counted
pub opened_counted : (p f : Octagon) (m : Marked) → opened p f ≡ accepted m → cell_count m.octagon ≡ accepted (count limit (inside m.octagon))
opened_counted p f m q = covers_counted (opening_accepted p f m q).covers

-- so the plot opened by F spread with G has no more cells than the plot opened by F
pub larger_counts_less : (p f g : Octagon) (d m w : Marked) (j k : ℕ) → dilation f g ≡ accepted d → opened p f ≡ accepted m → opened p d.octagon ≡ accepted w →
    cell_count w.octagon ≡ accepted j → cell_count m.octagon ≡ accepted k → j ≤ k
larger_counts_less p f g d m w j k q r s t u = count_subset w.octagon m.octagon j k t u (larger_opens_less p f g d q m w r s)
