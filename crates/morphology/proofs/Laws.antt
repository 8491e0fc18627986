-- The laws of demand 3, about the answers of `dilate`, `erode` and `opening`, with the demand's own words above each.
-- The premises are that the operands hold a cell and that no call which a law names is refused as off the map (specs/Premises.antt);
-- where a law says that a call is accepted, they are asked of the calls before it alone. A dilation may be exact or filled. Assumes nothing.
use mathlib.Core.Path.{◌≡◌, refl, sym, ◌∙◌}
use mathlib.Core.Logic.{◌↔◌, ◌⊎◌, inl, inr}
use native.Mathlib.Omega.{arith}
use Rattle.octagon.specs.Octagon.{Octagon}
use Rattle.octagon.specs.Outcome.{Outcome, accepted, refused, then}
use Rattle.octagon.specs.Cells.{◌⊆◌, Some, In}
use Rattle.octagon.specs.NormalForm.{normalised}
use Rattle.octagon.proofs.Outcomes.{accepted_same}
use Rattle.morphology.specs.Sets.{Dilated, Eroded}
use Rattle.morphology.specs.Marks.{Marked}
use Rattle.morphology.specs.Operations.{nothing_left, dilation, erosion, opened}
use Rattle.morphology.specs.Premises.{Allowed, erosions, AllowedTwice, erosion_by_both, AllowedByBoth, LiesIn, Returned}
use Rattle.morphology.specs.Cases.{fails, passes, stands}
use Rattle.morphology.proofs.Handed.{own_form, covers_some, represents_covers}
use Rattle.morphology.proofs.Decided.{accepted_allowed, nothing_allowed, Decided, decided_same, decided_by, erosion_decided, dilation_allowed}
use Rattle.morphology.proofs.SetLaws.{same_refl, same_trans, some_there, eroded_same, eroded_twice, eroded_swap, eroded_empty, adjunction}
use Rattle.morphology.proofs.Fillings.{eroded_by_smallest}
use Rattle.morphology.proofs.FewFolds.{dilation_one, erosion_one, erosions_one}
use Rattle.morphology.proofs.Dilations.{dilation_accepted, accepted_sum}
use Rattle.morphology.proofs.Erosions.{erosion_accepted, erosion_nothing}
use Rattle.morphology.proofs.OpenedSets.{opened_inside}
use Rattle.morphology.proofs.Openings.{opening_steps, opening_accepted}
use Rattle.morphology.proofs.Closings.{erosion_of_dilation}
use Rattle.morphology.proofs.FoldedErosions.{erosions_n_commute}

-- ---- eroding twice, and once

-- the answer of two erosions is decided by the set eroded twice
erosions_decided : (p f g : Octagon) → Some (In p) → Some (In f) → Some (In g) → AllowedTwice p f g →
    Decided (Eroded (Eroded (In p) (In f)) (In g)) (erosions p f g)
erosions_decided p f g s t u a = go (erosion_decided p f s t a.first) refl
  where
    go : {o : Outcome Octagon} → Decided (Eroded (In p) (In f)) o → erosion p f ≡ o →
        Decided (Eroded (Eroded (In p) (In f)) (In g)) (then o (λ e. erosion e g))
    go (passes _ (stands {a = e} r)) q =
        decided_by (eroded_same r.cells (same_refl (In g))) (erosion_decided e g r.is_normalised.some u (a.second e q))
    go (fails h) q = fails (eroded_empty h (some_there u))

-- the answer of eroding by both is decided by the set eroded by the dilation
by_both_decided : (p f g : Octagon) → Some (In p) → Some (In f) → Some (In g) → AllowedByBoth p f g →
    Decided (Eroded (In p) (Dilated (In f) (In g))) (erosion_by_both p f g)
by_both_decided p f g s t u a =
    let r = dilation_allowed f g t u a.first in
    let c = (dilation_accepted f g r.0 r.1).covers in
    rw r.1
    (decided_by (eroded_by_smallest p c.smallest) (erosion_decided p r.0.octagon s (covers_some c) (a.second r.0 r.1)))

-- "Trimming by one frame and then another gives the same answer in either order, .. nothing left included."
pub erosions_commute : (p f g : Octagon) → Some (In p) → Some (In f) → Some (In g) → AllowedTwice p f g → AllowedTwice p g f →
    erosions p f g ≡ erosions p g f
erosions_commute p f g s t u a b =
    sym (erosions_one p f g)
    ∙ erosions_n_commute p f 1 g 1 s t u (omega arith) (omega arith) (rw (erosion_one p f) a.first) (rw (erosion_one p g) b.first)
    ∙ erosions_one p g f

-- ".. and the same as one trim by the two frames spread together, whichever is put first, nothing left included."
pub erosions_by_both : (p f g : Octagon) → Some (In p) → Some (In f) → Some (In g) → AllowedTwice p f g → AllowedByBoth p f g →
    erosions p f g ≡ erosion_by_both p f g
erosions_by_both p f g s t u a b =
    decided_same (eroded_twice (In p) (In f) (In g)) (erosions_decided p f g s t u a) (by_both_decided p f g s t u b)

pub erosions_by_both' : (p f g : Octagon) → Some (In p) → Some (In f) → Some (In g) → AllowedTwice p f g → AllowedByBoth p g f →
    erosions p f g ≡ erosion_by_both p g f
erosions_by_both' p f g s t u a b =
    decided_same (same_trans (eroded_swap (In p) (In f) (In g)) (eroded_twice (In p) (In g) (In f)))
    (erosions_decided p f g s t u a) (by_both_decided p g f s u t b)

-- ---- what lies in a plot

-- "An octagon spread by a frame lies in the plot exactly when the octagon lies in the trimmed plot; where nothing is left, none does."
-- "Containment in an octagon reads the same for filled spreads."
pub lies_in : (x f p : Octagon) → Some (In x) → Some (In f) → Some (In p) → Allowed (dilation x f) → Allowed (erosion p f) → LiesIn x f p
lies_in x f p s t u a b =
    let r = dilation_allowed x f s t a in
    let c = (dilation_accepted x f r.0 r.1).covers.smallest in
    let to : In r.0.octagon ⊆ In p → In x ⊆ Eroded (In p) (In f) =
    λ h. (adjunction (In x) (In p) (In f)).0 (λ v w i. h v w (c.holds v w i)) in
    let from : In x ⊆ Eroded (In p) (In f) → In r.0.octagon ⊆ In p =
    λ h. c.least p ((adjunction (In x) (In p) (In f)).1 h) in
    record {
      spread = r.0;
      spread_accepted = r.1;
      trimmed_or_nothing = either (erosion_decided p f u t b) refl;
      exactly = λ e q. let i = (erosion_accepted p f e q).cells in (λ h v w j. (i v w).1 (to h v w j), λ h. from (λ v w j. (i v w).0 (h v w j)));
      none = λ q h. erosion_nothing p f q s.x s.y (to h s.x s.y s.cell);
    }
  where
    either : {o : Outcome Octagon} → Decided (Eroded (In p) (In f)) o → erosion p f ≡ o → ((e : Octagon) × (erosion p f ≡ accepted e)) ⊎ (erosion p f ≡ refused nothing_left)
    either (passes _ (stands {a = e} r)) q = inl (e, q)
    either (fails h) q = inr q

-- ---- spreading and trimming by one frame

-- "Spreading and then trimming by one frame is accepted and returns exactly the plot's cells": the plot's normal form
pub returns_plot : (p f : Octagon) → Some (In p) → Some (In f) → Allowed (dilation p f) → Returned p f
returns_plot p f s t a =
    let r = dilation_allowed p f s t a in
    let m = accepted_sum p f 1 r.0 (dilation_one p f ∙ r.1) in
    record {
      spread = r.0;
      spread_accepted = r.1;
      plot = m.a;
      plot_normalised = m.operands.of_p;
      returned = erosion_of_dilation p f r.0 r.1 ∙ m.operands.of_p;
    }

-- ---- the laws' words at calls that are accepted

-- "Containment in an octagon reads the same for filled spreads."
pub contained : (x f p : Octagon) → Some (In x) → Some (In f) → Some (In p) → (d : Marked) (e : Octagon) → dilation x f ≡ accepted d → erosion p f ≡ accepted e →
    (In d.octagon ⊆ In p) ↔ (In x ⊆ In e)
contained x f p s t u d e q r =
    let l = lies_in x f p s t u (accepted_allowed q) (accepted_allowed r) in
    rw (accepted_same (sym q ∙ l.spread_accepted)) (l.exactly e r)

pub contained_nowhere : (x f p : Octagon) → Some (In x) → Some (In f) → Some (In p) → (d : Marked) → dilation x f ≡ accepted d → erosion p f ≡ refused nothing_left →
    ¬ (In d.octagon ⊆ In p)
contained_nowhere x f p s t u d q r =
    let l = lies_in x f p s t u (accepted_allowed q) (nothing_allowed r) in
    rw (accepted_same (sym q ∙ l.spread_accepted)) (l.none r)

-- the plot that is returned is its normal form
pub returned_form : (p f : Octagon) → Some (In p) → Some (In f) → (d : Marked) → dilation p f ≡ accepted d → erosion d.octagon f ≡ normalised p
returned_form p f s t d q =
    let r = returns_plot p f s t (accepted_allowed q) in
    rw (accepted_same (sym q ∙ r.spread_accepted)) (r.returned ∙ sym r.plot_normalised)

-- ---- opening

-- "An accepted opening never leaves the plot, .."
pub opening_inside : (p f : Octagon) (m : Marked) → opened p f ≡ accepted m → In m.octagon ⊆ In p
opening_inside p f m q = (opening_accepted p f m q).covers.smallest.least p (opened_inside (In p) (In f))

-- ".. and opening it again by the same frame is accepted and gives the same octagon", with the same mark
pub opening_again : (p f : Octagon) (m : Marked) → opened p f ≡ accepted m → opened m.octagon f ≡ accepted m
unfolding opened
opening_again p f m q =
    let s = opening_steps p f m q in
    let e = s.between in
    rw (erosion_of_dilation e f m s.second, own_form (represents_covers (erosion_accepted p f e s.first))) s.second
