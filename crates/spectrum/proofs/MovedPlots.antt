-- A spectrum measures the plot, not where it lies: a plot moved on the map has the same spectrum. Assumes nothing.
use mathlib.Core.Path.{◌≡◌, refl, sym, ◌∙◌, ap}
use mathlib.Core.List.{List}
use Prim.Native.Nat.{ℕ, ◌<◌}
use borrow.Author.Tests.{ltb-true, ltb-false}
use lib.Dec.{ltb}
use lib.IntN.{ℤ, pos}
use lib.ListN.{length}
use Rattle.integers.proofs.Tests.{cases}
use Rattle.octagon.specs.Octagon.{Octagon}
use Rattle.octagon.specs.Outcome.{Outcome, accepted, refused, then}
use Rattle.octagon.specs.Cells.{Cells, ◌≐◌, In, LeavesMap}
use Rattle.octagon.specs.OneCell.{one_cell}
use Rattle.octagon.specs.NormalForm.{normalised}
use Rattle.octagon.proofs.Outcomes.{accepted_same}
use Rattle.octagon.proofs.Smallest.{smallest_same, within_or_leaving, smallest_accepted}
use Rattle.octagon.proofs.Normalising.{Normalising, is_normal, is_empty, is_off, normalising}
use Rattle.octagon.proofs.NormalForms.{refused_no_cell}
use Rattle.cell_count.specs.Area.{area, cell_count}
use Rattle.cell_count.proofs.Counted.{own_count}
use Rattle.morphology.specs.Operations.{sums}
use Rattle.morphology.specs.Folds.{fold_limit, too_many_folds}
use Rattle.morphology.specs.Cases.{fails, Covers}
use Rattle.morphology.proofs.SetLaws.{same_sym, same_empty}
use Rattle.morphology.proofs.Handed.{own_form}
use Rattle.morphology.proofs.Openings.{opened_n_exactly, opened_n_accepted}
use Rattle.spectrum.specs.Walks.{walk}
use Rattle.spectrum.specs.Spectra.{frame_form, open_cells, spectrum, after_spectrum}
use Rattle.spectrum.specs.Cases.{Moved, Opens, some_open, none_open}
use Rattle.spectrum.proofs.Walks.{walk_same}
use Rattle.spectrum.proofs.Moves.{moved_empty, eroded_moved, opened_moved, smallest_moved, area_moved}
use Rattle.spectrum.proofs.Origins.{leaves_some, leaves_none, opens}
use Rattle.spectrum.proofs.Frames.{frame_of}

-- ---- openings

-- the cells of an octagon that covers a set are its area
covers_area : {A : Cells} {a : Octagon} {k : ℕ} → Covers a A → cell_count a ≡ accepted k → area a ≡ k
covers_area {a = a} c q = accepted_same (sym (own_count a (own_form c)) ∙ q)

module _ (p f : Octagon) (n : ℕ) where
  -- more folds than any call takes open no cell
  too_many : fold_limit < n → open_cells p f n ≡ 0
  unfolding open_cells
  too_many l = rw ((opened_n_exactly p f n (refused too_many_folds)).1 (fails l)) refl

-- q is p moved
module _ (p q f : Octagon) (u v : ℤ) (m : In q ≐ Moved u v (In p)) where
  -- as many cells of the one are open as of the other
  alike : (n : ℕ) {j k : ℕ} → Opens q f n j → Opens p f n k → j ≡ k
  alike n (some_open w j r c _) (some_open z k s d _) =
      let x = (opened_n_accepted q f n w r).covers in
      let y = (opened_n_accepted p f n z s).covers in
      sym (covers_area x c) ∙ area_moved u v _ (opened_moved u v (In p) (In f) m n) y.smallest x.smallest ∙ covers_area y d
  alike n (some_open w j r c _) (none_open s) =
      absurd (leaves_some q f n w r (same_empty (same_sym (eroded_moved u v (In p) (In f) m n)) ((moved_empty u v _).1 (leaves_none p f n s))))
  alike n (none_open r) (some_open z k s d _) =
      absurd (leaves_some p f n z s ((moved_empty u v _).0 (same_empty (eroded_moved u v (In p) (In f) m n) (leaves_none q f n r))))
  alike n (none_open r) (none_open s) = refl

  open_alike : (a b c : Octagon) → normalised p ≡ accepted a → normalised q ≡ accepted c → normalised f ≡ accepted b → In f (pos 0) (pos 0) →
      (n : ℕ) → open_cells q f n ≡ open_cells p f n
  open_alike a b c h k l o n =
      cases (ltb fold_limit n)
      (λ t. let g = ltb-true fold_limit n t in too_many q f n g ∙ sym (too_many p f n g))
      (λ t. let g = ltb-false fold_limit n t in alike n (opens q f c b n k l o g) (opens p f a b n h l o g))

-- ---- spectra

-- both plots are accepted: one answer, whatever the frame
walks_alike : (p q f a c : Octagon) (u v : ℤ) (places : ℕ) → In q ≐ Moved u v (In p) → normalised p ≡ accepted a → normalised q ≡ accepted c →
    spectrum q f places ≡ spectrum p f places
unfolding spectrum
walks_alike p q f a c u v places m h k = rw (h, k) (go (frame_form f) refl)
  where
    go : (o : Outcome Octagon) → frame_form f ≡ o →
        then o (λ b. accepted (walk (open_cells q f) places 0 (area c))) ≡ then o (λ b. accepted (walk (open_cells p f) places 0 (area a)))
    go (accepted b) e =
        let t = frame_of f b e in
        let s = area_moved u v (In p) m ((smallest_accepted p a).0 h).0 ((smallest_accepted q c).0 k).0 in
        let o = open_alike p q f u v m a b c h k t.normal t.holds_origin in
        ap accepted (walk_same (open_cells q f) (open_cells p f) o places 0 (area c) ∙ ap (walk (open_cells p f) places 0) s)
    go (refused j) e = refl

-- the same answer: the same entries, trims and end, or the same refusal
pub moved_spectrum : (p q f : Octagon) (u v : ℤ) (places : ℕ) → In q ≐ Moved u v (In p) → ¬ (LeavesMap (In p)) → ¬ (LeavesMap (In q)) →
    spectrum q f places ≡ spectrum p f places
unfolding spectrum
moved_spectrum p q f u v places m n o = go (normalising p) refl
  where
    go : {r : Outcome Octagon} → Normalising p r → normalised p ≡ r → spectrum q f places ≡ spectrum p f places
    go (is_normal a _ _ _ _) e =
        let c = sums a (one_cell u v) in
        let s = smallest_same (same_sym m) (smallest_moved u v ((smallest_accepted p a).0 e).0) in
        walks_alike p q f a c u v places m e ((smallest_accepted q c).1 (s, within_or_leaving s (λ h. h) (λ l. absurd (o l))))
    go (is_empty h) e = rw (e, (refused_no_cell q).1 (same_empty (same_sym m) ((moved_empty u v (In p)).1 h))) refl
    go (is_off _ l) e = absurd (n l)

-- and the list is left the same
pub moved_list : (p q f : Octagon) (u v : ℤ) (l : List ℕ) → In q ≐ Moved u v (In p) → ¬ (LeavesMap (In p)) → ¬ (LeavesMap (In q)) →
    after_spectrum q f l ≡ after_spectrum p f l
unfolding after_spectrum
moved_list p q f u v l m n o = rw (moved_spectrum p q f u v (length l) m n o) refl
