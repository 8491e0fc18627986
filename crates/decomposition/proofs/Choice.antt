-- Document 01's rule holds of exactly the counts that are computed, and these have all sides of the outline. Assumes nothing.
use mathlib.Core.Path.{◌≡◌, refl, ◌∙◌, ap}
use mathlib.Core.Logic.{◌↔◌}
use Prim.Native.Nat.{ℕ}
use native.Mathlib.Omega.{arith}
use Rattle.outline.specs.declared.Outline.{Outline}
use Rattle.outline.specs.Closing.{Closes}
use Rattle.outline.specs.Sameness.{SameSides}
use Rattle.decomposition.specs.declared.Counts.{Counts}
use Rattle.decomposition.specs.declared.pairing.Triangles.{Triangles}
use Rattle.decomposition.specs.Rule.{Pair, Chosen, Rule}
use Rattle.decomposition.specs.Pairs.{triangles_in, made, triangles_of, CaseFits, fit_triangles}
use Rattle.decomposition.specs.Splitting.{rest, with_rows, first_counts, with_k13, counts}
use Rattle.decomposition.proofs.Sides.{makes_same, same_makes}
use Rattle.decomposition.proofs.Pairs.{fits_made}
use Rattle.decomposition.proofs.Found.{found}
use Rattle.decomposition.proofs.Rests.{rest_of, some_case, Rows, made_with_rows, of_two_kinds, forced}
use Rattle.decomposition.proofs.LastStep.{last_with_k13, with_k13_made}

-- ---- before the last step

-- counts by their rows and their triangles
rows_equal : (o : Outline) (k : Counts) (t : Triangles) → Rows o k → triangles_in k ≡ t → k ≡ with_rows o t
unfolding with_rows
rows_equal o k t h e i = record {
  k1 = h.r1 i;
  k2 = h.r2 i;
  k3 = h.r3 i;
  k4 = h.r4 i;
  k5 = (e i).k5;
  k6 = (e i).k6;
  k7 = (e i).k7;
  k8 = (e i).k8;
  k9 = (e i).k9;
  k10 = (e i).k10;
  k11 = (e i).k11;
  k12 = (e i).k12;
  k13 = h.r13 i;
}

pub rows : (o : Outline) (k : Counts) → Chosen o k → Rows o k
rows o k f = record { r1 = f.row1; r2 = f.row2; r3 = f.row3; r4 = f.row4; r13 = f.no_k13 }

-- "One choice fits."
unique : (o : Outline) (k : Counts) → Chosen o k → k ≡ first_counts o
unfolding first_counts
unique o k f =
    rows_equal o k (triangles_of (rest o)) (rows o k f)
    (forced o (rest o) k (rest_of o) (rows o k f) (makes_same k o f.all_sides) f.two_kinds)

-- the choice of a case that fits
fit_chosen : (o : Outline) {p q : ℕ} (c : Pair p q) (f : CaseFits c (rest o)) → Chosen o (with_rows o (fit_triangles f))
unfolding with_rows
fit_chosen o c f =
    let k = with_rows o (fit_triangles f) in
    let h : Rows o k = record { r1 = refl; r2 = refl; r3 = refl; r4 = refl; r13 = refl } in
    record {
      row1 = refl;
      row2 = refl;
      row3 = refl;
      row4 = refl;
      no_k13 = refl;
      two_kinds = record { p = _; q = _; pair = c; no_others = of_two_kinds _ _ _ _ c f.count_p f.count_q };
      all_sides = same_makes k o (made_with_rows o (rest o) k (rest_of o) h (fits_made c (rest o) f));
    }

-- what is found meets the rule
chosen : (o : Outline) → Closes o → Chosen o (first_counts o)
unfolding first_counts
chosen o c = let s = some_case o c in rw (found s.case.pair (rest o) s.fit) (fit_chosen o s.case.pair s.fit)

-- ---- and after it

-- for an outline that closes the rule has one answer
pub one_choice : (o : Outline) → Closes o → (k : Counts) → Rule o k ↔ (k ≡ counts o)
unfolding counts
one_choice o c k = (to, from)
  where
    to : Rule o k → k ≡ with_k13 (first_counts o)
    to r = (last_with_k13 r.before k).0 r.last ∙ ap with_k13 (unique o r.before r.chosen)

    from : k ≡ with_k13 (first_counts o) → Rule o k
    from e = record { before = first_counts o; chosen = chosen o c; last = (last_with_k13 (first_counts o) k).1 e }

-- after the last step too the sides are all there
pub counts_made : (o : Outline) → Closes o → SameSides (made (counts o)) o
unfolding counts
counts_made o c =
    let f : Chosen o (first_counts o) = chosen o c in
    let s = makes_same (first_counts o) o f.all_sides in
    let j = with_k13_made (first_counts o) f.no_k13 in
    omega arith
