-- The eight cases of source document 000, of any rest: the test of a case decides whether it fits, its counts are those that make the rest,
-- and where several fit they give the same counts. Assumes nothing.
use mathlib.Core.Path.{◌≡◌, sym, ◌∙◌, subst}
use mathlib.Core.Bool.{true}
use mathlib.Core.Logic.{◌↔◌}
use Prim.Native.Nat.{ℕ, ◌+◌, ◌*◌, min}
use native.Mathlib.Omega.{arith}
use Rattle.outline.specs.declared.Outline.{Outline}
use Rattle.outline.specs.Tables.{pieces, piece_sides}
use Rattle.outline.specs.Sameness.{SameSides}
use Rattle.outline.proofs.Sameness.{test_same, same_test}
use Rattle.decomposition.specs.declared.pairing.Triangles.{Triangles}
use Rattle.decomposition.specs.Pieces.{outlines, piece_of, listed}
use Rattle.decomposition.specs.Rule.{together, Pair, case_i, case_ii, case_iii, case_iv, case_v, case_vi, case_vii, case_viii}
use Rattle.decomposition.specs.Pairs.{of_kinds, without_rows, made, have_sides, read_off, read_triangles, case_fits, piece_side, CaseFits, fit_triangles}
use Rattle.decomposition.proofs.Sides.{makes_same, same_makes}

-- ---- the sides of a pair

-- the triangles make r, by equations (5)
abbrev pub MakeUp : Triangles → Outline → Type 0
MakeUp t r = SameSides (made (without_rows t)) r

-- the pieces of a pair, by the table
pub pair_sides : {p q : ℕ} (c : Pair p q) (a b m : ℕ) →
    a * piece_side p m + b * piece_side q m ≡ together (listed (without_rows (of_kinds p a q b))) outlines m
unfolding outlines piece_of piece_sides pieces
pair_sides case_i a b m = omega arith
pair_sides case_ii a b m = omega arith
pair_sides case_iii a b m = omega arith
pair_sides case_iv a b m = omega arith
pair_sides case_v a b m = omega arith
pair_sides case_vi a b m = omega arith
pair_sides case_vii a b m = omega arith
pair_sides case_viii a b m = omega arith

abbrev pub made_fits : {p q : ℕ} (c : Pair p q) (r : Outline) (a b : ℕ) → MakeUp (of_kinds p a q b) r → CaseFits c r
made_fits {p} {q} c r a b s = record {
  count_p = a;
  count_q = b;
  makes = λ m l. pair_sides c a b m ∙ same_makes (without_rows (of_kinds p a q b)) r s m l;
}

pub fits_made : {p q : ℕ} (c : Pair p q) (r : Outline) (f : CaseFits c r) → MakeUp (fit_triangles f) r
fits_made c r f = makes_same (without_rows (fit_triangles f)) r (λ m l. sym (pair_sides c f.count_p f.count_q m) ∙ f.makes m l)

-- ---- the counts are read off two sides

pub read_off_is : {p q : ℕ} (c : Pair p q) (r : Outline) (a b : ℕ) → MakeUp (of_kinds p a q b) r → ((read_off c r).0 ≡ a) × ((read_off c r).1 ≡ b)
read_off_is case_i r a b s = omega arith
read_off_is case_ii r a b s = omega arith
read_off_is case_iii r a b s = omega arith
read_off_is case_iv r a b s = omega arith
read_off_is case_v r a b s = omega arith
read_off_is case_vi r a b s = omega arith
read_off_is case_vii r a b s = omega arith
read_off_is case_viii r a b s = omega arith

pub read_triangles_is : {p q : ℕ} (c : Pair p q) (r : Outline) (f : CaseFits c r) → read_triangles c r ≡ fit_triangles f
read_triangles_is c r f = let e = read_off_is c r f.count_p f.count_q (fits_made c r f) in rw (e.0, e.1)

-- the test of a case decides whether its pair makes the rest
pub fits_exactly : {p q : ℕ} (c : Pair p q) (r : Outline) → (case_fits c r ≡ true) ↔ CaseFits c r
unfolding have_sides
fits_exactly c r = (
  λ t. made_fits c r (read_off c r).0 (read_off c r).1 (test_same _ r t),
  λ f. same_test _ r (subst (λ t. MakeUp t r) (sym (read_triangles_is c r f)) (fits_made c r f)),
)

-- ---- where several fit they give the same counts

-- of each kind the smaller of two sides
abbrev pub minima : Outline → Triangles
minima r = record {
  k5 = min r.n0 r.n2;
  k6 = min r.n0 r.n6;
  k7 = min r.n4 r.n6;
  k8 = min r.n2 r.n4;
  k9 = min r.n3 r.n5;
  k10 = min r.n1 r.n7;
  k11 = min r.n1 r.n3;
  k12 = min r.n5 r.n7;
}

-- kind for kind as many
pub record SameTriangles (t u : Triangles) : Type 0 where
  pub t5 : t.k5 ≡ u.k5
  pub t6 : t.k6 ≡ u.k6
  pub t7 : t.k7 ≡ u.k7
  pub t8 : t.k8 ≡ u.k8
  pub t9 : t.k9 ≡ u.k9
  pub t10 : t.k10 ≡ u.k10
  pub t11 : t.k11 ≡ u.k11
  pub t12 : t.k12 ≡ u.k12

pub equal_triangles : (t u : Triangles) → SameTriangles t u → t ≡ u
equal_triangles t u e i = record {
  k5 = e.t5 i;
  k6 = e.t6 i;
  k7 = e.t7 i;
  k8 = e.t8 i;
  k9 = e.t9 i;
  k10 = e.t10 i;
  k11 = e.t11 i;
  k12 = e.t12 i;
}

pair_minima : {p q : ℕ} (c : Pair p q) (r : Outline) (a b : ℕ) → MakeUp (of_kinds p a q b) r → SameTriangles (of_kinds p a q b) (minima r)
pair_minima case_i r a b s = omega arith
pair_minima case_ii r a b s = omega arith
pair_minima case_iii r a b s = omega arith
pair_minima case_iv r a b s = omega arith
pair_minima case_v r a b s = omega arith
pair_minima case_vi r a b s = omega arith
pair_minima case_vii r a b s = omega arith
pair_minima case_viii r a b s = omega arith

pub fit_minima : {p q : ℕ} (c : Pair p q) (r : Outline) (f : CaseFits c r) → fit_triangles f ≡ minima r
fit_minima c r f = equal_triangles _ _ (pair_minima c r f.count_p f.count_q (fits_made c r f))

pub same_counts : {p q p' q' : ℕ} (c : Pair p q) (d : Pair p' q') (r : Outline) (f : CaseFits c r) (g : CaseFits d r) → fit_triangles f ≡ fit_triangles g
same_counts c d r f g = fit_minima c r f ∙ sym (fit_minima d r g)
