-- What the cases of source document 000 assign, one after the other: the counts of every case that fits, in whatever order they come. Assumes
-- nothing.
use mathlib.Core.Path.{◌≡◌, refl, sym, ◌∙◌, subst}
use mathlib.Core.Bool.{false}
use mathlib.Core.List.{List, [], ◌∷◌}
use Prim.Native.Nat.{ℕ, ◌≤◌}
use native.Mathlib.Omega.{arith}
use Rattle.integers.proofs.Tests.{cases}
use Rattle.outline.specs.declared.Outline.{Outline}
use Rattle.decomposition.specs.declared.pairing.Triangles.{Triangles}
use Rattle.decomposition.specs.Rule.{Pair, case_i, case_ii, case_iii, case_iv, case_v, case_vi, case_vii, case_viii}
use Rattle.decomposition.specs.Pairs.{no_triangles, with_kinds, of_kinds, assign_pair, read_off, case_fits, assign, PairCase, in_order, in_turn, triangles_of, CaseFits, fit_triangles, FitsSome, FitsAmong, here, later}
use Rattle.decomposition.proofs.Pairs.{read_triangles_is, fits_exactly, minima, SameTriangles, equal_triangles, fit_minima}

-- ---- one case

-- kind for kind no more
record Below (t u : Triangles) : Type 0 where
  b5 : t.k5 ≤ u.k5
  b6 : t.k6 ≤ u.k6
  b7 : t.k7 ≤ u.k7
  b8 : t.k8 ≤ u.k8
  b9 : t.k9 ≤ u.k9
  b10 : t.k10 ≤ u.k10
  b11 : t.k11 ≤ u.k11
  b12 : t.k12 ≤ u.k12

below_refl : (t : Triangles) → Below t t
below_refl t = omega arith

-- counts that are no more than a pair's, with these assigned, are the pair's
with_own : {p q : ℕ} (c : Pair p q) (a b : ℕ) (t : Triangles) → Below t (of_kinds p a q b) → SameTriangles (with_kinds t p a q b) (of_kinds p a q b)
with_own case_i a b t l = omega arith
with_own case_ii a b t l = omega arith
with_own case_iii a b t l = omega arith
with_own case_iv a b t l = omega arith
with_own case_v a b t l = omega arith
with_own case_vi a b t l = omega arith
with_own case_vii a b t l = omega arith
with_own case_viii a b t l = omega arith

module _ (r : Outline) where
  -- a case that fits
  assign_fitting : {p q : ℕ} (c : Pair p q) {t : Triangles} → CaseFits c r → Below t (minima r) → assign c r t ≡ minima r
  unfolding assign_pair
  assign_fitting c {t} f l =
      let e = read_triangles_is c r f ∙ fit_minima c r f in
      rw ((fits_exactly c r).1 f) (equal_triangles _ _ (with_own c (read_off c r).0 (read_off c r).1 t (subst (Below t) (sym e) l)) ∙ e)

  -- one that does not
  assign_other : {p q : ℕ} (c : Pair p q) {t : Triangles} → case_fits c r ≡ false → assign c r t ≡ t
  unfolding assign_pair
  assign_other c n = rw n

  -- any case before one that fits
  before : {p q : ℕ} (c : Pair p q) {t : Triangles} → Below t (minima r) → Below (assign c r t) (minima r)
  before c {t} l =
      cases (case_fits c r)
      (λ y. subst (λ u. Below u (minima r)) (sym (assign_fitting c ((fits_exactly c r).0 y) l)) (below_refl (minima r)))
      (λ n. subst (λ u. Below u (minima r)) (sym (assign_other c n)) l)

  -- and any after it
  after : {p q : ℕ} (c : Pair p q) {t : Triangles} → t ≡ minima r → assign c r t ≡ minima r
  after c {t} e =
      cases (case_fits c r)
      (λ y. assign_fitting c ((fits_exactly c r).0 y) (subst (λ u. Below u (minima r)) (sym e) (below_refl (minima r))))
      (λ n. assign_other c n ∙ e)

  -- ---- cases in turn

  all_after : (cs : List PairCase) {t : Triangles} → t ≡ minima r → in_turn cs r t ≡ minima r
  all_after [] e = e
  all_after (c ∷ cs) e = all_after cs (after c.pair e)

  reached : (cs : List PairCase) {t : Triangles} → FitsAmong r cs → Below t (minima r) → in_turn cs r t ≡ minima r
  reached [] n l = elim n [ ]
  reached (c ∷ cs) (here f) l = all_after cs (assign_fitting c.pair f l)
  reached (c ∷ cs) (later m) l = reached cs m (before c.pair l)

  among : {p q : ℕ} (c : Pair p q) → CaseFits c r → FitsAmong r in_order
  among case_i f = here f
  among case_ii f = later (here f)
  among case_iii f = later (later (here f))
  among case_iv f = later (later (later (here f)))
  among case_v f = later (later (later (later (here f))))
  among case_vi f = later (later (later (later (later (here f)))))
  among case_vii f = later (later (later (later (later (later (here f))))))
  among case_viii f = later (later (later (later (later (later (later (here f)))))))

  -- the counts found are of each kind the smaller of two sides
  pub found_minima : {p q : ℕ} (c : Pair p q) → CaseFits c r → triangles_of r ≡ minima r
  unfolding triangles_of
  found_minima c f = reached in_order (among c f) (omega arith)

-- the counts of every case that fits are found
pub found : {p q : ℕ} (c : Pair p q) (r : Outline) (f : CaseFits c r) → triangles_of r ≡ fit_triangles f
found c r f = found_minima r c f ∙ sym (fit_minima c r f)

one_of : (r : Outline) (cs : List PairCase) → FitsAmong r cs → FitsSome r
one_of r [] n = elim n [ ]
one_of r (c ∷ cs) (here f) = record { case = c; fit = f }
one_of r (c ∷ cs) (later m) = one_of r cs m

-- the order of the cases does not matter: cases in any order, and any of them as long as one fits, give the same
pub any_order : (cs : List PairCase) (r : Outline) → FitsAmong r cs → in_turn cs r no_triangles ≡ triangles_of r
any_order cs r m = let s = one_of r cs m in reached r cs m (omega arith) ∙ sym (found_minima r s.case.pair s.fit)

-- where no case fits there are no triangles
none_assigned : (r : Outline) (cs : List PairCase) {t : Triangles} → ¬ (FitsSome r) → in_turn cs r t ≡ t
none_assigned r [] n = refl
none_assigned r (c ∷ cs) {t} n = none_assigned r cs n ∙ cases (case_fits c.pair r) (λ y. absurd (n (record { case = c; fit = (fits_exactly c.pair r).0 y }))) (assign_other r c.pair)

pub no_case : (r : Outline) → ¬ (FitsSome r) → triangles_of r ≡ no_triangles
unfolding triangles_of
no_case r n = none_assigned r in_order n
