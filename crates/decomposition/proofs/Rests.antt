-- What the rows of an outline leave of it: some case fits this rest, and counts of two kinds that make it are those that are found. Assumes
-- nothing.
use mathlib.Core.Path.{◌≡◌, ◌∙◌, sym, subst}
use Prim.Native.Nat.{ℕ, ◌+◌, min}
use native.Mathlib.Omega.{arith}
use Rattle.integers.proofs.Between.{if_any}
use Rattle.outline.specs.declared.Outline.{Outline}
use Rattle.outline.specs.Closing.{Closes}
use Rattle.outline.specs.Sameness.{SameSides}
use Rattle.decomposition.specs.declared.Counts.{Counts}
use Rattle.decomposition.specs.Rule.{count_of_kind, Pair, case_i, case_ii, case_iii, case_iv, case_v, case_vi, case_vii, case_viii, triangles, TwoKinds}
use Rattle.decomposition.specs.Pairs.{of_kinds, triangles_in, rows_and_triangles, made, a_case, triangles_of, CaseFits, FitsSome}
use Rattle.decomposition.specs.Splitting.{rest}
use Rattle.decomposition.specs.Meaning.{RestOf}
use Rattle.decomposition.proofs.Pairs.{MakeUp, minima, SameTriangles, equal_triangles, made_fits}
use Rattle.decomposition.proofs.Found.{found_minima, found}

-- ---- rows and what they leave

-- of two opposite sides one is 0
record Half (r : Outline) : Type 0 where
  h0 : min r.n0 r.n4 ≡ 0
  h1 : min r.n1 r.n5 ≡ 0
  h2 : min r.n2 r.n6 ≡ 0
  h3 : min r.n3 r.n7 ≡ 0

pub rest_of : (o : Outline) → RestOf o (rest o)
unfolding rest
rest_of o = omega arith

half : (o : Outline) → Half (rest o)
unfolding rest
half o = omega arith

rest_closes : (o r : Outline) → RestOf o r → Closes o → Closes r
rest_closes o r l c = omega arith

-- ---- some case fits the rest

half_fits : (r : Outline) → Half r → Closes r → FitsSome r
half_fits r h c =
    if_any r.n0
    (λ h0. if_any r.n1
    (λ h1. fit case_i r.n0 r.n1 (omega arith))
    (λ h1. if_any r.n2
    (λ h2. if_any r.n3
    (λ h3. fit case_iii r.n2 r.n3 (omega arith))
    (λ h3. fit case_viii r.n0 r.n7 (omega arith)))
    (λ h2. fit case_vi r.n6 r.n5 (omega arith))))
    (λ h0. if_any r.n1
    (λ h1. if_any r.n2
    (λ h2. fit case_ii r.n2 r.n1 (omega arith))
    (λ h2. if_any r.n3
    (λ h3. fit case_iv r.n4 r.n3 (omega arith))
    (λ h3. fit case_vii r.n6 r.n7 (omega arith))))
    (λ h1. fit case_v r.n4 r.n5 (omega arith)))
  where
    fit : {p q : ℕ} (c : Pair p q) (a b : ℕ) → MakeUp (of_kinds p a q b) r → FitsSome r
    fit c a b s = record { case = a_case c; fit = made_fits c r a b s }

-- "every plot's rest fits at least one case"
pub some_case : (o : Outline) → Closes o → FitsSome (rest o)
some_case o c = half_fits (rest o) (half o) (rest_closes o (rest o) (rest_of o) c)

-- of each kind there are as many as the smaller of two sides
pub as_minima : (o : Outline) → Closes o → triangles_of (rest o) ≡ minima (rest o)
as_minima o c = let s = some_case o c in found_minima (rest o) s.case.pair s.fit

-- ---- triangles of two kinds that make the rest

-- the rows of k are the smaller of two opposite sides
pub record Rows (o : Outline) (k : Counts) : Type 0 where
  pub r1 : k.k1 ≡ min o.n0 o.n4
  pub r2 : k.k2 ≡ min o.n1 o.n5
  pub r3 : k.k3 ≡ min o.n2 o.n6
  pub r4 : k.k4 ≡ min o.n3 o.n7
  pub r13 : k.k13 ≡ 0

-- with these, triangles have the sides of o exactly where they make the rest
pub triangles_made : (o r : Outline) (k : Counts) → RestOf o r → Rows o k → SameSides (made k) o → MakeUp (triangles_in k) r
triangles_made o r k l h s = omega arith

pub made_with_rows : (o r : Outline) (k : Counts) → RestOf o r → Rows o k → MakeUp (triangles_in k) r → SameSides (made k) o
made_with_rows o r k l h s = omega arith

-- triangles of a pair of kinds alone
pub two_kinds_alone : (k : Counts) {p q : ℕ} → Pair p q → triangles k ≡ count_of_kind k p + count_of_kind k q →
    SameTriangles (triangles_in k) (of_kinds p (count_of_kind k p) q (count_of_kind k q))
two_kinds_alone k case_i h = omega arith
two_kinds_alone k case_ii h = omega arith
two_kinds_alone k case_iii h = omega arith
two_kinds_alone k case_iv h = omega arith
two_kinds_alone k case_v h = omega arith
two_kinds_alone k case_vi h = omega arith
two_kinds_alone k case_vii h = omega arith
two_kinds_alone k case_viii h = omega arith

-- triangles of a pair of kinds, beside rows
pub of_two_kinds : (k1 k2 k3 k4 : ℕ) {p q : ℕ} (c : Pair p q) (a b : ℕ) →
    let k = rows_and_triangles k1 k2 k3 k4 (of_kinds p a q b) in triangles k ≡ count_of_kind k p + count_of_kind k q
of_two_kinds k1 k2 k3 k4 case_i a b = omega arith
of_two_kinds k1 k2 k3 k4 case_ii a b = omega arith
of_two_kinds k1 k2 k3 k4 case_iii a b = omega arith
of_two_kinds k1 k2 k3 k4 case_iv a b = omega arith
of_two_kinds k1 k2 k3 k4 case_v a b = omega arith
of_two_kinds k1 k2 k3 k4 case_vi a b = omega arith
of_two_kinds k1 k2 k3 k4 case_vii a b = omega arith
of_two_kinds k1 k2 k3 k4 case_viii a b = omega arith

-- what two kinds alone make of o beside its rows is a case that fits the rest
module _ (o r : Outline) (k : Counts) (l : RestOf o r) (h : Rows o k) (s : SameSides (made k) o) (w : TwoKinds k) where
  alone : triangles_in k ≡ of_kinds w.p (count_of_kind k w.p) w.q (count_of_kind k w.q)
  alone = equal_triangles _ _ (two_kinds_alone k w.pair w.no_others)

  pub alone_made : MakeUp (of_kinds w.p (count_of_kind k w.p) w.q (count_of_kind k w.q)) r
  alone_made = subst (λ t. MakeUp t r) alone (triangles_made o r k l h s)

  unfoldable pub two_kinds_fit : CaseFits w.pair r
  two_kinds_fit = made_fits w.pair r _ _ alone_made

  -- so that its counts are found
  pub forced : triangles_in k ≡ triangles_of r
  unfolding two_kinds_fit
  forced = alone ∙ sym (found w.pair r two_kinds_fit)
