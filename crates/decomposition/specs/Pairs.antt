-- The triangles that make what the rows leave of an outline (source document 000's A(4)), found by its eight cases: definitions that
-- compute, and what it means that a case fits. proofs/Pairs.antt, Found.antt, Rests.antt and ByCases.antt have the theorems. Assumes nothing.
use Rattle.std.specs.Prelude.{◌≡◌, Bool, cond, List, [], ◌∷◌, ℕ, ◌+◌, ◌-◌, ◌*◌, ◌<◌, eqb, pos}
use Rattle.outline.specs.declared.Outline.{Outline}
use Rattle.outline.specs.Walk.{side}
use Rattle.outline.specs.Sameness.{same_sides}
use Rattle.decomposition.specs.declared.Counts.{Counts}
use Rattle.decomposition.specs.declared.pairing.Triangles.{Triangles}
use Rattle.decomposition.specs.Pieces.{piece_of}
use Rattle.decomposition.specs.Rule.{Pair, case_i, case_ii, case_iii, case_iv, case_v, case_vi, case_vii, case_viii}

-- ---- triangles

abbrev pub no_triangles : Triangles
no_triangles = record { k5 = 0; k6 = 0; k7 = 0; k8 = 0; k9 = 0; k10 = 0; k11 = 0; k12 = 0 }

-- how many there are of kind k, where there are a of kind p, b of kind q, and n of any other
abbrev pub number_of : ℕ → ℕ → ℕ → ℕ → ℕ → ℕ → ℕ
number_of k p a q b n = cond (eqb k p) a (cond (eqb k q) b n)

-- triangles with n of kind p in place of theirs
abbrev pub with_kind : Triangles → ℕ → ℕ → Triangles
with_kind t p n = record {
  k5 = cond (eqb 5 p) n t.k5;
  k6 = cond (eqb 6 p) n t.k6;
  k7 = cond (eqb 7 p) n t.k7;
  k8 = cond (eqb 8 p) n t.k8;
  k9 = cond (eqb 9 p) n t.k9;
  k10 = cond (eqb 10 p) n t.k10;
  k11 = cond (eqb 11 p) n t.k11;
  k12 = cond (eqb 12 p) n t.k12;
}

-- triangles with a of kind p and b of kind q in place of theirs
abbrev pub with_kinds : Triangles → ℕ → ℕ → ℕ → ℕ → Triangles
with_kinds t p a q b = record {
  k5 = number_of 5 p a q b t.k5;
  k6 = number_of 6 p a q b t.k6;
  k7 = number_of 7 p a q b t.k7;
  k8 = number_of 8 p a q b t.k8;
  k9 = number_of 9 p a q b t.k9;
  k10 = number_of 10 p a q b t.k10;
  k11 = number_of 11 p a q b t.k11;
  k12 = number_of 12 p a q b t.k12;
}

-- a of kind p and b of kind q alone
abbrev pub of_kinds : ℕ → ℕ → ℕ → ℕ → Triangles
of_kinds p a q b = with_kinds no_triangles p a q b

-- those of counted pieces
abbrev pub triangles_in : Counts → Triangles
triangles_in k = record { k5 = k.k5; k6 = k.k6; k7 = k.k7; k8 = k.k8; k9 = k.k9; k10 = k.k10; k11 = k.k11; k12 = k.k12 }

-- so many of K1 to K4, triangles, and no K13
abbrev pub rows_and_triangles : ℕ → ℕ → ℕ → ℕ → Triangles → Counts
rows_and_triangles k1 k2 k3 k4 t = record {
  k1 = k1;
  k2 = k2;
  k3 = k3;
  k4 = k4;
  k5 = t.k5;
  k6 = t.k6;
  k7 = t.k7;
  k8 = t.k8;
  k9 = t.k9;
  k10 = t.k10;
  k11 = t.k11;
  k12 = t.k12;
  k13 = 0;
}

-- triangles and nothing else
abbrev pub without_rows : Triangles → Counts
without_rows t = rows_and_triangles 0 0 0 0 t

-- equations (5) of source document 000: the sides that counted pieces have together
abbrev pub made : Counts → Outline
made k = record {
  i = pos 0;
  j = pos 0;
  n0 = k.k1 + k.k5 + k.k6 + 2 * k.k9;
  n1 = k.k2 + k.k7 + k.k10 + k.k11 + k.k13;
  n2 = k.k3 + k.k5 + k.k8 + 2 * k.k12;
  n3 = k.k4 + k.k6 + k.k9 + k.k11 + k.k13;
  n4 = k.k1 + k.k7 + k.k8 + 2 * k.k10;
  n5 = k.k2 + k.k5 + k.k9 + k.k12 + k.k13;
  n6 = k.k3 + k.k6 + k.k7 + 2 * k.k11;
  n7 = k.k4 + k.k8 + k.k10 + k.k12 + k.k13;
}

-- whether triangles make a rest
unfoldable pub have_sides : Triangles → Outline → Bool
have_sides t r = same_sides (made (without_rows t)) r

-- ---- the cases

-- a case, of the kinds p and q: where a of the one and b of the other make the rest, they are assigned
unfoldable pub assign_pair : Triangles → Outline → ℕ → ℕ → ℕ → ℕ → Triangles
assign_pair t r p a q b = cond (have_sides (of_kinds p a q b) r) (with_kinds t p a q b) t

-- the assignments of source document 000's step 4: each count is read off a side that the other kind has not
abbrev pub read_off : {p q : ℕ} → Pair p q → Outline → ℕ × ℕ
read_off case_i r = (r.n0, r.n1)
read_off case_ii r = (r.n2, r.n1)
read_off case_iii r = (r.n2, r.n3)
read_off case_iv r = (r.n4, r.n3)
read_off case_v r = (r.n4, r.n5)
read_off case_vi r = (r.n6, r.n5)
read_off case_vii r = (r.n6, r.n7)
read_off case_viii r = (r.n0, r.n7)

-- the counts of a case
abbrev pub read_triangles : {p q : ℕ} → Pair p q → Outline → Triangles
read_triangles {p} {q} c r = of_kinds p (read_off c r).0 q (read_off c r).1

-- whether it fits: whether the other sides agree
abbrev pub case_fits : {p q : ℕ} → Pair p q → Outline → Bool
case_fits c r = have_sides (read_triangles c r) r

-- a case by its pair and its two sides
abbrev pub assign : {p q : ℕ} → Pair p q → Outline → Triangles → Triangles
assign {p} {q} c r t = assign_pair t r p (read_off c r).0 q (read_off c r).1

-- one of the cases
pub record PairCase : Type 0 where
  pub p : ℕ
  pub q : ℕ
  pub pair : Pair p q

abbrev pub a_case : {p q : ℕ} → Pair p q → PairCase
a_case {p} {q} c = record { p = p; q = q; pair = c }

-- (i) to (viii)
abbrev pub in_order : List PairCase
in_order = a_case case_i ∷ a_case case_ii ∷ a_case case_iii ∷ a_case case_iv ∷ a_case case_v ∷ a_case case_vi ∷ a_case case_vii ∷ a_case case_viii ∷ []

-- cases assigned in turn
abbrev pub in_turn : List PairCase → Outline → Triangles → Triangles
in_turn [] r t = t
in_turn (c ∷ cs) r t = in_turn cs r (assign c.pair r t)

-- the triangles of a rest: the cases in their order, from none on
unfoldable pub triangles_of : Outline → Triangles
triangles_of r = in_turn in_order r no_triangles

-- ---- what it means that a case fits

-- side m of the piece Kp
abbrev pub piece_side : ℕ → ℕ → ℕ
piece_side p m = side (piece_of (p - 1)) m

-- "its pair, in counts of nought or more, makes the rest": so many of Kp and so many of Kq have its sides
pub record CaseFits {p q : ℕ} (c : Pair p q) (r : Outline) : Type 0 where
  pub count_p : ℕ
  pub count_q : ℕ
  pub makes : (m : ℕ) → m < 8 → count_p * piece_side p m + count_q * piece_side q m ≡ side r m

-- the triangles of a case that fits
abbrev pub fit_triangles : {p q : ℕ} {c : Pair p q} {r : Outline} → CaseFits c r → Triangles
fit_triangles {p} {q} f = of_kinds p f.count_p q f.count_q

-- at least one case fits
pub record FitsSome (r : Outline) : Type 0 where
  pub case : PairCase
  pub fit : CaseFits case.pair r

-- at least one case of a list fits
pub data FitsAmong (r : Outline) : List PairCase → Type 0 where
  here : {c : PairCase} {cs : List PairCase} → CaseFits c.pair r → FitsAmong r (c ∷ cs)
  later : {c : PairCase} {cs : List PairCase} → FitsAmong r cs → FitsAmong r (c ∷ cs)
