-- How many there are of each piece, by the rule of document 01 ("The thirteen pieces"), as a relation. This file is what a reader must
-- believe of the counts. Assumes nothing.
use Rattle.std.specs.Prelude.{◌≡◌, List, [], ◌∷◌, ℕ, ◌+◌, ◌-◌, ◌*◌, min, ◌<◌, ◌≤◌, get_or}
use Rattle.outline.specs.declared.Outline.{Outline}
use Rattle.outline.specs.Walk.{side}
use Rattle.decomposition.specs.declared.Counts.{Counts}
use Rattle.decomposition.specs.Pieces.{outlines, listed}

-- the count of Kp
abbrev pub count_of_kind : Counts → ℕ → ℕ
count_of_kind k p = get_or (listed k) (p - 1) 0

-- the length of side m that counted pieces have together
abbrev pub together : List ℕ → List Outline → ℕ → ℕ
together [] ps m = 0
together (k ∷ ks) [] m = 0
together (k ∷ ks) (p ∷ ps) m = k * side p m + together ks ps m

-- ---- "of at most two kinds from K5 to K12, two kinds being one of 6+11, 8+10, 5+9, 7+11, 8+12, 6+9, 7+10, 5+12"

-- cases (i) to (viii) of source document 000
pub data Pair : ℕ → ℕ → Type 0 where
  case_i : Pair 6 11
  case_ii : Pair 8 10
  case_iii : Pair 5 9
  case_iv : Pair 7 11
  case_v : Pair 8 12
  case_vi : Pair 6 9
  case_vii : Pair 7 10
  case_viii : Pair 5 12

-- how many there are of K5 to K12 in all
abbrev pub triangles : Counts → ℕ
triangles k = k.k5 + k.k6 + k.k7 + k.k8 + k.k9 + k.k10 + k.k11 + k.k12

-- all of them are of one pair of kinds, either of which may be there nought times
pub record TwoKinds (k : Counts) : Type 0 where
  pub p : ℕ
  pub q : ℕ
  pub pair : Pair p q
  pub no_others : triangles k ≡ count_of_kind k p + count_of_kind k q

-- ---- "First k1 to k4 are the smaller of .. . The rest is made of .."

pub record Chosen (o : Outline) (k : Counts) : Type 0 where
  pub row1 : k.k1 ≡ min o.n0 o.n4
  pub row2 : k.k2 ≡ min o.n1 o.n5
  pub row3 : k.k3 ≡ min o.n2 o.n6
  pub row4 : k.k4 ≡ min o.n3 o.n7
  pub no_k13 : k.k13 ≡ 0
  pub two_kinds : TwoKinds k
  pub all_sides : (m : ℕ) → m < 8 → together (listed k) outlines m ≡ side o m

-- ---- "Last, when k2 and k4 are at least 1 and all other counts are 0, one K2 and one K4 become one K13."

-- how many there are of all but K2, K4 and K13
abbrev pub others : Counts → ℕ
others k = k.k1 + k.k3 + triangles k

-- K2 and K4 are there and nothing else is
pub record Crossed (k : Counts) : Type 0 where
  pub some_k2 : 1 ≤ k.k2
  pub some_k4 : 1 ≤ k.k4
  pub no_others : others k ≡ 0

-- the counts with so many of K2, of K4 and of K13 in place of theirs
abbrev pub recounted : Counts → ℕ → ℕ → ℕ → Counts
recounted k k2 k4 k13 = record {
  k1 = k.k1;
  k2 = k2;
  k3 = k.k3;
  k4 = k4;
  k5 = k.k5;
  k6 = k.k6;
  k7 = k.k7;
  k8 = k.k8;
  k9 = k.k9;
  k10 = k.k10;
  k11 = k.k11;
  k12 = k.k12;
  k13 = k13;
}

-- one K2 and one K4 as one K13
abbrev pub exchanged : Counts → Counts
exchanged k = recounted k (k.k2 - 1) (k.k4 - 1) 1

pub data Last (before after : Counts) : Type 0 where
  exchange : Crossed before → after ≡ exchanged before → Last before after
  keep : ¬ (Crossed before) → after ≡ before → Last before after

-- ---- the rule: the counts k for an outline o

pub record Rule (o : Outline) (k : Counts) : Type 0 where
  pub before : Counts
  pub chosen : Chosen o before
  pub last : Last before k
