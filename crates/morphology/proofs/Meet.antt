-- Two octagons with normal bounds that no bound keeps apart have a cell in common, but for two diagonal rows that cross between cells.
-- Assumes nothing.
use mathlib.Core.List.{[], ◌∷◌}
use native.Mathlib.Omega.{arith}
use lib.IntN.{ℤ}
use Rattle.integers.specs.Minimum.{min_ℤ}
use Rattle.integers.proofs.Linear.{#, ◌⊕◌, neg, lit, ◌≼◌}
use Rattle.integers.proofs.Between.{between, half_up, decide}
use Rattle.integers.proofs.Minimum.{min_ind, min_left, min_right}
use Rattle.octagon.specs.Octagon.{Octagon}
use Rattle.octagon.proofs.Within.{Within, Normal}

-- sums of two, three and four bounds that are nought or more
abbrev Two : ℤ → ℤ → Type 0
Two x y = lit 0 ≼ # x ⊕ # y

abbrev Three : ℤ → ℤ → ℤ → Type 0
Three x y z = lit 0 ≼ # x ⊕ # y ⊕ # z

abbrev Twice : ℤ → ℤ → ℤ → Type 0
Twice x y z = lit 0 ≼ # x ⊕ # x ⊕ # y ⊕ # z

-- no two, three or four bounds rule each other out
record Fair (c : Octagon) : Type 0 where
  f04 : Two c.c0 c.c4
  f15 : Two c.c1 c.c5
  f26 : Two c.c2 c.c6
  f37 : Two c.c3 c.c7
  f036 : Three c.c0 c.c3 c.c6
  f025 : Three c.c0 c.c2 c.c5
  f146 : Three c.c1 c.c4 c.c6
  f247 : Three c.c2 c.c4 c.c7
  f035 : Twice c.c0 c.c3 c.c5
  f257 : Twice c.c2 c.c5 c.c7
  f147 : Twice c.c4 c.c1 c.c7
  f136 : Twice c.c6 c.c1 c.c3

-- l is a height at which the four odd bounds leave a cell
record Level (c : Octagon) (l : ℤ) : Type 0 where
  low : neg (# c.c1 ⊕ # c.c7) ≼ # l ⊕ # l
  high : # l ⊕ # l ≼ # c.c3 ⊕ # c.c5

-- fair bounds with such a height have a cell: eliminate x, then y
fair_cell : {R : Type 0} (c : Octagon) → Fair c → (l : ℤ) → Level c l → ((x y : ℤ) → Within c x y → R) → R
fair_cell c h m e f =
    half_up (neg (# c.c1 ⊕ # c.c7)) λ l l₁ l₂.
    half_up (neg (# c.c3 ⊕ # c.c5)) λ u u₁ u₂.
    between (neg (# c.c0)) (neg (# c.c1 ⊕ # c.c6) ∷ neg (# c.c2 ⊕ # c.c7) ∷ # l ∷ [])
    (# c.c4 ∷ # c.c3 ⊕ # c.c6 ∷ # c.c2 ⊕ # c.c5 ∷ neg (# u) ∷ []) (omega arith) λ y y₁ y₂.
    between (neg (# c.c6)) (# y ⊕ neg (# c.c5) ∷ neg (# c.c7) ⊕ neg (# y) ∷ [])
    (# c.c2 ∷ # c.c1 ⊕ # y ∷ # c.c3 ⊕ neg (# y) ∷ []) (omega arith) λ x x₁ x₂.
    f x y (omega arith)

-- no bound of one lies beyond the other
pub record Touching (a e : Octagon) : Type 0 where
  pub t0 : Two a.c0 e.c4
  pub t1 : Two a.c1 e.c5
  pub t2 : Two a.c2 e.c6
  pub t3 : Two a.c3 e.c7
  pub t4 : Two a.c4 e.c0
  pub t5 : Two a.c5 e.c1
  pub t6 : Two a.c6 e.c2
  pub t7 : Two a.c7 e.c3

-- a is a row of two or more cells on a line x - y, and e one on a line x + y
pub record Opposed (a e : Octagon) : Type 0 where
  pub a15 : # a.c1 ⊕ # a.c5 ≼ lit 0
  pub a37 : lit 1 ≼ # a.c3 ⊕ # a.c7
  pub e37 : # e.c3 ⊕ # e.c7 ≼ lit 0
  pub e15 : lit 1 ≼ # e.c1 ⊕ # e.c5

-- what holds at each choice of two, and of three, holds of the lessers
both : (P : ℤ → ℤ → Type 0) (a a' b b' : ℤ) → P a b × P a b' × P a' b × P a' b' → P (min_ℤ a a') (min_ℤ b b')
both P a a' b b' h =
    min_ind (λ x. P x (min_ℤ b b')) a a'
    (λ _. min_ind (P a) b b' (λ _. h.0) (λ _. h.1))
    (λ _. min_ind (P a') b b' (λ _. h.2) (λ _. h.3))

three : (P : ℤ → ℤ → ℤ → Type 0) (a a' b b' c c' : ℤ) →
    (P a b c × P a b c' × P a b' c × P a b' c') × (P a' b c × P a' b c' × P a' b' c × P a' b' c') → P (min_ℤ a a') (min_ℤ b b') (min_ℤ c c')
three P a a' b b' c c' h =
    min_ind (λ x. P x (min_ℤ b b') (min_ℤ c c')) a a' (λ _. both (P a) b b' c c' h.0) (λ _. both (P a') b b' c c' h.1)

-- l, the least height that the bounds 1 and 7 leave, is never too high for the bounds 3 and 5
abbrev Odd : ℤ → ℤ → ℤ → ℤ → ℤ → Type 0
Odd l d1 d5 d3 d7 = # l ⊕ # l ≼ neg (# d1 ⊕ # d7) ⊕ lit 1 → # d3 ⊕ # d5 ⊕ lit 1 ≼ # l ⊕ # l → ⊥

rows : (a e : Octagon) → Normal a → Normal e → Touching a e → ¬ (Opposed a e) → (l : ℤ) → Odd l a.c1 a.c5 e.c3 e.c7
rows a e n k t o l u v =
    decide (lit 1) (# a.c3 ⊕ # a.c7)
    (λ f. decide (lit 1) (# e.c1 ⊕ # e.c5) (λ g. o (omega arith)) (λ g. omega arith))
    (λ f. omega arith)

touching_sym : (a e : Octagon) → Touching a e → Touching e a
touching_sym a e t = omega arith

-- the lesser of each two bounds: the cells of both
meet : Octagon → Octagon → Octagon
meet a e = record {
  c0 = min_ℤ a.c0 e.c0;
  c1 = min_ℤ a.c1 e.c1;
  c2 = min_ℤ a.c2 e.c2;
  c3 = min_ℤ a.c3 e.c3;
  c4 = min_ℤ a.c4 e.c4;
  c5 = min_ℤ a.c5 e.c5;
  c6 = min_ℤ a.c6 e.c6;
  c7 = min_ℤ a.c7 e.c7;
}

module _ (a e : Octagon) (n : Normal a) (k : Normal e) (t : Touching a e) where
  meet_fair : Fair (meet a e)
  unfolding meet
  meet_fair = record {
    f04 = both Two a.c0 e.c0 a.c4 e.c4 (omega arith);
    f15 = both Two a.c1 e.c1 a.c5 e.c5 (omega arith);
    f26 = both Two a.c2 e.c2 a.c6 e.c6 (omega arith);
    f37 = both Two a.c3 e.c3 a.c7 e.c7 (omega arith);
    f036 = three Three a.c0 e.c0 a.c3 e.c3 a.c6 e.c6 (omega arith);
    f025 = three Three a.c0 e.c0 a.c2 e.c2 a.c5 e.c5 (omega arith);
    f146 = three Three a.c1 e.c1 a.c4 e.c4 a.c6 e.c6 (omega arith);
    f247 = three Three a.c2 e.c2 a.c4 e.c4 a.c7 e.c7 (omega arith);
    f035 = three Twice a.c0 e.c0 a.c3 e.c3 a.c5 e.c5 (omega arith);
    f257 = three Twice a.c2 e.c2 a.c5 e.c5 a.c7 e.c7 (omega arith);
    f147 = three Twice a.c4 e.c4 a.c1 e.c1 a.c7 e.c7 (omega arith);
    f136 = three Twice a.c6 e.c6 a.c1 e.c1 a.c3 e.c3 (omega arith);
  }

  meet_odd : ¬ (Opposed a e) → ¬ (Opposed e a) → (l : ℤ) → Odd l (meet a e).c1 (meet a e).c5 (meet a e).c3 (meet a e).c7
  unfolding meet
  meet_odd o o' l = both (λ x y. Odd l x y (min_ℤ a.c3 e.c3) (min_ℤ a.c7 e.c7)) a.c1 e.c1 a.c5 e.c5 (
    both (Odd l a.c1 a.c5) a.c3 e.c3 a.c7 e.c7 (omega arith, omega arith, omega arith, rows a e n k t o l),
    both (Odd l a.c1 e.c5) a.c3 e.c3 a.c7 e.c7 (omega arith),
    both (Odd l e.c1 a.c5) a.c3 e.c3 a.c7 e.c7 (omega arith),
    both (Odd l e.c1 e.c5) a.c3 e.c3 a.c7 e.c7 (rows e a k n (touching_sym a e t) o' l, omega arith, omega arith, omega arith),
  )

-- the cells of the meet are cells of both
lesser : (a b : ℤ) → (# (min_ℤ a b) ≼ # a) × (# (min_ℤ a b) ≼ # b)
lesser a b = (min_left a b, min_right a b)

of_both : (a e : Octagon) (x y : ℤ) → Within (meet a e) x y → Within a x y × Within e x y
unfolding meet
of_both a e x y i =
    omega (
      arith,
      lesser a.c0 e.c0,
      lesser a.c1 e.c1,
      lesser a.c2 e.c2,
      lesser a.c3 e.c3,
      lesser a.c4 e.c4,
      lesser a.c5 e.c5,
      lesser a.c6 e.c6,
      lesser a.c7 e.c7,
    )

-- a cell of both
pub record Common (a e : Octagon) : Type 0 where
  pub x : ℤ
  pub y : ℤ
  pub in_left : Within a x y
  pub in_right : Within e x y

pub common : (a e : Octagon) → Normal a → Normal e → Touching a e → ¬ (Opposed a e) → ¬ (Opposed e a) → Common a e
common a e n k t o o' =
    let d = meet a e in
    half_up (neg (# d.c1 ⊕ # d.c7)) λ l l₁ l₂.
    decide (# l ⊕ # l) (# d.c3 ⊕ # d.c5)
    (λ h. fair_cell d (meet_fair a e n k t) l (omega arith) λ x y i.
    let b = of_both a e x y i in
    record { x = x; y = y; in_left = b.0; in_right = b.1 })
    (λ h. absurd (meet_odd a e n k t o o' l l₂ h))
