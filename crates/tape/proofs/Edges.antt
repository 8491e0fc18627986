-- Comparing a coordinate with an exact edge is comparing whole numbers: what a test of the code says of the coordinate's value.
-- Assumes nothing.
use mathlib.Core.Path.{◌≡◌, refl, sym, ap, ◌∙◌}
use mathlib.Core.Bool.{Bool, true, false, not, ◌&&◌, ◌||◌}
use mathlib.Core.Logic.{◌↔◌}
use Prim.Native.Nat.{ℕ, suc, ◌+◌, ◌*◌, ◌^◌, ◌≤◌, ◌<◌}
use native.Mathlib.Nat.{mul_comm, zero-lt-suc}
use native.Mathlib.Omega.{arith}
use lib.Dec.{T, lit<, ltb, eqb, ltb→lt, le→leb, leb→le, eqb→eq}
use lib.IntN.{ℤ, pos, negsuc, neg_ℤ, ◌+ℤ◌, ◌-ℤ◌, ◌*ℤ◌}
use lib.Signed.{mag, le_z}
use lib.Ieee.{Float, nan, inf, fin, up as raised, down, below, level, le, lt, eq}
use lib.Ieee.Exact.{HasValue}
use lib.Ieee.Fits.{down_pos, and_i, and_l, and_r, eq→eqb}
use lib.Ieee.Scale.{finite}
use borrow.Author.Tests.{ltb-false, not-true}
use Rattle.integers.proofs.Parts.{up, dn, neg_up, neg_dn, le_parts, parts_le}
use Rattle.integers.proofs.Linear.{#, ◌⊕◌, lit, ◌≼◌}
use Rattle.integers.proofs.Tests.{cases, test_le, true_is_not_false, both_true, both_or_neither, not_le_told}
use Rattle.octagon.specs.Cells.{limit}
use Rattle.outline.specs.Places.{over, Exactly}
use Rattle.outline.proofs.Over.{over_exact}
use Rattle.tape.specs.Snapping.{with_sign, edge, within_edges}
use Rattle.tape.proofs.Scales.{scaled_le, unscaled_le, either_order, sign_scaled}

-- two tests of orders that say the same
same_order : (a b c d : ℤ) → (# a ≼ # b → # c ≼ # d) → (# c ≼ # d → # a ≼ # b) → le_z a b ≡ le_z c d
same_order a b c d f g =
    both_or_neither (le_z a b) (le_z c d)
    (λ t. (parts_le c d (f (le_parts {a = a} {b = b} (record { le = t })))).le)
    (λ t. (parts_le a b (g (le_parts {a = c} {b = d} (record { le = t })))).le)

-- ---- a float's `<=`, of numbers with one denominator

either : {X : Type 0} (a b : Bool) → (T a → X) → (T b → X) → T (a || b) → X
either true b f g t = f tt
either false b f g t = g t

-- below or level, of two sizes: `q` tests whether they are equal
at_most : (a b : ℕ) (q : Bool) → (T q → a ≡ b) → (a ≡ b → T q) → T (ltb a b || (q && true)) ↔ (a ≤ b)
at_most a b q f g = (
  either (ltb a b) (q && true) (λ t. let h = ltb→lt a b t in omega arith) (λ t. let h = f (and_l q true t) in omega arith),
  λ h. cases (ltb a b) (λ e. rw e tt) (λ e. let l = ltb-false a b e in rw e (and_i q true (g (omega arith)) tt)),
)

compared : (t : Bool) (a : ℕ) (s : Bool) (b : ℕ) → (below t a s b || level t a s b) ≡ le_z (with_sign t a) (with_sign s b)
unfolding up dn
compared false a false b =
    let m = at_most a b (eqb a b) (eqb→eq a b) eq→eqb in
    both_or_neither (ltb a b || (eqb a b && true)) (le_z (pos a) (pos b)) (λ t. le→leb a b (m.0 t)) (λ t. m.1 (leb→le a b t))
compared false a true b =
    both_or_neither (eqb a b && eqb a 0) (le_z (pos a) (neg_ℤ (pos b)))
    (λ t.
    let p = eqb→eq a b (and_l (eqb a b) (eqb a 0) t) in
    let q = eqb→eq a 0 (and_r (eqb a b) (eqb a 0) t) in
    (parts_le (pos a) (neg_ℤ (pos b)) (omega (arith, neg_up (pos b), neg_dn (pos b)))).le)
    (λ t.
    let h : # (pos a) ≼ # (neg_ℤ (pos b)) = le_parts {a = pos a} {b = neg_ℤ (pos b)} (record { le = t }) in
    let n : dn (neg_ℤ (pos b)) ≡ b = neg_dn (pos b) in
    let z : up (neg_ℤ (pos b)) ≡ 0 = neg_up (pos b) in
    and_i (eqb a b) (eqb a 0) (eq→eqb {a = a} {b = b} (omega arith)) (eq→eqb {a = a} {b = 0} (omega arith)))
compared true a false b =
    both_or_neither (ltb 0 (a + b) || (eqb a b && eqb a 0)) (le_z (neg_ℤ (pos a)) (pos b))
    (λ t. (parts_le (neg_ℤ (pos a)) (pos b) (omega (arith, neg_up (pos a), neg_dn (pos a)))).le)
    (λ t.
    cases (ltb 0 (a + b))
    (λ e. rw e tt)
    (λ e. let l = ltb-false 0 (a + b) e in rw e (and_i (eqb a b) (eqb a 0) (eq→eqb {a = a} {b = b} (omega arith)) (eq→eqb {a = a} {b = 0} (omega arith)))))
compared true a true b =
    let m = at_most b a (eqb a b) (λ t. sym (eqb→eq a b t)) (λ p. eq→eqb (sym p)) in
    let na = neg_dn (pos a) in
    let nb = neg_dn (pos b) in
    let za = neg_up (pos a) in
    let zb = neg_up (pos b) in
    both_or_neither (ltb b a || (eqb a b && true)) (le_z (neg_ℤ (pos a)) (neg_ℤ (pos b)))
    (λ t. let h = m.0 t in (parts_le (neg_ℤ (pos a)) (neg_ℤ (pos b)) (omega arith)).le)
    (λ t. m.1 (let h : # (neg_ℤ (pos a)) ≼ # (neg_ℤ (pos b)) = le_parts {a = neg_ℤ (pos a)} {b = neg_ℤ (pos b)} (record { le = t }) in omega arith))

-- ---- of any numbers: a float that is exactly ±a / d, and one that is ±b / e

-- a / e and b / d are one number: it is at most y / g, with g in place of the other's denominator
le_values : (a y b : ℤ) (g e d : ℕ) → 0 < e → 0 < d → a *ℤ pos d ≡ b *ℤ pos e → le_z (a *ℤ pos g) (y *ℤ pos e) ≡ le_z (b *ℤ pos g) (y *ℤ pos d)
le_values a y b g e d l k q =
    same_order (a *ℤ pos g) (y *ℤ pos e) (b *ℤ pos g) (y *ℤ pos d)
    (λ h. unscaled_le e (b *ℤ pos g) (y *ℤ pos d) l (rw (← turn, either_order y d e) (scaled_le d (a *ℤ pos g) (y *ℤ pos e) h)))
    (λ h. unscaled_le d (a *ℤ pos g) (y *ℤ pos e) k (rw (turn, either_order y e d) (scaled_le e (b *ℤ pos g) (y *ℤ pos d) h)))
  where
    turn : a *ℤ pos g *ℤ pos d ≡ b *ℤ pos g *ℤ pos e
    turn = either_order a g d ∙ ap (λ (z : ℤ). z *ℤ pos g) q ∙ either_order b e g

le_value : (f : Float) (t : Bool) (a d : ℕ) → 0 < d → HasValue f t a d → (s : Bool) (m : ℕ) (x : ℤ) →
    le f (fin s m x) ≡ le_z (with_sign t a *ℤ pos (down x)) (with_sign s (m * raised x) *ℤ pos d)
unfolding le
le_value nan t a d l v s m x = absurd v
le_value (inf u) t a d l v s m x = absurd v
le_value (fin u q y) t a d l v s m x =
    compared u (q * raised y * down x) s (m * raised x * down y)
    ∙ rw (sign_scaled u (q * raised y) (down x), sign_scaled s (m * raised x) (down y)) refl
    ∙ le_values (with_sign u (q * raised y)) (with_sign s (m * raised x)) (with_sign t a) (down x) (down y) d (down_pos y) l
    (rw v.0 (sign_scaled t (q * raised y) d ∙ ap (with_sign t) v.1 ∙ sym (sign_scaled t a (down y))))

le_infinity : (f : Float) (t : Bool) (a d : ℕ) → HasValue f t a d → (s : Bool) → le f (inf s) ≡ not s
unfolding le lt eq
le_infinity nan t a d v s = absurd v
le_infinity (inf u) t a d v s = absurd v
le_infinity (fin u q y) t a d v true = refl
le_infinity (fin u q y) t a d v false = refl

-- an edge is exact, so it is a finite number
record EdgeTests (z : ℤ) : Type 0 where
  with_finite : (s : Bool) (m : ℕ) (x : ℤ) → le (over z 8) (fin s m x) ≡ le_z (z *ℤ pos (down x)) (with_sign s (8 * (m * raised x)))
  with_infinity : (s : Bool) → le (over z 8) (inf s) ≡ not s

edge_tests : (z : ℤ) → mag z < 2 ^ 31 → EdgeTests z
edge_tests z h = by_sign z (over_exact z 3 (omega arith) h)
  where
    eight : (s : Bool) (m : ℕ) (x : ℤ) → with_sign s (m * raised x) *ℤ pos 8 ≡ with_sign s (8 * (m * raised x))
    eight s m x = sign_scaled s (m * raised x) 8 ∙ ap (with_sign s) (mul_comm (m * raised x) 8)

    by_sign : (z : ℤ) → Exactly z 8 (over z 8) → EdgeTests z
    by_sign (pos a) v = record {
      with_finite = λ s m x. le_value (over (pos a) 8) false a 8 (zero-lt-suc 7) v s m x ∙ ap (le_z (pos a *ℤ pos (down x))) (eight s m x);
      with_infinity = le_infinity (over (pos a) 8) false a 8 v;
    }
    by_sign (negsuc a) v = record {
      with_finite = λ s m x. le_value (over (negsuc a) 8) true (suc a) 8 (zero-lt-suc 7) v s m x ∙ ap (le_z (negsuc a *ℤ pos (down x))) (eight s m x);
      with_infinity = le_infinity (over (negsuc a) 8) true (suc a) 8 v;
    }

-- the lower edge of the cell n, compared with a finite coordinate and with an infinity
pub le_edge : (n : ℤ) → mag ((n +ℤ n) -ℤ pos 1) < 2 ^ 31 → (s : Bool) (m : ℕ) (x : ℤ) →
    le (edge n) (fin s m x) ≡ le_z (((n +ℤ n) -ℤ pos 1) *ℤ pos (down x)) (with_sign s (8 * (m * raised x)))
le_edge n h = (edge_tests ((n +ℤ n) -ℤ pos 1) h).with_finite

edge_infinity : (n : ℤ) → mag ((n +ℤ n) -ℤ pos 1) < 2 ^ 31 → (s : Bool) → le (edge n) (inf s) ≡ not s
edge_infinity n h = (edge_tests ((n +ℤ n) -ℤ pos 1) h).with_infinity

-- no number compares with an edge
edge_nan : (n : ℤ) → le (edge n) nan ≡ false
unfolding le lt eq
edge_nan n = go (edge n)
  where
    go : (f : Float) → le f nan ≡ false
    go nan = refl
    go (inf s) = refl
    go (fin s m x) = refl

-- ---- a coordinate in one of the map's cells

-- the map's first cell, and the one past its last
abbrev pub first : ℤ
first = neg_ℤ (pos limit)

abbrev pub past : ℤ
past = pos (limit + 1)

pub between_finite : (e : Float) → within_edges e ≡ true → T (finite e)
between_finite nan h = absurd (true_is_not_false (sym h ∙ rw (edge_nan first) refl))
between_finite (inf true) h = absurd (true_is_not_false (sym h ∙ rw (edge_infinity first (lit< tt) true) refl))
between_finite (inf false) h = absurd (true_is_not_false (sym h ∙ rw (edge_infinity first (lit< tt) false, edge_infinity past (lit< tt) false) refl))
between_finite (fin s m x) h = tt

-- the two tests, as orders
pub record Between (s : Bool) (m : ℕ) (x : ℤ) : Type 0 where
  pub reached : # (((first +ℤ first) -ℤ pos 1) *ℤ pos (down x)) ≼ # (with_sign s (8 * (m * raised x)))
  pub passed : # (with_sign s (8 * (m * raised x))) ⊕ lit 1 ≼ # (((past +ℤ past) -ℤ pos 1) *ℤ pos (down x))

pub between : (s : Bool) (m : ℕ) (x : ℤ) → within_edges (fin s m x) ≡ true → Between s m x
between s m x h =
    let w = with_sign s (8 * (m * raised x)) in
    let p = both_true (le (edge first) (fin s m x)) (not (le (edge past) (fin s m x))) h in
    record {
      reached = test_le (((first +ℤ first) -ℤ pos 1) *ℤ pos (down x)) w (sym (le_edge first (lit< tt) s m x) ∙ p.0);
      passed = not_le_told (((past +ℤ past) -ℤ pos 1) *ℤ pos (down x)) w (sym (le_edge past (lit< tt) s m x) ∙ not-true (le (edge past) (fin s m x)) p.1);
    }

-- so it is at most that many eighths of a metre from the middle
pub between_bound : (s : Bool) (m : ℕ) (x : ℤ) → within_edges (fin s m x) ≡ true → 8 * (m * raised x) ≤ (limit + limit + 1) * down x
unfolding up dn
between_bound true m x h =
    let b = (between true m x h).reached in
    omega (
      arith,
      neg_up (pos (8 * (m * raised x))),
      neg_dn (pos (8 * (m * raised x))),
      neg_up (pos ((limit + limit + 1) * down x)),
      neg_dn (pos ((limit + limit + 1) * down x)),
    )
between_bound false m x h = let b = (between false m x h).passed in omega arith
