-- Laws of the number of cells that pass a test, for any tests: equal tests, a stricter test, either and both, the cells lost,
-- disjoint tests, and a larger square. Assumes nothing.
use mathlib.Core.Path.{◌≡◌, refl, sym, ◌∙◌, ap}
use mathlib.Core.Bool.{Bool, true, false, not, ◌&&◌, ◌||◌}
use Prim.Native.Nat.{ℕ, ◌+◌, ◌-◌, ◌*◌, ◌<◌, ◌≤◌}
use native.Mathlib.Omega.{arith}
use lib.IntN.{ℤ, pos}
use Rattle.integers.proofs.Parts.{up, dn, diff_parts, neg_up, neg_dn, le_parts, parts_eq}
use Rattle.integers.proofs.Linear.{#, ◌⊕◌, neg, lit, ◌≼◌, ◌≈◌}
use Rattle.integers.proofs.Tests.{cases}
use Rattle.cell_count.specs.Count.{Test, either, both, without, sum, one, at, row, count}
use Rattle.octagon.specs.Cells.{Square}
use Rattle.cell_count.proofs.Sums.{sum_ext, sum_le, sum_add, sum_zero, sum_term, sum_window}

-- the integer at a place, as a linear fact
pub at_parts : (r i : ℕ) → # (at r i) ≈ lit i ⊕ neg (lit r)
unfolding at up dn
at_parts r i = omega (arith, diff_parts (pos i) (pos r))

-- ---- tests of the same square

-- equal tests have equal counts
pub count_same : (r : ℕ) {p q : Test} → ((x y : ℤ) → p x y ≡ q x y) → count r p ≡ count r q
unfolding count row
count_same r h = sum_ext (2 * r + 1) (λ j _. sum_ext (2 * r + 1) (λ i _. ap one (h (at r i) (at r j))))

-- a set's count is at most that of a set that holds it
pub count_most : (r : ℕ) {p q : Test} → ((x y : ℤ) → p x y ≡ true → q x y ≡ true) → count r p ≤ count r q
unfolding count row one
count_most r {p} {q} h =
    sum_le (2 * r + 1) (λ j _. sum_le (2 * r + 1) (λ i _. go (p (at r i) (at r j)) (q (at r i) (at r j)) (h (at r i) (at r j))))
  where
    go : (a b : Bool) → (a ≡ true → b ≡ true) → one a ≤ one b
    go false b k = omega arith
    go true b k = omega (arith, ap one (k refl))

-- no cell passes
pub count_none : (r : ℕ) → count r (λ x y. false) ≡ 0
unfolding count row one
count_none r = sum_zero (2 * r + 1) (λ j _. sum_zero (2 * r + 1) (λ i _. refl))

-- two counts, added cell by cell
added : (r : ℕ) (p q : Test) →
    count r p + count r q ≡ sum (2 * r + 1) (λ j. sum (2 * r + 1) (λ i. one (p (at r i) (at r j)) + one (q (at r i) (at r j))))
unfolding count row
added r p q =
    sym (sum_add n (λ j. row r (λ x. p x (at r j))) (λ j. row r (λ x. q x (at r j))))
    ∙ sum_ext n (λ j _. sym (sum_add n (λ i. one (p (at r i) (at r j))) (λ i. one (q (at r i) (at r j)))))
  where
    n : ℕ
    n = 2 * r + 1

-- what holds of two numbers at each cell holds of two counts
pub count_add : (r : ℕ) (p q s t : Test) → ((x y : ℤ) → one (p x y) + one (q x y) ≡ one (s x y) + one (t x y)) →
    count r p + count r q ≡ count r s + count r t
count_add r p q s t e =
    added r p q ∙ sum_ext (2 * r + 1) (λ j _. sum_ext (2 * r + 1) (λ i _. e (at r i) (at r j))) ∙ sym (added r s t)

-- union: the cells of either and those of both are the cells of the two
pub count_either : (r : ℕ) (p q : Test) → count r (either p q) + count r (both p q) ≡ count r p + count r q
unfolding one
count_either r p q = count_add r (either p q) (both p q) p q (λ x y. go (p x y) (q x y))
  where
    go : (a b : Bool) → one (a || b) + one (a && b) ≡ one a + one b
    go true true = refl
    go true false = refl
    go false true = refl
    go false false = refl

-- disjoint union: where no cell passes both tests, the counts add up
pub count_disjoint : (r : ℕ) (p q : Test) → ((x y : ℤ) → both p q x y ≡ false) → count r (either p q) ≡ count r p + count r q
count_disjoint r p q h = omega (arith, count_either r p q, count_none r, count_same r {p = both p q} {q = λ x y. false} h)

-- difference: the cells of one set are those that the other lacks and those of both
pub count_without : (r : ℕ) (p q : Test) → count r (without p q) + count r (both p q) ≡ count r p
unfolding one
count_without r p q =
    omega (
      arith,
      count_none r,
      count_add r (without p q) (both p q) p (λ x y. false) (λ x y. go (p x y) (q x y)),
    )
  where
    go : (a b : Bool) → one (a && not b) + one (a && b) ≡ one a + one false
    go true true = refl
    go true false = refl
    go false true = refl
    go false false = refl

-- the cells lost: a subset's count taken away from the whole's is the count of the cells that the subset lacks
pub count_lost : (r : ℕ) (p q : Test) → ((x y : ℤ) → q x y ≡ true → p x y ≡ true) → count r (without p q) + count r q ≡ count r p
count_lost r p q h = omega (arith, count_without r p q, count_same r {p = both p q} {q = q} (λ x y. go (p x y) (q x y) (h x y)))
  where
    go : (a b : Bool) → (b ≡ true → a ≡ true) → (a && b) ≡ b
    go a true k = rw (k refl)
    go true false k = refl
    go false false k = refl

-- ---- squares

-- x is one of the integers from -r to r
record Near (r : ℕ) (x : ℤ) : Type 0 where
  low : neg (lit r) ≼ # x
  high : # x ≼ lit r

near_both : {r : ℕ} {x y : ℤ} → Square r x y → Near r x × Near r y
unfolding up dn
near_both {r} {x} {y} s = omega (arith, le_parts, neg_up (pos r), neg_dn (pos r))

-- the place of an integer from -r to r
place : (r : ℕ) (x : ℤ) → Near r x → (i : ℕ) × (i < 2 * r + 1) × (at r i ≡ x)
place r x n =
    let i : ℕ = (up x + r) - dn x in
    (i, omega arith, parts_eq (at r i) x (omega (arith, at_parts r i)))

-- a test that some cell of the square passes counts one at least
pub count_some : (r : ℕ) (p : Test) (x y : ℤ) → Square r x y → p x y ≡ true → 1 ≤ count r p
unfolding count row one
count_some r p x y s e =
    let i = place r x (near_both s).0 in
    let j = place r y (near_both s).1 in
    go i.0 j.0 i.1 j.1 (rw (i.2, j.2) e)
  where
    n : ℕ
    n = 2 * r + 1

    go : (i j : ℕ) → i < n → j < n → p (at r i) (at r j) ≡ true → 1 ≤ sum n (λ k. row r (λ u. p u (at r k)))
    go i j h k t = omega (arith, sum_term n j (λ k. row r (λ u. p u (at r k))) k, sum_term n i (λ k. one (p (at r k) (at r j))) h, ap one t)

-- a test that only cells of the square of radius r pass has the same count in every larger square
pub count_wider : (r s : ℕ) (p : Test) → r ≤ s → ((x y : ℤ) → p x y ≡ true → Square r x y) → count s p ≡ count r p
unfolding count row one
count_wider r s p h in_square =
    sum_window (2 * s + 1) d (2 * r + 1) (λ j. row s (λ x. p x (at s j))) (omega arith)
    (λ j k. empty j (λ g. omega (arith, at_parts s j))) (λ j k. empty j (λ g. omega (arith, at_parts s j)))
    ∙ sum_ext (2 * r + 1) (λ j _. narrow j)
  where
    d : ℕ
    d = s - r

    -- place i of the row of radius r is place d + i of that of radius s
    same : (i : ℕ) → at s (d + i) ≡ at r i
    same i = parts_eq (at s (d + i)) (at r i) (omega (arith, at_parts s (d + i), at_parts r i))

    out : (i j : ℕ) → (Near r (at s i) × Near r (at s j) → ⊥) → p (at s i) (at s j) ≡ false
    out i j g = cases (p (at s i) (at s j)) (λ e. absurd (g (near_both (in_square (at s i) (at s j) e)))) (λ e. e)

    empty : (j : ℕ) → (Near r (at s j) → ⊥) → row s (λ x. p x (at s j)) ≡ 0
    empty j g = sum_zero (2 * s + 1) (λ i _. ap one (out i j (λ n. g n.1)))

    narrow : (j : ℕ) → row s (λ x. p x (at s (d + j))) ≡ row r (λ x. p x (at r j))
    narrow j =
        sum_window (2 * s + 1) d (2 * r + 1) (λ i. one (p (at s i) (at s (d + j)))) (omega arith)
        (λ i k. ap one (out i (d + j) (λ g. omega (arith, at_parts s i)))) (λ i k. ap one (out i (d + j) (λ g. omega (arith, at_parts s i))))
        ∙ sum_ext (2 * r + 1) (λ i _. simp (same i, same j))
