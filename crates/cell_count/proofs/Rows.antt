-- A rectangle with four triangles cut off, row by row, in natural numbers: the cells left of each row stand side by side,
-- and all rows with the four triangles are the rectangle. Assumes nothing.
use mathlib.Core.Path.{◌≡◌}
use mathlib.Core.Bool.{Bool, true}
use Prim.Native.Nat.{ℕ, suc, ◌+◌, ◌-◌, ◌*◌, ◌<◌, ◌≤◌}
use native.Mathlib.Omega.{arith}
use Rattle.cell_count.specs.Count.{sum, one}
use Rattle.cell_count.specs.Area.{triangle}
use Rattle.cell_count.proofs.Sums.{sum_ext, sum_add, sum_const, sum_run}
use Rattle.cell_count.proofs.Triangles.{falling, rising}

-- where the rectangle starts in the square, its width and height, and the lengths of its diagonal sides
pub record Plan : Type 0 where
  pub left : ℕ
  pub low : ℕ
  pub w : ℕ
  pub h : ℕ
  pub n1 : ℕ
  pub n3 : ℕ
  pub n5 : ℕ
  pub n7 : ℕ

-- the cuts do not meet
pub record Apart (z : Plan) : Type 0 where
  pub a13 : z.n3 + z.n1 < z.h
  pub a57 : z.n5 + z.n7 < z.h
  pub a17 : z.n1 + z.n7 < z.w
  pub a35 : z.n3 + z.n5 < z.w

-- place i of the square's row is a cell of row j of the rectangle, which has k rows above it
pub record Cell (z : Plan) (i j k : ℕ) : Type 0 where
  pub l6 : z.left ≤ i
  pub l7 : z.left + z.n7 ≤ i + j
  pub l5 : z.left + z.n5 ≤ i + k
  pub u2 : i < z.left + z.w
  pub u1 : i + z.n1 < z.left + z.w + j
  pub u3 : i + z.n3 < z.left + z.w + k

-- ---- one row

-- what an upper and a lower cut take of a row's end: one of the two takes nothing, so the sum is the greater
abbrev pub taken : ℕ → ℕ → ℕ → ℕ → ℕ
taken upper lower j k = (upper - k) + (lower - j)

taken_least : (a b j k m : ℕ) → a + b ≤ j + k → a ≤ k + m → b ≤ j + m → taken a b j k ≤ m
taken_least a b j k m h p q = omega arith

taken_upper : (a b j k : ℕ) → a ≤ k + taken a b j k
taken_upper a b j k = omega arith

taken_lower : (a b j k : ℕ) → b ≤ j + taken a b j k
taken_lower a b j k = omega arith

module _ (z : Plan) (a : Apart z) (j k : ℕ) (e : suc (j + k) ≡ z.h) where
  room : taken z.n5 z.n7 j k + taken z.n3 z.n1 j k ≤ z.w
  room = omega arith

  below : (i : ℕ) → Cell z i j k → taken z.n5 z.n7 j k ≤ i - z.left
  below i c = taken_least z.n5 z.n7 j k (i - z.left) (omega arith) (omega arith) (omega arith)

  above : (i : ℕ) → Cell z i j k → taken z.n3 z.n1 j k ≤ (z.left + z.w) - suc i
  above i c = taken_least z.n3 z.n1 j k ((z.left + z.w) - suc i) (omega arith) (omega arith) (omega arith)

  -- the cells of a row, with those that the cuts take, are the width
  pub row_cells : (n : ℕ) (t : ℕ → Bool) → z.left + z.w ≤ n → ((i : ℕ) → Cell z i j k → t i ≡ true) → ((i : ℕ) → t i ≡ true → Cell z i j k) →
      sum n (λ i. one (t i)) + (taken z.n5 z.n7 j k + taken z.n3 z.n1 j k) ≡ z.w
  row_cells n t h f g =
      go (taken z.n5 z.n7 j k) (taken z.n3 z.n1 j k) room below above
      (taken_upper z.n5 z.n7 j k) (taken_lower z.n5 z.n7 j k) (taken_upper z.n3 z.n1 j k) (taken_lower z.n3 z.n1 j k)
    where
      go : (l u : ℕ) → l + u ≤ z.w → ((i : ℕ) → Cell z i j k → l ≤ i - z.left) → ((i : ℕ) → Cell z i j k → u ≤ (z.left + z.w) - suc i) →
          z.n5 ≤ k + l → z.n7 ≤ j + l → z.n3 ≤ k + u → z.n1 ≤ j + u → sum n (λ i. one (t i)) + (l + u) ≡ z.w
      go l u s p q h5 h7 h3 h1 =
          let m : ℕ = z.w - (l + u) in
          omega (
            arith,
            sum_run n (z.left + l) m t (omega arith) (λ i b d. f i (omega arith))
                (λ i y. let c = g i y in omega (arith, p i c, q i c)),
          )

-- ---- all rows

-- the cells of the four cuts
abbrev pub cut_off : Plan → ℕ
cut_off z = triangle z.n1 + triangle z.n3 + (triangle z.n5 + triangle z.n7)

module _ (z : Plan) (a : Apart z) (line : ℕ → ℕ)
    (is : (j k : ℕ) → suc (j + k) ≡ z.h → line j + (taken z.n5 z.n7 j k + taken z.n3 z.n1 j k) ≡ z.w) where
  -- the rows, with the four cuts, are the rectangle
  pub all_rows : sum z.h line + cut_off z ≡ z.h * z.w
  all_rows =
      let h : ℕ = z.h in
      let up5 : ℕ → ℕ = λ j. z.n5 - (h - suc j) in
      let dn7 : ℕ → ℕ = λ j. z.n7 - j in
      let up3 : ℕ → ℕ = λ j. z.n3 - (h - suc j) in
      let dn1 : ℕ → ℕ = λ j. z.n1 - j in
      omega (
        arith,
        sum_const h z.w,
        sum_ext h {f = λ j. line j + ((up5 j + dn7 j) + (up3 j + dn1 j))} {g = λ j. z.w} (λ j q. is j (h - suc j) (omega arith)),
        sum_add h line (λ j. (up5 j + dn7 j) + (up3 j + dn1 j)),
        sum_add h (λ j. up5 j + dn7 j) (λ j. up3 j + dn1 j),
        sum_add h up5 dn7,
        sum_add h up3 dn1,
        rising z.n5 h (omega arith),
        rising z.n3 h (omega arith),
        falling z.n7 h (omega arith),
        falling z.n1 h (omega arith),
      )
