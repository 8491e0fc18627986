-- Laws of dilation and erosion on sets of cells. Assumes nothing.
use mathlib.Core.Path.{◌≡◌, refl}
use mathlib.Core.Logic.{◌↔◌}
use Prim.Native.Nat.{ℕ, zero, suc, ◌+◌}
use native.Mathlib.Nat.{add-zero, add-suc}
use lib.IntN.{ℤ, ◌+ℤ◌, +ℤ_assoc, +ℤ_comm}
use Rattle.octagon.specs.Cells.{Cells, ◌⊆◌, ◌≐◌, Empty, Some, LeavesMap}
use Rattle.morphology.specs.Sets.{Dilated, Eroded, DilatedTimes, ErodedTimes}

-- ---- sets with the same cells

pub same_refl : (A : Cells) → A ≐ A
same_refl A x y = (λ a. a, λ a. a)

pub same_sym : {A B : Cells} → A ≐ B → B ≐ A
same_sym e x y = ((e x y).1, (e x y).0)

pub same_trans : {A B C : Cells} → A ≐ B → B ≐ C → A ≐ C
same_trans e f x y = (λ a. (f x y).0 ((e x y).0 a), λ c. (e x y).1 ((f x y).1 c))

pub same_empty : {A B : Cells} → A ≐ B → Empty A → Empty B
same_empty e h x y b = h x y ((e x y).1 b)

-- a set with a cell is not empty
pub some_there : {A : Cells} → Some A → ¬ (Empty A)
some_there s h = h s.x s.y s.cell

unfoldable pub same_some : {A B : Cells} → A ≐ B → Some A → Some B
same_some e s = record { x = s.x; y = s.y; cell = (e s.x s.y).0 s.cell }

pub leaves_same : {A B : Cells} → A ≐ B → LeavesMap A → LeavesMap B
leaves_same e l = record { x = l.x; y = l.y; cell = ((e l.x l.y).0 l.cell.0, l.cell.1) }

-- ---- larger sets

pub dilated_mono : {A B C D : Cells} → A ⊆ C → B ⊆ D → Dilated A B ⊆ Dilated C D
dilated_mono f g x y d = record {
  ax = d.ax;
  ay = d.ay;
  bx = d.bx;
  by = d.by;
  of_a = f d.ax d.ay d.of_a;
  of_b = g d.bx d.by d.of_b;
  sum_x = d.sum_x;
  sum_y = d.sum_y;
}

pub eroded_mono : {A B C D : Cells} → A ⊆ C → D ⊆ B → Eroded A B ⊆ Eroded C D
eroded_mono f g x y e v w d = f (x +ℤ v) (y +ℤ w) (e v w (g v w d))

pub dilated_same : {A B C D : Cells} → A ≐ C → B ≐ D → Dilated A B ≐ Dilated C D
dilated_same {A} {B} {C} {D} e f x y = (
  dilated_mono {A = A} {B = B} {C = C} {D = D} (λ x y. (e x y).0) (λ x y. (f x y).0) x y,
  dilated_mono {A = C} {B = D} {C = A} {D = B} (λ x y. (e x y).1) (λ x y. (f x y).1) x y,
)

pub eroded_same : {A B C D : Cells} → A ≐ C → B ≐ D → Eroded A B ≐ Eroded C D
eroded_same {A} {B} {C} {D} e f x y = (
  eroded_mono {A = A} {B = B} {C = C} {D = D} (λ x y. (e x y).0) (λ x y. (f x y).1) x y,
  eroded_mono {A = C} {B = D} {C = A} {D = B} (λ x y. (e x y).1) (λ x y. (f x y).0) x y,
)

pub dilated_times_same : (n : ℕ) {A B C D : Cells} → A ≐ C → B ≐ D → DilatedTimes n A B ≐ DilatedTimes n C D
dilated_times_same zero e f = e
dilated_times_same (suc n) e f = dilated_same (dilated_times_same n e f) f

pub eroded_times_same : (n : ℕ) {A B C D : Cells} → A ≐ C → B ≐ D → ErodedTimes n A B ≐ ErodedTimes n C D
eroded_times_same zero e f = e
eroded_times_same (suc n) e f = eroded_same (eroded_times_same n e f) f

-- ---- folds add up

pub dilated_times_add : (m n : ℕ) (A B : Cells) → DilatedTimes n (DilatedTimes m A B) B ≐ DilatedTimes (m + n) A B
dilated_times_add m zero A B = rw (add-zero m) (same_refl (DilatedTimes m A B))
dilated_times_add m (suc n) A B = rw (add-suc m n) (dilated_same (dilated_times_add m n A B) (same_refl B))

pub eroded_times_add : (m n : ℕ) (A B : Cells) → ErodedTimes n (ErodedTimes m A B) B ≐ ErodedTimes (m + n) A B
eroded_times_add m zero A B = rw (add-zero m) (same_refl (ErodedTimes m A B))
eroded_times_add m (suc n) A B = rw (add-suc m n) (eroded_same (eroded_times_add m n A B) (same_refl B))

-- ---- the two operations together

-- dilation does not depend on the order
pub dilated_comm : (A B : Cells) → Dilated A B ≐ Dilated B A
dilated_comm A B x y = (turn A B, turn B A)
  where
    turn : (A B : Cells) → Dilated A B x y → Dilated B A x y
    turn A B d = record {
      ax = d.bx;
      ay = d.by;
      bx = d.ax;
      by = d.ay;
      of_a = d.of_b;
      of_b = d.of_a;
      sum_x = rw (+ℤ_comm d.bx d.ax) d.sum_x;
      sum_y = rw (+ℤ_comm d.by d.ay) d.sum_y;
    }

-- nor does dilation by two sets, one after the other
swapped : (A B C : Cells) → Dilated (Dilated A B) C ⊆ Dilated (Dilated A C) B
swapped A B C x y s =
    let t = s.of_a in
    record {
      ax = t.ax +ℤ s.bx;
      ay = t.ay +ℤ s.by;
      bx = t.bx;
      by = t.by;
      of_a = record { ax = t.ax; ay = t.ay; bx = s.bx; by = s.by; of_a = t.of_a; of_b = s.of_b; sum_x = refl; sum_y = refl };
      of_b = t.of_b;
      sum_x = turned t.ax t.bx s.ax s.bx x t.sum_x s.sum_x;
      sum_y = turned t.ay t.by s.ay s.by y t.sum_y s.sum_y;
    }
  where
    turned : (a b c d x : ℤ) → a +ℤ b ≡ c → c +ℤ d ≡ x → (a +ℤ d) +ℤ b ≡ x
    turned a b c d x h k = rw (+ℤ_assoc a d b, +ℤ_comm d b, ← +ℤ_assoc a b d, h) k

pub swap : (A B C : Cells) → Dilated (Dilated A B) C ≐ Dilated (Dilated A C) B
swap A B C x y = (swapped A B C x y, swapped A C B x y)

-- nor on how two dilations are grouped
pub dilated_assoc : (A B C : Cells) → Dilated A (Dilated B C) ≐ Dilated (Dilated A B) C
dilated_assoc A B C =
    same_trans (dilated_comm A (Dilated B C)) (same_trans (swap B C A) (dilated_same (dilated_comm B A) (same_refl C)))

-- so a dilation can be made before k folds or after them, and so can m folds
pub past_one : (A B C : Cells) (k : ℕ) → DilatedTimes k (Dilated A C) B ≐ Dilated (DilatedTimes k A B) C
past_one A B C zero = same_refl (Dilated A C)
past_one A B C (suc k) = same_trans (dilated_same (past_one A B C k) (same_refl B)) (swap (DilatedTimes k A B) C B)

pub past : (A B C : Cells) (k m : ℕ) → DilatedTimes k (DilatedTimes m A C) B ≐ DilatedTimes m (DilatedTimes k A B) C
past A B C k zero = same_refl (DilatedTimes k A B)
past A B C k (suc m) = same_trans (past_one (DilatedTimes m A C) B C k) (dilated_same (past A B C k m) (same_refl C))

-- n + 1 folds are one dilation by the element dilated by itself n times
pub dilated_times_once : (n : ℕ) (A B : Cells) → DilatedTimes (suc n) A B ≐ Dilated A (DilatedTimes n B B)
dilated_times_once zero A B = same_refl (Dilated A B)
dilated_times_once (suc n) A B =
    same_trans (dilated_same (dilated_times_once n A B) (same_refl B)) (same_sym (dilated_assoc A (DilatedTimes n B B) B))

-- x + (v + w) as a sum of x + w and v
regroup : (x v w : ℤ) → (x +ℤ w) +ℤ v ≡ x +ℤ (v +ℤ w)
regroup x v w = rw (+ℤ_assoc x w v, +ℤ_comm w v) refl

-- eroding twice is eroding once by the dilation of the two
pub eroded_twice : (A B C : Cells) → Eroded (Eroded A B) C ≐ Eroded A (Dilated B C)
eroded_twice A B C x y = (to, from)
  where
    to : Eroded (Eroded A B) C x y → Eroded A (Dilated B C) x y
    to e v w d =
        rw (← d.sum_x, ← d.sum_y, ← regroup x d.ax d.bx, ← regroup y d.ay d.by)
        (e d.bx d.by d.of_b d.ax d.ay d.of_a)

    from : Eroded A (Dilated B C) x y → Eroded (Eroded A B) C x y
    from e v w c p q b =
        rw (regroup x p v, regroup y q w)
        (e (p +ℤ v) (q +ℤ w) (record { ax = p; ay = q; bx = v; by = w; of_a = b; of_b = c; sum_x = refl; sum_y = refl }))

-- and so are n + 1 folds
pub eroded_times_once : (n : ℕ) (A B : Cells) → ErodedTimes (suc n) A B ≐ Eroded A (DilatedTimes n B B)
eroded_times_once zero A B = same_refl (Eroded A B)
eroded_times_once (suc n) A B = same_trans (eroded_same (eroded_times_once n A B) (same_refl B)) (eroded_twice A (DilatedTimes n B B) B)

-- the dilation of X by B lies in A exactly where X lies in the erosion of A by B
pub adjunction : (X A B : Cells) → (Dilated X B ⊆ A) ↔ (X ⊆ Eroded A B)
adjunction X A B = (to, from)
  where
    to : Dilated X B ⊆ A → X ⊆ Eroded A B
    to h x y i v w b = h (x +ℤ v) (y +ℤ w) (record { ax = x; ay = y; bx = v; by = w; of_a = i; of_b = b; sum_x = refl; sum_y = refl })

    from : X ⊆ Eroded A B → Dilated X B ⊆ A
    from h x y d = rw (← d.sum_x, ← d.sum_y) (h d.ax d.ay d.of_a d.bx d.by d.of_b)

-- so erosions by two sets may be made in either order, and by one of them k times and the other m times
pub eroded_swap : (A B C : Cells) → Eroded (Eroded A B) C ≐ Eroded (Eroded A C) B
eroded_swap A B C =
    same_trans (eroded_twice A B C) (same_trans (eroded_same (same_refl A) (dilated_comm B C)) (same_sym (eroded_twice A C B)))

eroded_past_one : (A B C : Cells) (k : ℕ) → ErodedTimes k (Eroded A C) B ≐ Eroded (ErodedTimes k A B) C
eroded_past_one A B C zero = same_refl (Eroded A C)
eroded_past_one A B C (suc k) = same_trans (eroded_same (eroded_past_one A B C k) (same_refl B)) (eroded_swap (ErodedTimes k A B) C B)

pub eroded_past : (A B C : Cells) (k m : ℕ) → ErodedTimes k (ErodedTimes m A C) B ≐ ErodedTimes m (ErodedTimes k A B) C
eroded_past A B C k zero = same_refl (ErodedTimes k A B)
eroded_past A B C k (suc m) = same_trans (eroded_past_one (ErodedTimes m A C) B C k) (eroded_same (eroded_past A B C k m) (same_refl C))

-- what is left of nothing is nothing, after one fold and after n
pub eroded_empty : {A B : Cells} → Empty A → ¬ (Empty B) → Empty (Eroded A B)
eroded_empty h s x y e = s (λ v w b. h (x +ℤ v) (y +ℤ w) (e v w b))

pub eroded_times_empty : (n : ℕ) {A B : Cells} → Empty A → ¬ (Empty B) → Empty (ErodedTimes n A B)
eroded_times_empty zero h s = h
eroded_times_empty (suc n) h s = eroded_empty (eroded_times_empty n h s) s
