-- Laws of openings on sets of cells: an opening lies in its set, by one fold and by n; an element dilated by another opens no more than it
-- does alone, and more folds no more than fewer. Assumes nothing.
use Prim.Native.Nat.{ℕ, zero, suc, ◌+◌}
use Rattle.octagon.specs.Cells.{Cells, ◌⊆◌, ◌≐◌}
use Rattle.morphology.specs.Sets.{Dilated, Eroded, Opened, DilatedTimes, ErodedTimes, OpenedTimes}
use Rattle.morphology.proofs.SetLaws.{same_refl, same_sym, same_trans, dilated_mono, dilated_same, dilated_times_same, dilated_times_add, dilated_assoc, dilated_times_once, swap, past_one, past, eroded_twice, eroded_times_add, eroded_times_once, adjunction}

-- ---- inside the set

pub opened_inside : (A B : Cells) → Opened A B ⊆ A
opened_inside A B = (adjunction (Eroded A B) A B).1 (λ x y i. i)

dilated_times_mono : (n : ℕ) {A C : Cells} (B : Cells) → A ⊆ C → DilatedTimes n A B ⊆ DilatedTimes n C B
dilated_times_mono zero B h = h
dilated_times_mono (suc n) {A} {C} B h =
    dilated_mono {A = DilatedTimes n A B} {B = B} {C = DilatedTimes n C B} {D = B} (dilated_times_mono n {A = A} {C = C} B h) (λ x y i. i)

-- n folds: the last erosion and the first dilation are an opening of what n - 1 erosions left
pub opened_times_inside : (n : ℕ) (A B : Cells) → OpenedTimes n A B ⊆ A
opened_times_inside zero A B x y i = i
opened_times_inside (suc n) A B x y i =
    let e = ErodedTimes n A B in
    opened_times_inside n A B x y
    (dilated_times_mono n {A = Opened e B} {C = e} B (opened_inside e B) x y ((past_one (Eroded e B) B B n x y).1 i))

-- ---- opened by more

-- a set opened by B dilated by C lies inside the set opened by B
pub opened_by_dilated : (A B C : Cells) → Opened A (Dilated B C) ⊆ Opened A B
opened_by_dilated A B C x y i =
    let e = Eroded A (Dilated B C) in
    dilated_mono {A = Dilated e C} {B = B} {C = Eroded A B} {D = B}
    ((adjunction e (Eroded A B) C).1 (λ v w. (eroded_twice A B C v w).1)) (λ v w j. j) x y
    ((swap e B C x y).0 ((dilated_assoc e B C x y).0 i))

-- a set opened by m + n folds lies inside the set opened by m
pub opened_times_more : (m n : ℕ) (A B : Cells) → OpenedTimes (m + n) A B ⊆ OpenedTimes m A B
opened_times_more m n A B x y i =
    let e = ErodedTimes m A B in
    let l = ErodedTimes n e B in
    dilated_times_mono m {A = OpenedTimes n e B} {C = e} B (opened_times_inside n e B) x y
    ((past l B B n m x y).0
    ((dilated_times_add m n l B x y).1 ((dilated_times_same (m + n) (same_sym (eroded_times_add m n A B)) (same_refl B) x y).0 i)))

-- n + 1 folds open what the element dilated by itself n times opens
pub opened_times_once : (n : ℕ) (A B : Cells) → OpenedTimes (suc n) A B ≐ Opened A (DilatedTimes n B B)
opened_times_once n A B =
    same_trans (dilated_times_once n (ErodedTimes (suc n) A B) B) (dilated_same (eroded_times_once n A B) (same_refl (DilatedTimes n B B)))
