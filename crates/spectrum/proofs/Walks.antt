-- What a walk is, entry by entry: its last step, each step before it, and `WalkOf` of the whole. Assumes nothing.
use mathlib.Core.Path.{◌≡◌, refl, sym, ◌∙◌, ap, fun_ext}
use mathlib.Core.List.{◌∷◌}
use Prim.Native.Nat.{ℕ, zero, suc, ◌+◌, ◌-◌, ◌<◌, ◌≤◌}
use native.Mathlib.Omega.{arith}
use native.Mathlib.Nat.{add-zero}
use borrow.Author.Tests.{eqb-true, eqb-false, eq-eqb, ne_eqb}
use lib.Dec.{eqb}
use lib.ListN.{length, get_or}
use Rattle.integers.proofs.Tests.{cases, true_is_not_false}
use Rattle.spectrum.specs.Walks.{Walk, finished, trimmed, entered, walk, WalkOf}

-- ---- one step

module _ (cells : ℕ → ℕ) (places n still : ℕ) where
  -- nothing is open after it
  pub walk_last : cells (suc n) ≡ 0 → walk cells (suc places) n still ≡ trimmed cells (suc n) (λ now. entered (still - now) finished)
  unfolding walk
  walk_last e = rw (eq-eqb (cells (suc n)) 0 e) refl

  -- something is, and the walk goes on
  pub walk_more : 1 ≤ cells (suc n) →
      walk cells (suc places) n still ≡ trimmed cells (suc n) (λ now. entered (still - now) (walk cells places (suc n) now))
  unfolding walk
  walk_more h = rw (ne_eqb (cells (suc n)) 0 (λ e. omega arith)) refl

-- a walk has no more entries than places
pub walk_fits : (cells : ℕ → ℕ) (places n still : ℕ) → length (walk cells places n still).entries ≤ places
unfolding walk
walk_fits cells zero n still = omega arith
walk_fits cells (suc places) n still =
    cases (eqb (cells (suc n)) 0) (λ t. rw t (omega arith)) (λ t. rw t (omega (arith, walk_fits cells places (suc n) (cells (suc n)))))

-- it is told by how many cells each number of folds opens
pub walk_same : (f g : ℕ → ℕ) → ((n : ℕ) → f n ≡ g n) → (places n still : ℕ) → walk f places n still ≡ walk g places n still
walk_same f g h places n still = ap (λ cells. walk cells places n still) (fun_ext h)

-- ---- the whole

-- a step before a walk w: g has the cells open before the step, after it, and so on
stepped : (g : ℕ → ℕ) (places : ℕ) (w : Walk) → 1 ≤ g 0 → WalkOf (λ i. g (suc i)) places w →
    WalkOf g (suc places) (record { entries = (g 0 - g 1) ∷ w.entries; trims = suc w.trims; is_finished = w.is_finished })
stepped g places w l t = record {
  one_each = ap suc t.one_each;
  within = omega (arith, t.within);
  lost = lost;
  due = due;
  left_nothing = t.left_nothing;
  left_some = λ q. (ap suc (t.left_some q).0, (t.left_some q).1);
}
  where
    lost : (n : ℕ) → n < suc w.trims → get_or ((g 0 - g 1) ∷ w.entries) n 0 ≡ g n - g (suc n)
    lost zero h = refl
    lost (suc n) h = t.lost n (omega arith)

    due : (n : ℕ) → n < suc w.trims → 1 ≤ g n
    due zero h = l
    due (suc n) h = t.due n (omega arith)

-- no step
stopped : (g : ℕ → ℕ) → g 0 ≡ 0 → (places : ℕ) → WalkOf g places finished
stopped g e places = record {
  one_each = refl;
  within = omega arith;
  lost = λ n h. absurd (omega arith);
  due = λ n h. absurd (omega arith);
  left_nothing = λ _. e;
  left_some = λ q. absurd (true_is_not_false q);
}

-- a walk from n folds on, with g for what is open by n folds, n + 1, and so on
walk_of_from : (cells : ℕ → ℕ) (places n : ℕ) (g : ℕ → ℕ) → ((i : ℕ) → g i ≡ cells (n + i)) → 1 ≤ cells n → WalkOf g places (walk cells places n (cells n))
unfolding walk
walk_of_from cells zero n g h l = record {
  one_each = refl;
  within = omega arith;
  lost = λ n h. absurd (omega arith);
  due = λ n h. absurd (omega arith);
  left_nothing = λ q. absurd (true_is_not_false (sym q));
  left_some = λ _. (refl, rw (h 0, add-zero) l);
}
walk_of_from cells (suc places) n g h l =
    let z : g 0 ≡ cells n = h 0 ∙ ap cells (omega arith) in
    let o : g 1 ≡ cells (suc n) = h 1 ∙ ap cells (omega arith) in
    let s = stepped g places in
    cases (eqb (cells (suc n)) 0)
    (λ t. let e = eqb-true (cells (suc n)) 0 t in
    rw (t, ← z, ← o) (s finished (omega arith) (stopped (λ i. g (suc i)) (o ∙ e) places)))
    (λ t.
    rw (t, ← z, ← o)
    (s (walk cells places (suc n) (g 1)) (omega arith) (rw (o) (walk_of_from cells places (suc n) (λ i. g (suc i)) (λ i. h (suc i) ∙ ap cells (omega arith)) (omega (arith, eqb-false (cells (suc n)) 0 t))))))

pub walk_of : (cells : ℕ → ℕ) (places : ℕ) → 1 ≤ cells 0 → WalkOf cells places (walk cells places 0 (cells 0))
walk_of cells places l = walk_of_from cells places 0 cells (λ i. ap cells (omega arith)) l
