-- Spreads add up (document 02's U7), about the answers of `dilate_n`: up to the fold limit, m folds and then n give the octagon of m + n
-- folds, and are refused as these are. No call need be allowed: where m + n folds stay on the map, so do m of them. FoldedMarks.antt has the
-- marks, which may differ. Assumes nothing.
use mathlib.Core.Path.{◌≡◌, refl, sym, ◌∙◌, ap}
use mathlib.Core.Bool.{Bool, true, false}
use Prim.Native.Nat.{ℕ, ◌+◌, ◌≤◌}
use native.Mathlib.Omega.{arith}
use lib.IntN.{ℤ, pos, ◌+ℤ◌, ◌*ℤ◌}
use borrow.Author.Tests.{le-ltb}
use Rattle.integers.proofs.Parts.{sum_parts}
use Rattle.integers.proofs.Linear.{#, lit, ◌≼◌}
use Rattle.integers.proofs.Multiples.{times_between}
use Rattle.integers.proofs.Tests.{cases, true_is_not_false}
use Rattle.octagon.specs.Octagon.{Octagon}
use Rattle.octagon.specs.Outcome.{Outcome, accepted, refused, then}
use Rattle.octagon.specs.Cells.{Some, In, limit}
use Rattle.octagon.specs.NormalForm.{normalised, placed, is_on_map}
use Rattle.octagon.proofs.Within.{Normal, Near}
use Rattle.octagon.proofs.Map.{test_near, near_test}
use Rattle.octagon.proofs.NormalForms.{accepted_normal, accepted_near, normal_answer}
use Rattle.octagon.proofs.Outcomes.{then_accepted, map_accepted}
use Rattle.morphology.specs.Marks.{Marked, marked, unmarked}
use Rattle.morphology.specs.Operations.{sums, with_both}
use Rattle.morphology.specs.Folds.{multiples, fold_limit, are_opposed_in, dilation_n}
use Rattle.morphology.specs.Premises.{Allowed, dilations_n}
use Rattle.morphology.proofs.Multiples.{sums_add, multiples_normal}
use Rattle.morphology.proofs.Decided.{dilation_n_allowed}

-- ---- normal forms

-- sums that are on the map before the first fold and after m + n are so after m
near_between : (m n : ℕ) (a b : Octagon) → Near a → Near (sums a (multiples (m + n) b)) → Near (sums a (multiples m b))
unfolding sums multiples
near_between m n a b h k = record {
  near0 = near a.c0 b.c0 h.near0 k.near0;
  near2 = near a.c2 b.c2 h.near2 k.near2;
  near4 = near a.c4 b.c4 h.near4 k.near4;
  near6 = near a.c6 b.c6 h.near6 k.near6;
}
  where
    near : (x z : ℤ) → # x ≼ lit limit → # (x +ℤ (pos (m + n) *ℤ z)) ≼ lit limit → # (x +ℤ (pos m *ℤ z)) ≼ lit limit
    near x z i j =
        let e = times_between m n limit x z i (omega (arith, sum_parts x (pos (m + n) *ℤ z))) in
        omega (arith, e, sum_parts x (pos m *ℤ z))

-- an n-fold dilation without its mark
plain : (p f : Octagon) (n : ℕ) → n ≤ fold_limit → unmarked (dilation_n p f n) ≡ with_both p f (λ a b. placed (sums a (multiples n b)))
unfolding dilation_n
plain p f n l = rw (le-ltb fold_limit n l) (go (normalised p) (normalised f))
  where
    bare : (t : Bool) (o : Outcome Octagon) → unmarked (marked t o) ≡ o
    bare t (accepted a) = refl
    bare t (refused k) = refl

    go : (o r : Outcome Octagon) → unmarked (then o (λ a. then r (λ b. marked (are_opposed_in n a b) (placed (sums a (multiples n b)))))) ≡ then o (λ a. then r (λ b. placed (sums a (multiples n b))))
    go (accepted a) (accepted b) = bare (are_opposed_in n a b) (placed (sums a (multiples n b)))
    go (accepted a) (refused k) = refl
    go (refused k) r = refl

-- m folds of normal forms, and then n
module _ (p f : Octagon) (m n : ℕ) (l : m + n ≤ fold_limit) (a b : Octagon) (h : normalised p ≡ accepted a) (k : normalised f ≡ accepted b) where
  forms_add : then (placed (sums a (multiples m b))) (λ d. unmarked (dilation_n d f n)) ≡ placed (sums a (multiples (m + n) b))
  unfolding placed
  forms_add = cases (is_on_map (sums a (multiples m b))) on off
    where
      s : Octagon
      s = sums a (multiples m b)

      form : Normal s
      form = multiples_normal m a b (accepted_normal p a h) (accepted_normal f b k)

      on : is_on_map s ≡ true → then (placed s) (λ d. unmarked (dilation_n d f n)) ≡ placed (sums a (multiples (m + n) b))
      on t = rw t (plain s f n (omega arith) ∙ rw (normal_answer s form (test_near s t), k, sums_add m n a b))

      off : is_on_map s ≡ false → then (placed s) (λ d. unmarked (dilation_n d f n)) ≡ placed (sums a (multiples (m + n) b))
      off t =
          let u = sums a (multiples (m + n) b) in
          rw t (cases (is_on_map u)
          (λ v. absurd (true_is_not_false (sym (near_test s (near_between m n a b (accepted_near p a h) (test_near u v))) ∙ t)))
          (λ v. rw v))

-- ---- the calls

-- "spreading by m folds and then n equals m+n folds .. The octagons are equal": whatever the operands hold, and refusals too
pub dilations_add : (p f : Octagon) (m n : ℕ) → m + n ≤ fold_limit → unmarked (dilations_n p f m n) ≡ unmarked (dilation_n p f (m + n))
dilations_add p f m n l =
    steps (dilation_n p f m)
    ∙ ap (λ o. then o (λ d. unmarked (dilation_n d f n))) (plain p f m (omega arith))
    ∙ go (normalised p) (normalised f) refl refl
    ∙ sym (plain p f (m + n) l)
  where
    steps : (o : Outcome Marked) → unmarked (then o (λ d. dilation_n d.octagon f n)) ≡ then (unmarked o) (λ d. unmarked (dilation_n d f n))
    steps (accepted d) = refl
    steps (refused k) = refl

    go : (o r : Outcome Octagon) → normalised p ≡ o → normalised f ≡ r →
        then (then o (λ a. then r (λ b. placed (sums a (multiples m b))))) (λ d. unmarked (dilation_n d f n)) ≡ then o (λ a. then r (λ b. placed (sums a (multiples (m + n) b))))
    go (accepted a) (accepted b) h k = forms_add p f m n l a b h k
    go (accepted a) (refused k) _ _ = refl
    go (refused k) r _ _ = refl

-- the same with no word for two calls: n folds of what m gave
pub spread_again : (p f : Octagon) (m n : ℕ) (d : Marked) → m + n ≤ fold_limit → dilation_n p f m ≡ accepted d →
    unmarked (dilation_n d.octagon f n) ≡ unmarked (dilation_n p f (m + n))
spread_again p f m n d l q = rw q at (dilations_add p f m n l)

-- so, of operands that hold a cell, where the call of m + n folds is not refused as off the map, all three calls are accepted, and the second
-- gives the octagon of m + n folds
pub spread_in_two : (p f : Octagon) (m n : ℕ) → Some (In p) → Some (In f) → m + n ≤ fold_limit → Allowed (dilation_n p f (m + n)) →
    (d : Marked) × (e : Marked) × (w : Marked) × (dilation_n p f m ≡ accepted d) × (dilation_n d.octagon f n ≡ accepted e) × (dilation_n p f (m + n) ≡ accepted w) × (e.octagon ≡ w.octagon)
spread_in_two p f m n s t l a =
    let w = dilation_n_allowed p f (m + n) s t l a in
    let q = dilations_add p f m n l ∙ ap unmarked w.1 in
    let e = map_accepted (dilations_n p f m n) (λ d. d.octagon) w.0.octagon q in
    let d = then_accepted (dilation_n p f m) (λ d. dilation_n d.octagon f n) e.0 e.1 in
    (d.between, e.0, w.0, d.first, d.second, w.1, e.2)
