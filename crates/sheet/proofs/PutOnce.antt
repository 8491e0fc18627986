-- One record more, unless its number is there: what holds of the records then, whichever it is. Assumes nothing.
use mathlib.Core.Path.{◌≡◌, refl, sym, ap, ◌∙◌}
use mathlib.Core.Bool.{Bool, true, false, cond, ◌||◌}
use mathlib.Core.Logic.{◌↔◌, ◌⊎◌, inl, inr}
use mathlib.Core.List.{List, [], ◌∷◌}
use Prim.Native.Nat.{ℕ, ◌+◌, ◌≤◌, ◌<◌}
use native.Mathlib.Omega.{arith}
use lib.ListN.{length}
use lib.Dec.{ltb, eqb}
use borrow.Author.Tests.{lt-ltb, ne_eqb, eqb-true}
use Rattle.integers.proofs.Tests.{cases}
use Rattle.octagon.specs.Outcome.{accepted}
use Rattle.sheet.specs.declared.Record.{Record}
use Rattle.sheet.specs.Order.{All, present, put_in_order}
use Rattle.sheet.specs.Merging.{Among, put_once, merged}
use Rattle.sheet.proofs.Order.{length_put_in_order, all_put_in_order}
use Rattle.sheet.proofs.Members.{among_put_in_order, present_among}

pub all_once : {P : Record → Type 0} (t : Record) {rs : List Record} → P t → All P rs → All P (put_once t rs)
all_once t {rs} p a = cases (present t.number rs) (λ e. rw e a) (λ e. rw e (all_put_in_order t p a))

-- it comes after one whose number is lower
pub once_after : (t r : Record) (rs : List Record) → r.number < t.number → put_once t (r ∷ rs) ≡ r ∷ put_once t rs
once_after t r rs h =
    rw (ne_eqb r.number t.number (λ (e : r.number ≡ t.number). omega arith), lt-ltb r.number t.number h) (pick (present t.number rs))
  where
    pick : (b : Bool) → cond b (r ∷ rs) (r ∷ put_in_order t rs) ≡ r ∷ cond b rs (put_in_order t rs)
    pick true = refl
    pick false = refl

-- both lists together have no more
pub merged_few : (rs ts : List Record) → length (merged rs ts) ≤ length rs + length ts
unfolding merged
merged_few rs [] = omega arith
merged_few rs (t ∷ ts) =
    cases (present t.number (merged rs ts))
    (λ e. rw e (omega (arith, merged_few rs ts)))
    (λ e. rw e (omega (arith, merged_few rs ts, length_put_in_order t (merged rs ts))))

-- ---- which numbers they have

pub or_swap : (a b c : Bool) → (a || (b || c)) ≡ (b || (a || c))
or_swap true true c = refl
or_swap true false c = refl
or_swap false b c = refl

present_put_in_order : (v : ℕ) (r : Record) (rs : List Record) → present v (put_in_order r rs) ≡ (eqb r.number v || present v rs)
present_put_in_order v r [] = refl
present_put_in_order v r (a ∷ rs) = pick (ltb a.number r.number) (present_put_in_order v r rs)
  where
    pick : (b : Bool) → present v (put_in_order r rs) ≡ (eqb r.number v || present v rs)
        → present v (cond b (a ∷ put_in_order r rs) (r ∷ a ∷ rs)) ≡ (eqb r.number v || (eqb a.number v || present v rs))
    pick true i = rw i (or_swap (eqb a.number v) (eqb r.number v) (present v rs))
    pick false i = refl

pub present_put_once : (v : ℕ) (t : Record) (rs : List Record) → present v (put_once t rs) ≡ (eqb t.number v || present v rs)
present_put_once v t rs =
    cases (present t.number rs)
    (λ e. rw e (cases (eqb t.number v) (λ d. rw (d, ← eqb-true t.number v d) e) (λ d. rw d)))
    (λ e. rw e (present_put_in_order v t rs))

-- ---- which they are

pub among_put_once : (q t : Record) (rs : List Record) → ((x : Record) → Among x rs → x.number ≡ t.number → x ≡ t) → Among q (put_once t rs) ↔ ((q ≡ t) ⊎ Among q rs)
among_put_once q t rs f =
    cases (present t.number rs)
    (λ e. let p = present_among t.number rs e in rw e (inr, there p.0 p.1 (f p.0 p.1 p.2)))
    (λ e. rw e (among_put_in_order q t rs))
  where
    there : (x : Record) → Among x rs → x ≡ t → (q ≡ t) ⊎ Among q rs → Among q rs
    there x (k, m) e (inl d) = (k, m ∙ ap accepted (e ∙ sym d))
    there x m e (inr n) = n
