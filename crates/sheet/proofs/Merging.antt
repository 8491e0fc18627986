-- The records of two lists together, where both are in order: they are in order too (`ascending_merged`), the one with the lower number comes
-- first (`next_first`, `next_second`), and whether two differ under one number is told by the first ones and the others (`conflict_step`).
-- Assumes nothing.
use mathlib.Core.Path.{◌≡◌, refl, ap, ◌∙◌}
use mathlib.Core.Bool.{Bool, true, false, ◌||◌}
use mathlib.Core.List.{List, [], ◌∷◌}
use Prim.Native.Nat.{ℕ, ◌≤◌, ◌<◌}
use native.Mathlib.Omega.{arith}
use lib.Dec.{leb}
use borrow.Author.Tests.{leb-true, leb-false, le-ltb, le-leb, eq-eqb, ne_eqb}
use Rattle.integers.proofs.Tests.{cases}
use Rattle.sheet.specs.declared.Record.{Record}
use Rattle.sheet.specs.Order.{All, none, more, Ascending, last, next, present, put_in_order}
use Rattle.sheet.specs.Merging.{differ, contradicted, conflict, put_once, merged, leads, heads_differ, without_head}
use Rattle.sheet.proofs.Order.{ascending_put_in_order}
use Rattle.sheet.proofs.PutOnce.{all_once, once_after}

-- ---- numbers that rise from above v

pub ascending_from : {P : Record → Type 0} {v : ℕ} {rs : List Record} (w : ℕ) → w ≤ v → Ascending P v rs → Ascending P w rs
ascending_from w h last = last
ascending_from w h (next {r = r} l p g) = next {v = w} {r = r} (omega arith) p g

-- v is none of them, nor is a lower number
pub absent_below : {P : Record → Type 0} {v : ℕ} {rs : List Record} (w : ℕ) → w ≤ v → Ascending P v rs → present w rs ≡ false
absent_below w h last = refl
absent_below {P} {v} w h (next {r = r} {rs = rs} l p g) =
    rw (ne_eqb r.number w (λ (e : r.number ≡ w). omega arith), absent_below w (omega arith) g)

-- ---- one record more, unless its number is there

module _ {P : Record → Type 0} (t : Record) where
  ascending_once : {v : ℕ} {rs : List Record} → v < t.number → P t → Ascending P v rs → Ascending P v (put_once t rs)
  ascending_once {v} {rs} h p g =
      cases (present t.number rs) (λ e. rw e g) (λ e. rw e (ascending_put_in_order t h p e g))

  -- it comes first where its number is below theirs
  once_first : {v : ℕ} {rs : List Record} → t.number ≤ v → Ascending P v rs → put_once t rs ≡ t ∷ rs
  once_first h g = rw (absent_below t.number h g) (first h g)
    where
      first : {v : ℕ} {rs : List Record} → t.number ≤ v → Ascending P v rs → put_in_order t rs ≡ t ∷ rs
      first h last = refl
      first h (next {r = r} l p g) = rw (le-ltb r.number t.number (omega arith))

-- ---- the records of both

merged_above : {P : Record → Type 0} {v w : ℕ} {rs ts : List Record} → v ≤ w → Ascending P v rs → Ascending P w ts → Ascending P v (merged rs ts)
unfolding merged
merged_above h g last = g
merged_above h g (next {r = t} l p m) = ascending_once t (omega arith) p (merged_above (omega arith) g m)

pub ascending_merged : {P : Record → Type 0} {v : ℕ} {rs ts : List Record} → Ascending P v rs → Ascending P v ts → Ascending P v (merged rs ts)
ascending_merged {P} {v} g m = merged_above {v = v} {w = v} (omega arith) g m

pub all_merged : {P : Record → Type 0} {rs ts : List Record} → All P rs → All P ts → All P (merged rs ts)
unfolding merged
all_merged a none = a
all_merged a (more {r = t} p b) = all_once t p (all_merged a b)

module _ {P : Record → Type 0} where
  -- one of ts, whose number is below all others
  second_first : {v w : ℕ} {rs ts : List Record} (t : Record) → t.number ≤ v → t.number ≤ w → Ascending P v rs → Ascending P w ts → merged rs (t ∷ ts) ≡ t ∷ merged rs ts
  unfolding merged
  second_first {v} {w} t h k g m = once_first t (omega arith) (ascending_merged (ascending_from t.number h g) (ascending_from t.number k m))

  -- one of rs, whose number is below those of ts
  first_first : {w : ℕ} {ts : List Record} (r : Record) (rs : List Record) → r.number ≤ w → Ascending P w ts → merged (r ∷ rs) ts ≡ r ∷ merged rs ts
  unfolding merged
  first_first r rs h last = refl
  first_first {w} r rs h (next {r = t} {rs = ts} l p m) = ap (put_once t) (first_first r rs (omega arith) m) ∙ once_after t r (merged rs ts) (omega arith)

  -- one of each, with one number: that of rs is kept
  both_first : {w : ℕ} {ts : List Record} (r t : Record) (rs : List Record) → r.number ≡ t.number → t.number ≤ w → Ascending P w ts
      → merged (r ∷ rs) (t ∷ ts) ≡ r ∷ merged rs ts
  unfolding merged
  both_first r t rs e h m = ap (put_once t) (first_first r rs (omega arith) m) ∙ rw (eq-eqb r.number t.number e)

  -- which record comes next
  pub next_first : {v w : ℕ} {ts : List Record} (r : Record) (rs : List Record) → Ascending P v (r ∷ rs) → Ascending P w ts → leads (r ∷ rs) ts ≡ true
      → merged (r ∷ rs) ts ≡ r ∷ merged rs (without_head (leads ts (r ∷ rs)) ts)
  unfolding merged
  next_first r rs g last e = refl
  next_first r rs g (next {r = t} {rs = ts} l p m) e =
      let h = leb-true r.number t.number e in
      cases (leb t.number r.number)
      (λ d. let k = leb-true t.number r.number d in rw d (both_first r t rs (omega arith) (omega arith) m))
      (λ d. let k = leb-false t.number r.number d in rw d (first_first {w = r.number} r rs (omega arith) (next {v = r.number} k p m)))

  pub next_second : {v w : ℕ} {rs : List Record} (t : Record) (ts : List Record) → Ascending P v rs → Ascending P w (t ∷ ts) → leads rs (t ∷ ts) ≡ false
      → (leads (t ∷ ts) rs ≡ true) × (merged rs (t ∷ ts) ≡ t ∷ merged rs ts)
  next_second t ts last (next k q m) e = (refl, second_first {v = t.number} t (omega arith) (omega arith) last m)
  next_second t ts (next {r = r} {rs = rs} l p g) (next k q m) e =
      let h = leb-false r.number t.number e in
      (le-leb t.number r.number (omega arith), second_first {v = t.number} t (omega arith) (omega arith) (next {v = t.number} h p g) m)

-- ---- whether two differ under one number

-- two of different numbers do not
pub not_differ : (r t : Record) → (r.number ≡ t.number → ⊥) → differ r t ≡ false
not_differ r t f = rw (ne_eqb r.number t.number f)

contradicted_not : {P : Record → Type 0} {w : ℕ} {ts : List Record} (r : Record) → r.number ≤ w → Ascending P w ts → contradicted r ts ≡ false
contradicted_not r h last = refl
contradicted_not r h (next {r = t} l p m) =
    rw (ne_eqb r.number t.number (λ (e : r.number ≡ t.number). omega arith), contradicted_not r (omega arith) m)

conflict_nil : (rs : List Record) → conflict rs [] ≡ false
unfolding conflict
conflict_nil [] = refl
conflict_nil (r ∷ rs) = conflict_nil rs

-- a number below those of rs does not matter
conflict_second : {P : Record → Type 0} {v : ℕ} {rs : List Record} (t : Record) (ts : List Record) → t.number ≤ v → Ascending P v rs → conflict rs (t ∷ ts) ≡ conflict rs ts
unfolding conflict
conflict_second t ts h last = refl
conflict_second t ts h (next {r = r} {rs = rs} l p g) =
    rw (ne_eqb r.number t.number (λ (e : r.number ≡ t.number). omega arith), conflict_second t ts (omega arith) g)

or_not : (b c : Bool) → (b || false || c) ≡ (b || c)
or_not true c = refl
or_not false c = refl

-- the first ones tell it, or the others
pub conflict_step : {P : Record → Type 0} {v w : ℕ} {rs ts : List Record} → Ascending P v rs → Ascending P w ts
    → conflict rs ts ≡ (heads_differ rs ts || conflict (without_head (leads rs ts) rs) (without_head (leads ts rs) ts))
unfolding conflict
conflict_step last last = refl
conflict_step last (next k q m) = refl
conflict_step (next {r = r} {rs = rs} l p g) last = rw (conflict_nil rs)
conflict_step {P} (next {r = r} {rs = rs} l p g) (next {r = t} {rs = ts} k q m) =
    cases (leb r.number t.number)
    (λ d. let h = leb-true r.number t.number d in
    cases (leb t.number r.number)
    (λ e. let i = leb-true t.number r.number e in
    rw (d, e, contradicted_not {w = t.number} r (omega arith) m, conflict_second {v = r.number} t ts (omega arith) g) (or_not (differ r t) (conflict rs ts)))
    (λ e. let i = leb-false t.number r.number e in
    rw (d, e, ne_eqb r.number t.number (λ (f : r.number ≡ t.number). omega arith), contradicted_not {w = t.number} r (omega arith) m)))
    (λ d. let h = leb-false r.number t.number d in
    rw (
      d,
      le-leb t.number r.number (omega arith),
      ne_eqb r.number t.number (λ (f : r.number ≡ t.number). omega arith),
      conflict_second {v = r.number} t ts (omega arith) g,
    ))
