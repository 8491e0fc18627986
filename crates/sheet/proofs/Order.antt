-- The order of records by plot number: one record more keeps it, whether a number is present, and the records one by one. Assumes
-- nothing.
use mathlib.Core.Path.{◌≡◌, refl, sym, ap, ◌∙◌}
use mathlib.Core.Bool.{Bool, true, false, cond}
use mathlib.Core.List.{List, [], ◌∷◌, ◌++◌}
use Prim.Native.Nat.{ℕ, zero, suc, ◌≤◌, ◌<◌}
use native.Mathlib.Omega.{arith}
use lib.Dec.{ltb, eqb}
use lib.ListN.{length, take, drop}
use borrow.Author.Tests.{ltb-true, ltb-false, eqb-true, eqb-false}
use Rattle.integers.proofs.Tests.{cases, true_is_not_false, or_false}
use Rattle.octagon.specs.Outcome.{accepted, refused}
use Rattle.octagon.proofs.Outcomes.{accepted_same, accepted_not_refused}
use Rattle.sheet.specs.declared.Record.{Record}
use Rattle.sheet.specs.Answers.{no_record}
use Rattle.sheet.specs.Order.{nth, All, none, more, Ascending, last, next, Present, present, rank, put_in_order}

-- ---- one by one

-- there is no record from the count on
pub plot_past : (rs : List Record) (k : ℕ) → length rs ≤ k → nth rs k ≡ refused no_record
plot_past [] k h = refl
plot_past (r ∷ rs) zero h = absurd (omega arith)
plot_past (r ∷ rs) (suc k) h = plot_past rs k (omega arith)

-- what holds of each record holds of the k-th
pub ascending_at : {P : Record → Type 0} {v : ℕ} {rs : List Record} (k : ℕ) (r : Record) → nth rs k ≡ accepted r → Ascending P v rs → P r
ascending_at k r e last = absurd (accepted_not_refused (sym e))
ascending_at {P} zero r e (next l p g) = rw (accepted_same e) at p
ascending_at (suc k) r e (next l p g) = ascending_at k r e g

-- of records in order, each number is above the one before
pub ascending_step : {P : Record → Type 0} {v : ℕ} {rs : List Record} (k : ℕ) (a b : Record) → nth rs k ≡ accepted a → nth rs (suc k) ≡ accepted b
    → Ascending P v rs → a.number < b.number
ascending_step {P} k a b e f last = absurd (accepted_not_refused (sym e))
ascending_step {P} zero a b e f (next l p g) = rw (← accepted_same e) (first g f)
  where
    first : {v : ℕ} {rs : List Record} → Ascending P v rs → nth rs 0 ≡ accepted b → v < b.number
    first last q = absurd (accepted_not_refused (sym q))
    first (next m p g) q = rw (← accepted_same q) m
ascending_step {P} (suc k) a b e f (next l p g) = ascending_step k a b e f g

-- ---- what holds of each

pub all_take : {P : Record → Type 0} {rs : List Record} (k : ℕ) → All P rs → All P (take k rs)
all_take zero a = none
all_take (suc k) none = none
all_take (suc k) (more p a) = more p (all_take k a)

pub all_drop : {P : Record → Type 0} {rs : List Record} (k : ℕ) → All P rs → All P (drop k rs)
all_drop zero a = a
all_drop (suc k) none = none
all_drop (suc k) (more p a) = all_drop k a

pub all_put_in_order : {P : Record → Type 0} {rs : List Record} (r : Record) → P r → All P rs → All P (put_in_order r rs)
all_put_in_order r p none = more p none
all_put_in_order {P} r p (more {r = a} {rs = rs} q m) = pick (ltb a.number r.number) (put_in_order r rs) (all_put_in_order r p m)
  where
    pick : (b : Bool) (is : List Record) → All P is → All P (cond b (a ∷ is) (r ∷ a ∷ rs))
    pick true is i = more q i
    pick false is i = more p (more q m)

-- ---- the test of a number says whether some record has it

pub present_test : (v : ℕ) (rs : List Record) → present v rs ≡ true → Present v rs
present_test v [] e = absurd (true_is_not_false (sym e))
present_test v (r ∷ rs) e =
    cases (eqb r.number v)
    (λ t. record { place = 0; plot = r; there = refl; same = eqb-true r.number v t })
    (λ t. later (present_test v rs (rw t at e)))
  where
    later : Present v rs → Present v (r ∷ rs)
    later p = record { place = suc p.place; plot = p.plot; there = p.there; same = p.same }

pub absent_test : (v : ℕ) (rs : List Record) → present v rs ≡ false → ¬ (Present v rs)
absent_test v [] e p = accepted_not_refused (sym p.there)
absent_test v (r ∷ rs) e p =
    let f = or_false (eqb r.number v) (present v rs) e in
    go p.place p.there (eqb-false r.number v f.0) (absent_test v rs f.1)
  where
    go : (k : ℕ) → nth (r ∷ rs) k ≡ accepted p.plot → (r.number ≡ v → ⊥) → ¬ (Present v rs) → ⊥
    go zero q f g = f (ap (λ (a : Record). a.number) (accepted_same q) ∙ p.same)
    go (suc k) q f g = g (record { place = k; plot = p.plot; there = q; same = p.same })

-- ---- one record more

pub length_put_in_order : (r : Record) (rs : List Record) → length (put_in_order r rs) ≡ suc (length rs)
length_put_in_order r [] = refl
length_put_in_order r (a ∷ rs) = pick (ltb a.number r.number) (put_in_order r rs) (length_put_in_order r rs)
  where
    pick : (b : Bool) (is : List Record) → length is ≡ suc (length rs) → length (cond b (a ∷ is) (r ∷ a ∷ rs)) ≡ suc (suc (length rs))
    pick true is h = ap suc h
    pick false is h = refl

-- it stands between those before its place and the others
pub put_in_order_parts : (r : Record) (rs : List Record) → let k = rank r.number rs in put_in_order r rs ≡ take k rs ++ (r ∷ drop k rs)
put_in_order_parts r [] = refl
put_in_order_parts r (a ∷ rs) = pick (ltb a.number r.number) (put_in_order r rs) (rank r.number rs) (put_in_order_parts r rs)
  where
    pick : (b : Bool) (is : List Record) (k : ℕ) → is ≡ take k rs ++ (r ∷ drop k rs)
        → let n = cond b (suc k) 0 in cond b (a ∷ is) (r ∷ a ∷ rs) ≡ take n (a ∷ rs) ++ (r ∷ drop n (a ∷ rs))
    pick true is k h = ap (λ (x : List Record). a ∷ x) h
    pick false is k h = refl

-- where its number is not among theirs, the order is kept
pub ascending_put_in_order : {P : Record → Type 0} {v : ℕ} {rs : List Record} (r : Record) → v < r.number → P r → present r.number rs ≡ false
    → Ascending P v rs → Ascending P v (put_in_order r rs)
ascending_put_in_order r h p n last = next h p last
ascending_put_in_order {P} {v} r h p n (next {r = a} {rs = rs} l q m) =
    let e = or_false (eqb a.number r.number) (present r.number rs) n in
    pick (ltb a.number r.number) refl (eqb-false a.number r.number e.0) (λ g. ascending_put_in_order r g p e.1 m)
  where
    pick : (b : Bool) → b ≡ ltb a.number r.number → (a.number ≡ r.number → ⊥) → (a.number < r.number → Ascending P a.number (put_in_order r rs))
        → Ascending P v (cond b (a ∷ put_in_order r rs) (r ∷ a ∷ rs))
    pick true e f g = next l q (g (ltb-true a.number r.number (sym e)))
    pick false e f g = let k : r.number ≤ a.number = ltb-false a.number r.number (sym e) in next h p (next {v = r.number} {r = a} (omega arith) q m)

-- those before its place are as they were
pub put_in_order_before : (r : Record) (rs : List Record) (k : ℕ) → k < rank r.number rs → nth (put_in_order r rs) k ≡ nth rs k
put_in_order_before r [] k h = absurd (omega arith)
put_in_order_before r (a ∷ rs) k h = pick (ltb a.number r.number) k (put_in_order_before r rs) h
  where
    pick : (b : Bool) (k : ℕ) → ((k : ℕ) → k < rank r.number rs → nth (put_in_order r rs) k ≡ nth rs k)
        → k < cond b (suc (rank r.number rs)) 0 → nth (cond b (a ∷ put_in_order r rs) (r ∷ a ∷ rs)) k ≡ nth (a ∷ rs) k
    pick true zero f h = refl
    pick true (suc k) f h = f k (omega arith)
    pick false k f h = absurd (omega arith)

-- it is at its place
pub put_in_order_here : (r : Record) (rs : List Record) → nth (put_in_order r rs) (rank r.number rs) ≡ accepted r
put_in_order_here r [] = refl
put_in_order_here r (a ∷ rs) = pick (ltb a.number r.number) (put_in_order_here r rs)
  where
    pick : (b : Bool) → nth (put_in_order r rs) (rank r.number rs) ≡ accepted r
        → nth (cond b (a ∷ put_in_order r rs) (r ∷ a ∷ rs)) (cond b (suc (rank r.number rs)) 0) ≡ accepted r
    pick true f = f
    pick false f = refl

-- those from its place on come one later
pub put_in_order_after : (r : Record) (rs : List Record) (k : ℕ) → rank r.number rs ≤ k → nth (put_in_order r rs) (suc k) ≡ nth rs k
put_in_order_after r [] k h = refl
put_in_order_after r (a ∷ rs) k h = pick (ltb a.number r.number) k (put_in_order_after r rs) h
  where
    pick : (b : Bool) (k : ℕ) → ((k : ℕ) → rank r.number rs ≤ k → nth (put_in_order r rs) (suc k) ≡ nth rs k)
        → cond b (suc (rank r.number rs)) 0 ≤ k → nth (cond b (a ∷ put_in_order r rs) (r ∷ a ∷ rs)) (suc k) ≡ nth (a ∷ rs) k
    pick true zero f h = absurd (omega arith)
    pick true (suc k) f h = f k (omega arith)
    pick false k f h = refl
