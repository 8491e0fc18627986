-- The records of two lists together: whether one number stands for two differing records (`conflict_found`, `conflict_none`), and of the
-- records of both which they are (`among_merged`), which numbers they have (`present_merged`) and how many they are (`length_merged`).
-- Assumes nothing.
use mathlib.Core.Path.{◌≡◌, refl, sym, ap, ◌∙◌}
use mathlib.Core.Bool.{Bool, true, false, cond, not, ◌&&◌, ◌||◌, or-false as or_nothing}
use mathlib.Core.Logic.Iff
use mathlib.Core.Logic.{◌↔◌, ◌⊎◌, inl, inr, ⊎_elim}
use mathlib.Core.List.{List, [], ◌∷◌}
use Prim.Native.Nat.{ℕ, suc, ◌+◌}
use native.Mathlib.Omega.{arith}
use lib.ListN.{length}
use lib.Dec.{eqb}
use borrow.Author.Tests.{eqb-true, eq-eqb, not-true, not-false}
use Rattle.integers.proofs.Tests.{cases, true_is_not_false, both_true, or_false}
use Rattle.outline.specs.Sameness.{same_outline}
use Rattle.outline.proofs.Sameness.{same_outline_is}
use Rattle.sheet.specs.declared.Record.{Record}
use Rattle.sheet.specs.Order.{Ascending, last, next, present}
use Rattle.sheet.specs.Merging.{Agree, same_record, differ, contradicted, conflict, Among, put_once, merged, in_both}
use Rattle.sheet.proofs.Order.{length_put_in_order}
use Rattle.sheet.proofs.Merging.{absent_below}
use Rattle.sheet.proofs.PutOnce.{or_swap, present_put_once, among_put_once}
use Rattle.sheet.proofs.SameRecords.{same_record_self}
use Rattle.sheet.proofs.Members.{not_among_nil, among_cons, ascending_above}

-- ---- which numbers they have

pub present_merged : (v : ℕ) (rs ts : List Record) → present v (merged rs ts) ≡ (present v rs || present v ts)
unfolding merged
present_merged v rs [] = sym (or_nothing (present v rs))
present_merged v rs (t ∷ ts) =
    present_put_once v t (merged rs ts) ∙ rw (present_merged v rs ts) (or_swap (eqb t.number v) (present v rs) (present v ts))

-- ---- how many they are

length_put_once : (t : Record) (rs : List Record) → length (put_once t rs) + cond (present t.number rs) 1 0 ≡ suc (length rs)
length_put_once t rs =
    cases (present t.number rs) (λ e. rw e (omega arith)) (λ e. rw e (omega (arith, length_put_in_order t rs)))

-- a plot in both is kept once, so that they are as many as both lists have less those in both
pub length_merged : {P : Record → Type 0} {w : ℕ} (rs : List Record) {ts : List Record} → Ascending P w ts → length (merged rs ts) + in_both rs ts ≡ length rs + length ts
unfolding merged
length_merged rs last = refl
length_merged rs (next {r = t} {rs = ts} l p g) =
    let i = length_merged rs g in
    let e : present t.number (merged rs ts) ≡ present t.number rs =
    present_merged t.number rs ts ∙ rw (absent_below t.number (omega arith) g) (or_nothing (present t.number rs)) in
    let h = length_put_once t (merged rs ts) in
    omega (arith, ap (λ (b : Bool). cond {A = ℕ} b 1 0) e)

-- ---- records that differ

equal_records : {r t : Record} → r.number ≡ t.number → r.outline ≡ t.outline → r.fee_row ≡ t.fee_row → r ≡ t
equal_records n o f k = record { number = n k; outline = o k; fee_row = f k }

-- the test of it, by number, outline and fee row, decides whether two are one
pub same_record_is : (r t : Record) → same_record r t ≡ true → r ≡ t
unfolding same_record
same_record_is r t h =
    let a = both_true (eqb r.number t.number && same_outline r.outline t.outline) (eqb r.fee_row t.fee_row) h in
    let b = both_true (eqb r.number t.number) (same_outline r.outline t.outline) a.0 in
    equal_records (eqb-true _ _ b.0) (same_outline_is r.outline t.outline b.1) (eqb-true _ _ a.1)

differ_told : (r t : Record) → differ r t ≡ true → (r.number ≡ t.number) × ¬ (r ≡ t)
differ_told r t h =
    let a = both_true (eqb r.number t.number) (not (same_record r t)) h in
    (eqb-true r.number t.number a.0, λ e. true_is_not_false (sym (rw e (same_record_self t)) ∙ not-true (same_record r t) a.1))

differ_not : (r t : Record) → differ r t ≡ false → r.number ≡ t.number → r ≡ t
differ_not r t h e = same_record_is r t (not-false (same_record r t) (rw (eq-eqb r.number t.number e) at h))

-- ---- one number for two differing records

-- some record of ts has the number of r, and differs
abbrev Contradicts : Record → List Record → Type 0
Contradicts r ts = (t : Record) × Among t ts × (r.number ≡ t.number) × ¬ (r ≡ t)

contradicted_found : (r : Record) (ts : List Record) → contradicted r ts ≡ true → Contradicts r ts
contradicted_found r [] h = absurd (true_is_not_false (sym h))
contradicted_found r (t ∷ ts) h =
    cases (differ r t)
    (λ e. let d = differ_told r t e in (t, (0, refl), d.0, d.1))
    (λ e. later (contradicted_found r ts (rw e at h)))
  where
    later : Contradicts r ts → Contradicts r (t ∷ ts)
    later (a, m, e, n) = (a, (among_cons a t ts).1 (inr m), e, n)

contradicted_none : (r : Record) (ts : List Record) → contradicted r ts ≡ false → (t : Record) → Among t ts → r.number ≡ t.number → r ≡ t
contradicted_none r [] h t m e = absurd (not_among_nil t m)
contradicted_none r (a ∷ ts) h t m e =
    let f = or_false (differ r a) (contradicted r ts) h in go f.0 (contradicted_none r ts f.1 t) ((among_cons t a ts).0 m)
  where
    go : differ r a ≡ false → (Among t ts → r.number ≡ t.number → r ≡ t) → (t ≡ a) ⊎ Among t ts → r ≡ t
    go d i (inl q) = differ_not r a d (e ∙ ap (λ (c : Record). c.number) q) ∙ sym q
    go d i (inr n) = i n e

-- the test of it: "one plot number stands for two differing records", or none does
pub conflict_found : (rs ts : List Record) → conflict rs ts ≡ true
    → (r : Record) × (t : Record) × Among r rs × Among t ts × (r.number ≡ t.number) × ¬ (r ≡ t)
unfolding conflict
conflict_found [] ts h = absurd (true_is_not_false (sym h))
conflict_found (r ∷ rs) ts h =
    cases (contradicted r ts)
    (λ e. let c = contradicted_found r ts e in (r, c.0, (0, refl), c.1, c.2, c.3))
    (λ e. let c = conflict_found rs ts (rw e at h) in (c.0, c.1, (among_cons c.0 r rs).1 (inr c.2), c.3, c.4, c.5))

pub conflict_none : (rs ts : List Record) → conflict rs ts ≡ false → Agree rs ts
unfolding conflict
conflict_none [] ts h a t m = absurd (not_among_nil a m)
conflict_none (r ∷ rs) ts h a t m =
    let f = or_false (contradicted r ts) (conflict rs ts) h in go (contradicted_none r ts f.0) (conflict_none rs ts f.1) ((among_cons a r rs).0 m)
  where
    go : ((t : Record) → Among t ts → r.number ≡ t.number → r ≡ t) → Agree rs ts → (a ≡ r) ⊎ Among a rs → Among t ts → a.number ≡ t.number → a ≡ t
    go f i (inl q) n e = q ∙ f t n (sym (ap (λ (c : Record). c.number) q) ∙ e)
    go f i (inr k) n e = i a t k n e

-- ---- which they are

-- those of either list, where a number stands for one record in both
pub among_merged : {P : Record → Type 0} {w : ℕ} (rs : List Record) {ts : List Record} → Ascending P w ts → Agree rs ts → (q : Record)
    → Among q (merged rs ts) ↔ (Among q rs ⊎ Among q ts)
unfolding merged
among_merged rs last a q = (inl, ⊎_elim (λ m. m) (λ m. absurd (not_among_nil q m)))
among_merged rs (next {r = t} {rs = ts} l p g) a q =
    let i = among_merged rs g (λ r x m n. a r x m ((among_cons x t ts).1 (inr n))) in
    Iff.trans (among_put_once q t (merged rs ts) (λ x m. same x ((i x).0 m))) (to (i q).0, from (i q).1)
  where
    same : (x : Record) → Among x rs ⊎ Among x ts → x.number ≡ t.number → x ≡ t
    same x (inl m) e = a x t m (0, refl) e
    same x (inr m) e = let h = ascending_above g x m in absurd (omega arith)

    to : (Among q (merged rs ts) → Among q rs ⊎ Among q ts) → (q ≡ t) ⊎ Among q (merged rs ts) → Among q rs ⊎ Among q (t ∷ ts)
    to f (inl e) = inr ((among_cons q t ts).1 (inl e))
    to f (inr m) = ⊎_elim inl (λ n. inr ((among_cons q t ts).1 (inr n))) (f m)

    from : (Among q rs ⊎ Among q ts → Among q (merged rs ts)) → Among q rs ⊎ Among q (t ∷ ts) → (q ≡ t) ⊎ Among q (merged rs ts)
    from f (inl m) = inr (f (inl m))
    from f (inr m) = ⊎_elim inl (λ n. inr (f (inr n))) ((among_cons q t ts).0 m)
