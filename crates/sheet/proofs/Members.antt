-- The records of a list one by one: those of a longer list, of records in order each number once, and lists in order with the same records
-- are one (`ascending_same`); and what a sheet that checks says. Assumes nothing.
use mathlib.Core.Path.{◌≡◌, refl, sym, ap, ◌∙◌}
use mathlib.Core.Bool.{Bool, true, false, cond}
use mathlib.Core.Logic.Iff
use mathlib.Core.Logic.{◌↔◌, ◌⊎◌, inl, inr, ⊎_elim}
use mathlib.Core.List.{List, [], ◌∷◌}
use Prim.Native.Nat.{ℕ, zero, suc, ◌-◌, ◌<◌}
use native.Mathlib.Omega.{arith}
use lib.ListN.{length, take}
use lib.Seq.{length-take-le}
use lib.Dec.{ltb}
use Rattle.octagon.specs.Outcome.{accepted}
use Rattle.octagon.proofs.Outcomes.{accepted_same, accepted_not_refused}
use Rattle.sheet.specs.declared.Record.{Record}
use Rattle.sheet.specs.Trailer.{trailer_length, trailer_at}
use Rattle.sheet.specs.Order.{Ascending, last, next, present, put_in_order}
use Rattle.sheet.specs.Merging.{Among}
use Rattle.sheet.specs.Sheets.{Sheet, sheet_of}
use Rattle.sheet.specs.Checking.{parsed, checked}
use Rattle.sheet.specs.Cases.{stated_plots, stated_heading, HasOctagon, IsFetched}
use Rattle.sheet.proofs.Order.{present_test}
use Rattle.sheet.proofs.Checks.{inspected_when, parsed_sheet, checked_plotted, fetched_plot}

-- ---- one more

pub not_among_nil : (q : Record) → ¬ (Among q [])
not_among_nil q (k, e) = accepted_not_refused (sym e)

pub among_cons : (q r : Record) (rs : List Record) → Among q (r ∷ rs) ↔ ((q ≡ r) ⊎ Among q rs)
among_cons q r rs = (to, from)
  where
    to : Among q (r ∷ rs) → (q ≡ r) ⊎ Among q rs
    to (zero, e) = inl (sym (accepted_same e))
    to (suc k, e) = inr (k, e)

    from : (q ≡ r) ⊎ Among q rs → Among q (r ∷ rs)
    from (inl e) = (0, ap accepted (sym e))
    from (inr (k, e)) = (suc k, e)

-- one more in its place
pub among_put_in_order : (q r : Record) (rs : List Record) → Among q (put_in_order r rs) ↔ ((q ≡ r) ⊎ Among q rs)
among_put_in_order q r [] = among_cons q r []
among_put_in_order q r (a ∷ rs) = pick (ltb a.number r.number) (among_put_in_order q r rs)
  where
    to : (Among q (put_in_order r rs) → (q ≡ r) ⊎ Among q rs) → (q ≡ a) ⊎ Among q (put_in_order r rs) → (q ≡ r) ⊎ Among q (a ∷ rs)
    to f (inl e) = inr ((among_cons q a rs).1 (inl e))
    to f (inr m) = ⊎_elim inl (λ n. inr ((among_cons q a rs).1 (inr n))) (f m)

    from : ((q ≡ r) ⊎ Among q rs → Among q (put_in_order r rs)) → (q ≡ r) ⊎ Among q (a ∷ rs) → (q ≡ a) ⊎ Among q (put_in_order r rs)
    from f (inl e) = inr (f (inl e))
    from f (inr m) = ⊎_elim inl (λ n. inr (f (inr n))) ((among_cons q a rs).0 m)

    pick : (b : Bool) → Among q (put_in_order r rs) ↔ ((q ≡ r) ⊎ Among q rs) → Among q (cond b (a ∷ put_in_order r rs) (r ∷ a ∷ rs)) ↔ ((q ≡ r) ⊎ Among q (a ∷ rs))
    pick true f = Iff.trans (among_cons q a (put_in_order r rs)) (to f.0, from f.1)
    pick false f = among_cons q r (a ∷ rs)

-- ---- whether a number is present

pub present_among : (v : ℕ) (rs : List Record) → present v rs ≡ true → (r : Record) × Among r rs × (r.number ≡ v)
present_among v rs e = let p = present_test v rs e in (p.plot, (p.place, p.there), p.same)

-- ---- records in order

-- each number is above v
pub ascending_above : {P : Record → Type 0} {v : ℕ} {rs : List Record} → Ascending P v rs → (q : Record) → Among q rs → v < q.number
ascending_above last q m = absurd (not_among_nil q m)
ascending_above (next l p g) q (zero, e) = rw (← accepted_same e) l
ascending_above (next l p g) q (suc k, e) = let h = ascending_above g q (k, e) in omega arith

-- a number stands for one record
pub one_record : {P : Record → Type 0} {v : ℕ} {rs : List Record} → Ascending P v rs → (a b : Record) → Among a rs → Among b rs → a.number ≡ b.number → a ≡ b
one_record last a b m n e = absurd (not_among_nil a m)
one_record (next l p g) a b (zero, m) (zero, n) e = accepted_same (sym m ∙ n)
one_record (next l p g) a b (zero, m) (suc j, n) e =
    let h = ascending_above g b (j, n) in
    let f = ap (λ (c : Record). c.number) (accepted_same m) in
    absurd (omega arith)
one_record (next l p g) a b (suc i, m) (zero, n) e =
    let h = ascending_above g a (i, m) in
    let f = ap (λ (c : Record). c.number) (accepted_same n) in
    absurd (omega arith)
one_record (next l p g) a b (suc i, m) (suc j, n) e = one_record g a b (i, m) (j, n) e

-- the records after the first are among those after the first of another list, where the first is the same
others : {P : Record → Type 0} {r : Record} {rs : List Record} → Ascending P r.number rs → (t : Record) (ts : List Record) → r ≡ t → (q : Record)
    → (Among q (r ∷ rs) → Among q (t ∷ ts)) → Among q rs → Among q ts
others {r = r} {rs = rs} g t ts e q f m = go ((among_cons q t ts).0 (f ((among_cons q r rs).1 (inr m))))
  where
    go : (q ≡ t) ⊎ Among q ts → Among q ts
    go (inl d) = let h = ascending_above g q m in let x = ap (λ (c : Record). c.number) (d ∙ sym e) in absurd (omega arith)
    go (inr n) = n

-- two lists in order with the same records are one
pub ascending_same : {P Q : Record → Type 0} {v w : ℕ} {rs ts : List Record} → Ascending P v rs → Ascending Q w ts → ((q : Record) → Among q rs ↔ Among q ts) → rs ≡ ts
ascending_same last last f = refl
ascending_same last (next {r = t} l p g) f = absurd (not_among_nil t ((f t).1 (0, refl)))
ascending_same (next {r = r} l p g) last f = absurd (not_among_nil r ((f r).0 (0, refl)))
ascending_same {P} {Q} (next {r = r} {rs = rs} l p g) (next {r = t} {rs = ts} m o h) f =
    let e = heads ((among_cons r t ts).0 ((f r).0 (0, refl))) ((among_cons t r rs).0 ((f t).1 (0, refl))) in
    let i = ascending_same g h (λ q. (others g t ts e q (f q).0, others h r rs (sym e) q (f q).1)) in
    cc
  where
    heads : (r ≡ t) ⊎ Among r ts → (t ≡ r) ⊎ Among t rs → r ≡ t
    heads (inl e) n = e
    heads (inr m) (inl e) = sym e
    heads (inr m) (inr n) = let x = ascending_above h r m in let y = ascending_above g t n in absurd (omega arith)

-- ---- a sheet that checks

-- its records are those that are fetched
pub parsed_among : {y : Sheet} (s : List ℕ) (m : ℕ) → parsed s m ≡ accepted y → (q : Record) → IsFetched s m q ↔ Among q y.plots
parsed_among s m e q = (λ f. (f.0, sym (fetched_plot s m f.0 e) ∙ f.1), λ f. (f.0, fetched_plot s m f.0 e ∙ f.1))

-- what the bytes of a sheet say by their trailer
abbrev pub stated_sheet : List ℕ → ℕ → Sheet
stated_sheet s m = sheet_of s m (trailer_at s (m - trailer_length))

-- and what holds of it where a check counts c
pub record Stated (s : List ℕ) (m c : ℕ) : Type 0 where
  pub is_parsed : parsed s m ≡ accepted (stated_sheet s m)
  pub many : length (stated_plots s m) ≡ c
  pub heading_long : length (take (stated_heading s m) s) ≡ stated_heading s m
  pub ascending : Ascending HasOctagon 0 (stated_plots s m)

pub checked_stated : (s : List ℕ) (m c : ℕ) → checked s m ≡ accepted c → Stated s m c
checked_stated s m c e =
    let p = checked_plotted s m c e in
    let g = rw p.are at p.ascending in
    let h = p.frame.size.within in
    record {
      is_parsed = parsed_sheet s m (inspected_when s m c p.frame (rw p.are at p.on_its_map));
      many = ap length (sym p.are) ∙ p.many;
      heading_long = length-take-le (stated_heading s m) s (omega arith);
      ascending = g;
    }
