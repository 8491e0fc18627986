-- One turn of the pass over the records of two sheets: which of the two first ones comes next, what is left then, and what the turn says of
-- their number and of two that differ. Assumes nothing.
use mathlib.Core.Path.{◌≡◌, refl, sym, ap, ◌∙◌}
use mathlib.Core.Bool.{true, false, ◌||◌}
use mathlib.Core.List.{List, [], ◌∷◌}
use Prim.Native.Nat.{ℕ, ◌+◌, ◌*◌, ◌≤◌, ◌<◌}
use native.Mathlib.Omega.{arith}
use lib.ListN.{length, drop}
use lib.Dec.{leb, ltb}
use borrow.Author.Tests.{leb-false, le-leb, ltb-true, ltb-false}
use Rattle.integers.proofs.Tests.{cases, true_is_not_false, or_false}
use Rattle.sheet.specs.declared.Record.{Record}
use Rattle.sheet.specs.declared.stored.Records.{Records}
use Rattle.sheet.specs.Order.{Ascending}
use Rattle.sheet.specs.Merging.{differ, conflict, merged, leads, heads_differ, without_head}
use Rattle.sheet.specs.Sheets.{sheet_limit}
use Rattle.sheet.specs.Cases.{HasOctagon}
use Rattle.sheet.specs.Stored.{plots_of}
use Rattle.sheet.proofs.RowsLeft.{head_of, rows_in, rows_more, rows_none, rows_many, few_rows}
use Rattle.sheet.proofs.PutOnce.{merged_few}
use Rattle.sheet.proofs.Merging.{next_first, next_second, conflict_step}

-- ---- lists

-- one that comes next is there
leads_some : (rs ts : List Record) → leads rs ts ≡ true → 0 < length rs
leads_some [] ts e = absurd (true_is_not_false (sym e))
leads_some (r ∷ rs) ts e = omega arith

-- of two lists one comes next, unless both are empty
one_leads : (rs ts : List Record) → 0 < length rs + length ts → leads rs ts ≡ false → leads ts rs ≡ true
one_leads [] [] h e = absurd (omega arith)
one_leads [] (t ∷ ts) h e = refl
one_leads (r ∷ rs) [] h e = absurd (true_is_not_false e)
one_leads (r ∷ rs) (t ∷ ts) h e = le-leb t.number r.number (omega (arith, leb-false r.number t.number e))

-- they are one fewer where the first is taken
one_fewer : (rs : List Record) → 0 < length rs → length (drop 1 rs) + 1 ≡ length rs
one_fewer [] h = absurd (omega arith)
one_fewer (r ∷ rs) h = omega arith

-- the test of a turn: some record is left, or none
pub some_left : (m n : ℕ) → (ltb 0 m || ltb 0 n) ≡ true → 0 < m + n
some_left m n e = cases (ltb 0 m) (λ t. omega (arith, ltb-true 0 m t)) (λ t. omega (arith, ltb-true 0 n (rw t at e)))

pub none_counted : (m n : ℕ) → (ltb 0 m || ltb 0 n) ≡ false → (m ≤ 0) × (n ≤ 0)
none_counted m n e = let p = or_false (ltb 0 m) (ltb 0 n) e in (ltb-false 0 m p.0, ltb-false 0 n p.1)

-- ---- one turn

module _ (x y : Records) where
  abbrev rs : List Record
  rs = plots_of x

  abbrev ts : List Record
  ts = plots_of y

  a : Ascending HasOctagon 0 rs
  a = (rows_in x).ascending

  b : Ascending HasOctagon 0 ts
  b = (rows_in y).ascending

  first_many : length rs ≡ x.rows.count
  first_many = rows_many x.bytes.now x.rows

  second_many : length ts ≡ y.rows.count
  second_many = rows_many y.bytes.now y.rows

  first_more : (h : 0 < x.rows.count) → rs ≡ head_of x.bytes.now x.rows ∷ drop 1 rs
  first_more h = rw (rows_more x.bytes.now x.rows h)

  second_more : (h : 0 < y.rows.count) → ts ≡ head_of y.bytes.now y.rows ∷ drop 1 ts
  second_more h = rw (rows_more y.bytes.now y.rows h)

  pub leads_there : leads rs ts ≡ true → 0 < x.rows.count
  leads_there e = omega (arith, leads_some rs ts e, first_many)

  pub other_there : leads ts rs ≡ true → 0 < y.rows.count
  other_there e = omega (arith, leads_some ts rs e, second_many)

  -- what the first numbers say
  pub leads_none : x.rows.count ≤ 0 → leads rs ts ≡ false
  leads_none h = rw (rows_none x.bytes.now x.rows h)

  pub leads_alone : 0 < x.rows.count → y.rows.count ≤ 0 → leads rs ts ≡ true
  leads_alone h k = rw (rows_more x.bytes.now x.rows h, rows_none y.bytes.now y.rows k)

  pub leads_lower : 0 < x.rows.count → 0 < y.rows.count → leads rs ts ≡ leb (head_of x.bytes.now x.rows).number (head_of y.bytes.now y.rows).number
  leads_lower h k = rw (rows_more x.bytes.now x.rows h, rows_more y.bytes.now y.rows k)

  pub differ_none : x.rows.count ≤ 0 → heads_differ rs ts ≡ false
  differ_none h = rw (rows_none x.bytes.now x.rows h)

  pub differ_alone : 0 < x.rows.count → y.rows.count ≤ 0 → heads_differ rs ts ≡ false
  differ_alone h k = rw (rows_more x.bytes.now x.rows h, rows_none y.bytes.now y.rows k)

  pub differ_heads : 0 < x.rows.count → 0 < y.rows.count → heads_differ rs ts ≡ differ (head_of x.bytes.now x.rows) (head_of y.bytes.now y.rows)
  differ_heads h k = rw (rows_more x.bytes.now x.rows h, rows_more y.bytes.now y.rows k)

  module _ (h : 0 < x.rows.count + y.rows.count) where
    other_leads : leads rs ts ≡ false → leads ts rs ≡ true
    other_leads = one_leads rs ts (omega (arith, first_many, second_many))

    pub second_there : leads rs ts ≡ false → 0 < y.rows.count
    second_there d = other_there (other_leads d)

    -- fewer are left
    turn_less : length (without_head (leads rs ts) rs) + length (without_head (leads ts rs) ts) < length rs + length ts
    turn_less =
        cases (leads rs ts)
        (λ d. cases (leads ts rs)
        (λ e. rw (d, e) (omega (arith, one_fewer rs (leads_some rs ts d), one_fewer ts (leads_some ts rs e))))
        (λ e. rw (d, e) (omega (arith, one_fewer rs (leads_some rs ts d)))))
        (λ d. let e = other_leads d in rw (d, e) (omega (arith, one_fewer ts (leads_some ts rs e))))

    pub takes_first : leads rs ts ≡ true → merged rs ts ≡ head_of x.bytes.now x.rows ∷ merged (without_head (leads rs ts) rs) (without_head (leads ts rs) ts)
    takes_first d = go rs (first_more (leads_there d)) a d
      where
        go : (us : List Record) {r : Record} {os : List Record} → us ≡ r ∷ os → Ascending HasOctagon 0 us → leads us ts ≡ true
            → merged us ts ≡ r ∷ merged (without_head (leads us ts) us) (without_head (leads ts us) ts)
        go us {r} {os} e g d = let f : leads (r ∷ os) ts ≡ true = rw e at d in rw (e, f) (next_first r os (rw e at g) b f)

    pub takes_second : leads rs ts ≡ false → merged rs ts ≡ head_of y.bytes.now y.rows ∷ merged (without_head (leads rs ts) rs) (without_head (leads ts rs) ts)
    takes_second d = go ts (second_more (second_there d)) b d
      where
        go : (us : List Record) {r : Record} {os : List Record} → us ≡ r ∷ os → Ascending HasOctagon 0 us → leads rs us ≡ false
            → merged rs us ≡ r ∷ merged (without_head (leads rs us) rs) (without_head (leads us rs) us)
        go us {r} {os} e g d =
            let f : leads rs (r ∷ os) ≡ false = rw e at d in
            let n = next_second r os a (rw e at g) f in
            rw (e, f, n.0) n.1

    -- one record is there at least
    pub some_counted : 0 < length (merged rs ts)
    some_counted = cases (leads rs ts) (λ d. omega (arith, ap length (takes_first d))) (λ d. omega (arith, ap length (takes_second d)))

    -- what is left after the turn, x' and y'
    module _ (x' y' : Records) (e : plots_of x' ≡ without_head (leads rs ts) rs) (f : plots_of y' ≡ without_head (leads ts rs) ts) where
      pub fewer_left : x'.rows.count + y'.rows.count < x.rows.count + y.rows.count
      fewer_left = omega (arith, turn_less, ap length e, ap length f, first_many, second_many, rows_many x'.bytes.now x'.rows, rows_many y'.bytes.now y'.rows)

      pub rest_is : merged (without_head (leads rs ts) rs) (without_head (leads ts rs) ts) ≡ merged (plots_of x') (plots_of y')
      rest_is = rw (e, f)

      -- one record is counted
      pub turn_counts : length (merged rs ts) ≡ length (merged (plots_of x') (plots_of y')) + 1
      turn_counts = rw (← rest_is) (cases (leads rs ts) (λ d. ap length (takes_first d) ∙ omega arith) (λ d. ap length (takes_second d) ∙ omega arith))

      -- where the first ones do not differ under one number, those that are left tell it
      pub differ_later : heads_differ rs ts ≡ false → conflict rs ts ≡ conflict (plots_of x') (plots_of y')
      differ_later d = conflict_step a b ∙ rw (d, e, f)

  -- two that differ under one number are the first ones
  pub differ_now : heads_differ rs ts ≡ true → conflict rs ts ≡ true
  differ_now e = conflict_step a b ∙ rw e

  -- how many they are at most, and that none is left at the end
  pub few_together : length (merged rs ts) ≤ 2 * sheet_limit
  few_together = omega (arith, merged_few rs ts, first_many, second_many, few_rows x.bytes.now x.rows (rows_in x), few_rows y.bytes.now y.rows (rows_in y))

  module _ (h : x.rows.count ≤ 0) (k : y.rows.count ≤ 0) where
    pub none_left : merged rs ts ≡ []
    unfolding merged
    none_left = rw (rows_none x.bytes.now x.rows h, rows_none y.bytes.now y.rows k)

    pub none_differ : conflict rs ts ≡ false
    unfolding conflict
    none_differ = rw (rows_none x.bytes.now x.rows h)
