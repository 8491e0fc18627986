-- The records of a sheet as they are read, over the record length: one where it stands, how many, one by one, a part of them, where a
-- number stands, and which layout they fit. Assumes nothing.
use mathlib.Core.Path.{◌≡◌, refl, sym, ap, ◌∙◌}
use mathlib.Core.Bool.{true, false}
use mathlib.Core.List.{List, [], ◌∷◌, ◌++◌, map}
use Prim.Native.Nat.{ℕ, zero, suc, ◌+◌, ◌-◌, ◌*◌, ◌^◌, ◌≤◌, ◌<◌}
use native.Mathlib.Omega.{arith}
use native.Mathlib.Nat.{mul-zero, mul-suc, add-zero, sub-zero, suc-sub-suc, pow-le-pow_right}
use lib.ListN.{length, take, drop, get_or, length-map}
use lib.Seq.{take-take, drop-drop}
use borrow.Author.Tests.{lt-ltb, le-ltb, eq-eqb, ne_eqb}
use Rattle.octagon.specs.Outcome.{accepted}
use Rattle.records.specs.Numbers.{AreBytes, number, unpacked}
use Rattle.records.specs.Parts.{part}
use Rattle.records.specs.Rows.{records}
use Rattle.records.proofs.Parts.{drop_take}
use Rattle.records.proofs.Rows.{length_records, records_more}
use Rattle.records.proofs.Steps.{total_width_more}
use Rattle.sheet.specs.declared.Record.{Record}
use Rattle.sheet.specs.Layout.{field_count, number_width, fee_width, IsRecordLength, record_length, layout_of, decoded, Fits, Sized}
use Rattle.sheet.specs.Order.{nth, All, none, more, Ascending, next, present, rank, put_in_order}
use Rattle.sheet.specs.Sheets.{plots_from}
use Rattle.sheet.specs.Cases.{HasOctagon}
use Rattle.sheet.proofs.Layouts.{every_field, narrow_fields, narrow_fee, number_first, within_length, decoded_at, number_decoded, field_below}
use Rattle.sheet.proofs.Order.{put_in_order_parts}
use Rattle.sheet.proofs.Outlines.{accepted_fits}

-- ---- one record where it stands

-- it is read from an index on, and lies within the bytes of its length
pub read_there : (L : ℕ) (s : List ℕ) (at : ℕ) → decoded (layout_of L) (drop at s) ≡ decoded (layout_of L) (part s at L)
unfolding decoded
read_there L s at = sym (decoded_at (layout_of L) s at L (within_length L))

-- its number lies within it
number_within : (L : ℕ) → get_or (layout_of L) 0 0 ≤ L
number_within L = omega (arith, total_width_more (layout_of L) 0 (omega (arith, every_field L)), within_length L)

-- a field of at most m bytes that was read is a number of m bytes
field_small : (L : ℕ) (s : List ℕ) (at k m : ℕ) → AreBytes s → k < field_count → get_or (layout_of L) k 0 ≤ m → get_or (unpacked (layout_of L) (drop at s)) k 0 < 256 ^ m
field_small L s at k m b h l =
    omega (arith, field_below (layout_of L) s at k b (omega (arith, every_field L)), pow-le-pow_right {n = 256} (omega arith) {i = get_or (layout_of L) k 0} {j = m} l)

-- the plot number is the number in the first bytes
pub number_there : (L : ℕ) → IsRecordLength L → (s : List ℕ) (at : ℕ) → number (part s at number_width) ≡ (decoded (layout_of L) (part s at L)).number
number_there L l s at =
    ap (λ (w : ℕ). number (part s at w)) (sym (number_first L l)) ∙ number_decoded (layout_of L) s at L (omega (arith, every_field L)) (number_within L)

-- ---- how many, and one by one

pub length_plots : (L : ℕ) (s : List ℕ) (at n : ℕ) → length (plots_from L s at n) ≡ n
unfolding plots_from
length_plots L s at n = length-map (records L s at n) (decoded (layout_of L)) ∙ length_records L s at n

-- the first record, and the others
pub plots_more : (L : ℕ) (s : List ℕ) (at n : ℕ) → 0 < n → plots_from L s at n ≡ decoded (layout_of L) (part s at L) ∷ plots_from L s (at + L) (n - 1)
unfolding plots_from
plots_more L s at n h = ap (map (decoded (layout_of L))) (records_more L s at n h)

pub plots_none : (L : ℕ) (s : List ℕ) (at n : ℕ) → n ≤ 0 → plots_from L s at n ≡ []
unfolding plots_from
plots_none L s at zero h = refl
plots_none L s at (suc n) h = absurd (omega arith)

-- record k stands L * k bytes on
pub plot_from : (L : ℕ) (s : List ℕ) (at n k : ℕ) → k < n → nth (plots_from L s at n) k ≡ accepted (decoded (layout_of L) (part s (at + L * k) L))
unfolding plots_from
plot_from L s at zero k h = absurd (omega arith)
plot_from L s at (suc n) zero h = rw (mul-zero, add-zero)
plot_from L s at (suc n) (suc k) h =
    let e : at + L * suc k ≡ at + L + L * k = omega (arith, mul-suc L k) in
    rw e (plot_from L s (at + L) n k (omega arith))

-- what holds of each record holds of the k-th
pub all_plot : {P : Record → Type 0} (L : ℕ) (s : List ℕ) (at n k : ℕ) → k < n → All P (plots_from L s at n) → P (decoded (layout_of L) (part s (at + L * k) L))
unfolding plots_from
all_plot L s at zero k h a = absurd (omega arith)
all_plot L s at (suc n) zero h (more p a) = rw (mul-zero, add-zero) p
all_plot L s at (suc n) (suc k) h (more p a) =
    let e : at + L * suc k ≡ at + L + L * k = omega (arith, mul-suc L k) in
    rw e (all_plot L s (at + L) n k (omega arith) a)

-- ---- a part of them

-- the first k, and the others
pub take_plots : (L : ℕ) (s : List ℕ) (at n k : ℕ) → k ≤ n → take k (plots_from L s at n) ≡ plots_from L s at k
unfolding plots_from
take_plots L s at n zero h = refl
take_plots L s at zero (suc k) h = absurd (omega arith)
take_plots L s at (suc n) (suc k) h = ap (λ (x : List Record). decoded (layout_of L) (part s at L) ∷ x) (take_plots L s (at + L) n k (omega arith))

pub drop_plots : (L : ℕ) (s : List ℕ) (at n k : ℕ) → k ≤ n → drop k (plots_from L s at n) ≡ plots_from L s (at + L * k) (n - k)
unfolding plots_from
drop_plots L s at n zero h = rw (mul-zero, add-zero, sub-zero)
drop_plots L s at zero (suc k) h = absurd (omega arith)
drop_plots L s at (suc n) (suc k) h =
    let e : at + L * suc k ≡ at + L + L * k = omega (arith, mul-suc L k) in
    rw (e, suc-sub-suc) (drop_plots L s (at + L) n k (omega arith))

-- with one more in its place
pub put_among : (L : ℕ) (s : List ℕ) (at n k : ℕ) (r : Record) → k ≡ rank r.number (plots_from L s at n) → k ≤ n
    → plots_from L s at k ++ (r ∷ plots_from L s (at + L * k) (n - k)) ≡ put_in_order r (plots_from L s at n)
put_among L s at n k r e h =
    rw (← take_plots L s at n k h, ← drop_plots L s at n k h)
    (ap (λ (m : ℕ). take m (plots_from L s at n) ++ (r ∷ drop m (plots_from L s at n))) e ∙ sym (put_in_order_parts r (plots_from L s at n)))

-- they are those of the bytes they stand in, wherever these are
pub plots_same : (L : ℕ) (s t : List ℕ) (at to n : ℕ) → part s at (L * n) ≡ part t to (L * n) → plots_from L s at n ≡ plots_from L t to n
unfolding plots_from
plots_same L s t at to zero e = refl
plots_same L s t at to (suc n) e =
    let m : L * suc n ≡ L + L * n = omega (arith, mul-suc L n) in
    let f : part s at (L + L * n) ≡ part t to (L + L * n) = rw m at e in
    let g : part s at L ≡ part t to L =
    sym (take-take L (L + L * n) (drop at s) (omega arith)) ∙ ap (take L) f ∙ take-take L (L + L * n) (drop to t) (omega arith) in
    let h : part s (at + L) (L * n) ≡ part t (to + L) (L * n) =
    rw (← drop-drop L at s, ← drop-drop L to t) (sym (drop_take L (L * n) (drop at s)) ∙ ap (drop L) f ∙ drop_take L (L * n) (drop to t)) in
    rw g (ap (λ (x : List Record). decoded (layout_of L) (part t to L) ∷ x) (plots_same L s t (at + L) (to + L) n h))

-- ---- where a number stands: the first record decides, or the others do

module _ (L : ℕ) (s : List ℕ) (p n v m : ℕ) (h : 0 < n) (e : m ≡ (decoded (layout_of L) (part s p L)).number) where
  pub rank_here : v ≤ m → rank v (plots_from L s p n) ≡ 0
  rank_here q = rw (plots_more L s p n h, ← e, le-ltb m v q)

  pub rank_on : m < v → rank v (plots_from L s p n) ≡ suc (rank v (plots_from L s (p + L) (n - 1)))
  rank_on q = rw (plots_more L s p n h, ← e, lt-ltb m v q)

  pub present_here : m ≡ v → present v (plots_from L s p n) ≡ true
  present_here q = rw (plots_more L s p n h, ← e, eq-eqb m v q)

  pub present_on : (m ≡ v → ⊥) → present v (plots_from L s p n) ≡ present v (plots_from L s (p + L) (n - 1))
  present_on q = rw (plots_more L s p n h, ← e, ne_eqb m v q)

pub present_end : (L : ℕ) (s : List ℕ) (p n v : ℕ) → n ≤ 0 → present v (plots_from L s p n) ≡ false
present_end L s p n v h = rw (plots_none L s p n h)

-- ---- which layout they fit

-- a plot number that was read is one of 32 bits, and a fee row of 16
pub plot_sized : (L : ℕ) (s : List ℕ) (at : ℕ) → AreBytes s → Sized (decoded (layout_of L) (part s at L))
plot_sized L s at b =
    rw (decoded_at (layout_of L) s at L (within_length L)) (record {
      number_fits = field_small L s at 0 number_width b (omega arith) (narrow_fields L 0);
      fee_fits = field_small L s at 11 fee_width b (omega arith) (narrow_fee L);
    })

-- records that were checked fit the layout that is written
pub plots_fit : (L : ℕ) (s : List ℕ) (at n v : ℕ) → AreBytes s → Ascending HasOctagon v (plots_from L s at n) → All (Fits (layout_of record_length)) (plots_from L s at n)
unfolding plots_from
plots_fit L s at zero v b g = none
plots_fit L s at (suc n) v b (next h q g) = more (accepted_fits _ q.0 (plot_sized L s at b) q.1) (plots_fit L s (at + L) n _ b g)
