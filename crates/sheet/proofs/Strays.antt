-- A plot that leaves the old map: what is tested of it, what that says of its cells, that none of a sheet of 24 or 26 does, and that
-- those which do not leave it fit the layout of 26. Assumes nothing.
use mathlib.Core.Path.{◌≡◌, refl, sym, ◌∙◌}
use mathlib.Core.Bool.{Bool, true, false, cond, not}
use mathlib.Core.List.{List}
use Prim.Native.Nat.{ℕ, zero, suc, ◌+◌, ◌-◌, ◌≤◌, ◌<◌}
use native.Mathlib.Omega.{arith}
use borrow.Author.Tests.{ne_eqb}
use Rattle.integers.proofs.Tests.{or_false, true_is_not_false}
use Rattle.octagon.specs.Octagon.{Octagon}
use Rattle.octagon.specs.Outcome.{Outcome, accepted, refused, left, off_map}
use Rattle.octagon.specs.Cells.{Leaves}
use Rattle.octagon.specs.NormalForm.{is_within}
use Rattle.outline.specs.declared.Outline.{Outline}
use Rattle.outline.specs.Walk.{InsideWalk}
use Rattle.outline.specs.Tracing.{traced, traced_in}
use Rattle.outline.proofs.TracingCases.{TracingIn, is_octagon_in, is_open_in, is_off_in, tracing_in}
use Rattle.outline.proofs.Tracings.{in_means, accepted_means}
use Rattle.records.specs.Numbers.{AreBytes}
use Rattle.records.specs.Parts.{part}
use Rattle.sheet.specs.declared.Record.{Record}
use Rattle.sheet.specs.Layout.{old_limit, fee_length, county_length, layout_of, map_limit, decoded, Fits}
use Rattle.sheet.specs.Order.{All, none, more, Ascending, last, next}
use Rattle.sheet.specs.Sheets.{plots_from}
use Rattle.sheet.specs.Cases.{HasOctagon, HasOctagonIn}
use Rattle.sheet.specs.Converting.{is_stray, strays}
use Rattle.sheet.proofs.Outlines.{old_fits}
use Rattle.sheet.proofs.Plots.{plots_more, plots_none, plot_sized}

-- ---- one plot, as it is tested

module _ (r : Record) {o : Outline} (f : o ≡ r.outline) where
  pub stray_refused : {k : ℕ} → traced o ≡ refused k → true ≡ is_stray r
  unfolding is_stray traced_in
  stray_refused t = rw (← f, t)

  pub stray_accepted : {a : Octagon} → traced o ≡ accepted a → not (is_within old_limit a) ≡ is_stray r
  unfolding is_stray traced_in
  stray_accepted {a} t = rw (← f, t) (pick (is_within old_limit a))
    where
      pick : (b : Bool) → not b ≡ left true (cond b (accepted a) (refused off_map)) (λ _. false)
      pick true = refl
      pick false = refl

-- one that does not leave the old map has an octagon on it, and the other way round
pub not_stray : (r : Record) → is_stray r ≡ false → HasOctagonIn old_limit r
unfolding is_stray
not_stray r = go (traced_in old_limit r.outline) refl
  where
    go : (t : Outcome Octagon) → traced_in old_limit r.outline ≡ t → left true t (λ _. false) ≡ false → HasOctagonIn old_limit r
    go (accepted a) q e = (a, q)
    go (refused k) q e = absurd (true_is_not_false e)

pub within_old : (r : Record) → HasOctagonIn old_limit r → is_stray r ≡ false
unfolding is_stray
within_old r o = rw o.1

-- ---- a plot that leaves the old map, in cells

pub stray_leaves : (r : Record) → HasOctagon r → is_stray r ≡ true → Leaves old_limit (InsideWalk r.outline)
stray_leaves r o e = go (tracing_in old_limit (omega arith) r.outline) refl
  where
    go : {t : Outcome Octagon} → TracingIn old_limit r.outline t → traced_in old_limit r.outline ≡ t → Leaves old_limit (InsideWalk r.outline)
    go (is_octagon_in b q m) i = absurd (true_is_not_false (sym e ∙ within_old r (b, i)))
    go (is_open_in f) i = absurd (f (accepted_means r.outline o.0 o.1).closed)
    go (is_off_in k f) i = f

pub leaves_stray : (r : Record) → Leaves old_limit (InsideWalk r.outline) → is_stray r ≡ false → ⊥
leaves_stray r h e =
    let n = not_stray r e in
    let m = in_means old_limit (omega arith) r.outline n.0 n.1 in
    h.cell.1 (m.1 h.x h.y h.cell.0)

-- ---- records in order

-- of those that have octagons on the old map none leaves it
pub all_old : {v : ℕ} {rs : List Record} → Ascending (HasOctagonIn old_limit) v rs → strays rs ≡ false
all_old last = refl
all_old (next {r = r} h t g) = rw (within_old r t, all_old g)

-- so none of a sheet of 24 or 26 does
pub strays_old : {rs : List Record} (L : ℕ) → (L ≡ county_length → ⊥) → Ascending (HasOctagonIn (map_limit L)) 0 rs → strays rs ≡ false
unfolding map_limit
strays_old L n g = all_old (rw (ne_eqb L county_length n) at g)

-- and those of which none does have octagons on the map of records of 26
pub old_octagons : {v : ℕ} {rs : List Record} → Ascending HasOctagon v rs → strays rs ≡ false → Ascending (HasOctagonIn (map_limit fee_length)) v rs
unfolding map_limit
old_octagons last e = last
old_octagons (next {r = r} {rs = rs} h t g) e = let q = or_false (is_stray r) (strays rs) e in next h (not_stray r q.0) (old_octagons g q.1)

-- ---- records as they stand in a buffer

-- the first decides, or the others do
module _ (L : ℕ) (s : List ℕ) (p n : ℕ) where
  pub stray_here : 0 < n → is_stray (decoded (layout_of L) (part s p L)) ≡ true → strays (plots_from L s p n) ≡ true
  stray_here h e = rw (plots_more L s p n h, e)

  pub stray_on : 0 < n → is_stray (decoded (layout_of L) (part s p L)) ≡ false → strays (plots_from L s p n) ≡ strays (plots_from L s (p + L) (n - 1))
  stray_on h e = rw (plots_more L s p n h, e)

  pub stray_end : n ≤ 0 → strays (plots_from L s p n) ≡ false
  stray_end h = rw (plots_none L s p n h)

-- those of which none leaves the old map fit the layout of 26
pub narrow_fit : (L : ℕ) (s : List ℕ) (at n : ℕ) → AreBytes s → strays (plots_from L s at n) ≡ false
    → All (Fits (layout_of fee_length)) (plots_from L s at n)
unfolding plots_from
narrow_fit L s at zero b e = none
narrow_fit L s at (suc n) b e =
    let r = decoded (layout_of L) (part s at L) in
    let q = or_false (is_stray r) (strays (plots_from L s (at + L) n)) e in
    let o = not_stray r q.0 in
    more (old_fits r o.0 (plot_sized L s at b) o.1) (narrow_fit L s (at + L) n b q.1)
