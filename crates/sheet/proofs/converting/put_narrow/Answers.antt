-- `put_narrow` meets its contract. Assumes nothing.
use mathlib.Core.Path.{◌≡◌, sym, ap, ◌∙◌}
use mathlib.Core.List.{List}
use Prim.Native.Nat.{ℕ, ◌+◌, ◌-◌, ◌*◌, ◌≤◌}
use native.Mathlib.Omega.{arith}
use lib.ListN.{length}
use Rattle.records.specs.Numbers.{AreBytes}
use Rattle.records.specs.Parts.{part, splice}
use Rattle.records.proofs.Splices.{splice_nil}
use Rattle.records.proofs.Rows.{mul_more, mul_split}
use Rattle.sheet.specs.declared.Record.{Record}
use Rattle.sheet.specs.Layout.{fee_length, fee, layout_of, encoded, decoded}
use Rattle.sheet.specs.Sheets.{plots_from, rows_bytes}
use Rattle.sheet.proofs.Plots.{length_plots, plots_more, plots_none, all_plot}
use Rattle.sheet.proofs.WrittenRows.{rows_kept, written_turn}
use Rattle.sheet.proofs.Strays.{narrow_fit}
use Rattle.sheet.proofs.converting.put_narrow.Goals as goal

-- records that keep their length keep their bytes
kept : (s : List ℕ) (L at n : ℕ) → L ≡ fee_length → AreBytes s → at + L * n ≤ length s
    → part s at (fee_length * n) ≡ rows_bytes fee_length (plots_from L s at n)
kept s L at n e b h = rw e (sym (rows_kept fee_length fee s at n b (rw e at h)))

pub returns-then-x-eq-FEE_RECORD : goal.returns-then-x-eq-FEE_RECORD
returns-then-x-eq-FEE_RECORD c =
    let a = c.args in
    let x = a.x in
    let n : x.at + fee_length * x.count - x.at ≡ fee_length * x.count = omega arith in
    let b : AreBytes a.s.now = λ i. omega (arith, c.type_inv.s i) in
    (rw n at c.copy_bytes.ensures) ∙ ap (splice a.u.now a.to) (kept a.s.now x.each.bytes x.at x.count c.if-x-eq-FEE_RECORD.true b c.requires.in_bounds.0)

-- none leaves the old map, so each fits
pub put_record-requires : goal.put_record-requires
put_record-requires c =
    let a = c.args in
    let x = a.x in
    let l = c.loop-k in
    let b : AreBytes a.s.now = λ i. omega (arith, c.type_inv.s i) in
    let f = narrow_fit x.each.bytes a.s.now x.at x.count b c.requires.on_old_map in (
      omega (arith, mul_split fee_length x.count l.k (omega arith), c.requires.in_bounds.1, l.invariant.0),
      rw (c.plot-r.ensures ∙ c.record.ensures.plot) (all_plot x.each.bytes a.s.now x.at x.count l.k (omega arith) f),
    )

pub loop-k-preserved : goal.loop-k-preserved
loop-k-preserved c =
    let a = c.args in
    let x = a.x in
    let l = c.loop-k in
    let L = x.each.bytes in
    let p = x.at + L * l.k in
    let o = a.to + fee_length * l.k in
    let m = x.count - l.k in
    let p₁ : x.at + L * (l.k + 1) ≡ p + L = omega (arith, mul_more L l.k) in
    let o₁ : a.to + fee_length * (l.k + 1) ≡ o + fee_length = omega arith in
    let m₁ : x.count - (l.k + 1) ≡ m - 1 = omega arith in
    let f = c.put_record.ensures ∙ ap (λ (r : Record). splice l.u o (encoded (layout_of fee_length) r)) (c.plot-r.ensures ∙ c.record.ensures.plot) in
    let room : o + fee_length * length (plots_from L a.s.now p m) ≤ length a.u.now =
    omega (arith, length_plots L a.s.now p m, mul_split fee_length x.count l.k (omega arith), c.requires.in_bounds.1) in
    let all = plots_from L a.s.now p m in
    let rest = plots_from L a.s.now (p + L) (m - 1) in
    let more = plots_more L a.s.now p m (omega arith) in
    let t = written_turn fee_length fee l.u _ _ o (length a.u.now) (decoded (layout_of L) (part a.s.now p L)) all rest more f l.invariant.0 room l.invariant.1 in
    rw (p₁, o₁, m₁) (t.0, t.2)

pub returns : goal.returns
returns c =
    let a = c.args in
    let x = a.x in
    let l = c.loop-k in
    let L = x.each.bytes in
    let o = a.to + fee_length * l.k in
    sym (splice_nil l.u o)
    ∙ ap (λ (rs : List Record). splice l.u o (rows_bytes fee_length rs)) (sym (plots_none L a.s.now (x.at + L * l.k) (x.count - l.k) (omega arith)))
    ∙ l.invariant.1
