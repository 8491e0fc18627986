-- `has_stray` meets its contract: the record that is next leaves the old map, or those that are left decide. Assumes nothing.
use mathlib.Core.Path.{◌≡◌, sym, ap, ◌∙◌}
use Prim.Native.Nat.{◌+◌, ◌-◌, ◌*◌}
use native.Mathlib.Omega.{arith}
use Rattle.records.proofs.Rows.{mul_more}
use Rattle.sheet.specs.Layout.{map_limit}
use Rattle.sheet.specs.Stored.{plots_of}
use Rattle.sheet.specs.Converting.{is_stray}
use Rattle.sheet.proofs.Surveys.{surveyed_passed}
use Rattle.sheet.proofs.Strays.{strays_old, stray_here, stray_on, stray_end}
use Rattle.sheet.proofs.converting.has_stray.Goals as goal

-- those that are shorter were checked on the old map
pub returns-then-rows-ne-COUNTY_RECORD : goal.returns-then-rows-ne-COUNTY_RECORD
returns-then-rows-ne-COUNTY_RECORD c =
    let x = c.args.x in
    let L = x.rows.each.bytes in
    sym (strays_old L c.if-rows-ne-COUNTY_RECORD.true (surveyed_passed (map_limit L) tt tt 0 (plots_of x) x.surveyed).0)

pub returns-then-is_stray : goal.returns-then-is_stray
returns-then-is_stray c =
    let l = c.loop-k in
    let x = c.args.x.rows in
    sym (l.invariant
    ∙ stray_here x.each.bytes c.args.x.bytes.now (x.at + x.each.bytes * l.k) (x.count - l.k) (omega arith) (ap is_stray (sym c.record.ensures.plot) ∙ sym c.is_stray.ensures ∙ c.if-is_stray.true))

pub loop-k-preserved : goal.loop-k-preserved
loop-k-preserved c =
    let l = c.loop-k in
    let x = c.args.x.rows in
    let p : x.at + x.each.bytes * (l.k + 1) ≡ x.at + x.each.bytes * l.k + x.each.bytes = omega (arith, mul_more x.each.bytes l.k) in
    let n : x.count - (l.k + 1) ≡ x.count - l.k - 1 = omega arith in
    rw (p, n)
    (l.invariant
    ∙ stray_on x.each.bytes c.args.x.bytes.now (x.at + x.each.bytes * l.k) (x.count - l.k) (omega arith) (ap is_stray (sym c.record.ensures.plot) ∙ sym c.is_stray.ensures ∙ c.if-is_stray.false))

pub returns : goal.returns
returns c =
    let l = c.loop-k in
    let x = c.args.x.rows in
    sym (l.invariant ∙ stray_end x.each.bytes c.args.x.bytes.now (x.at + x.each.bytes * l.k) (x.count - l.k) (omega arith))
