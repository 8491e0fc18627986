-- `list` meets its contract: a sheet that is refused has one line, and the listing fits the page. Assumes nothing.
use mathlib.Core.Path.{◌≡◌, sym, ap}
use mathlib.Core.List.{List}
use Prim.Native.Nat.{ℕ}
use native.Mathlib.Omega.{arith}
use lib.ListN.{length}
use Rattle.records.specs.Parts.{splice}
use Rattle.report.specs.declared.page.Page.{Page}
use Rattle.report.specs.Lines.{Prefix}
use Rattle.report.specs.Listing.{listing}
use Rattle.report.specs.Pages.{Written}
use Rattle.report.proofs.Writing.{put_prefix}
use Rattle.report.proofs.Lengths.{listing_fits}
use Rattle.report.proofs.Listings.{listing_accepted, listing_refused}
use Rattle.report.proofs.list.Goals.{in-Err, in-Ok}
use Rattle.report.proofs.list.Goals as goal

-- a text written on a page that is new
listed : (p q : Page) {t : List ℕ} (w : List ℕ) {n : ℕ} → p.text.now ≡ t → p.at ≡ 0 → Written p w q → n ≡ q.at →
    Prefix n q.text.now × ((n ≡ length w) × (q.text.now ≡ splice t 0 w))
listed p q w e f a g = let p = rw (e, f) at a.put in rw g (put_prefix p, (omega (arith, p.past), p.text))

pub put_refused-requires : goal.put_refused-requires
put_refused-requires c =
    let a = c.args in
    let most = listing_fits a.sheet.now a.len (λ i. omega (arith, c.type_inv.sheet i)) in
    let new = c.new-page.ensures in
    rw c.number.ensures (omega (arith, most, c.told-text, new.at, ap length new.text, ap length (listing_refused a.sheet.now a.len _ (sym c.in-Err.ensures))))

pub put_all-requires-clause-len_in_bounds : goal.put_all-requires-clause-len_in_bounds
put_all-requires-clause-len_in_bounds c =
    let a = c.args in
    let most = listing_fits a.sheet.now a.len (λ i. omega (arith, c.type_inv.sheet i)) in
    let new = c.new-page.ensures in
    omega (arith, most, c.told-text, new.at, ap length new.text, ap length (listing_accepted a.sheet.now a.len _ (sym c.in-Ok.ensures)))

pub returns : goal.returns
returns c =
    let a = c.args in
    let new = c.new-page.ensures in
    elim c.match-check.branch [
      | in-Err w ↦
          let e = listing_refused a.sheet.now a.len _ (sym w.in-Err.ensures) in
          let l = listed c.new-page.result c.match-check.page (listing a.sheet.now a.len) new.text new.at (rw (w.page-is, e, ← w.number.ensures) w.put_refused.ensures) c.len.ensures in
          record { prefix = l.0; value = l.1 }
      | in-Ok w ↦
          let e = listing_accepted a.sheet.now a.len _ (sym w.in-Ok.ensures) in
          let l = listed c.new-page.result c.match-check.page (listing a.sheet.now a.len) new.text new.at (rw (w.page-is, e) w.put_all.ensures) c.len.ensures in
          record { prefix = l.0; value = l.1 }
    ]
