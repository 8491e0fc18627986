-- A record whose outline is accepted fits the layout that is written, and one on the old map that of 26: its start is on the map, and no side
-- is longer than the map is wide. Assumes nothing.
use mathlib.Core.Path.{◌≡◌}
use Prim.Native.Nat.{ℕ, ◌+◌, ◌*◌, ◌/◌, ◌^◌, ◌<◌}
use lib.ListN.{get_or}
use native.Mathlib.Omega.{arith}
use lib.IntN.{ℤ, pos, negsuc}
use lib.Signed.{mag}
use Rattle.integers.proofs.Parts.{up, dn}
use Rattle.integers.proofs.Linear.{#, neg, lit, ◌≼◌}
use Rattle.octagon.specs.Octagon.{Octagon}
use Rattle.octagon.specs.Outcome.{accepted}
use Rattle.octagon.specs.Cells.{limit}
use Rattle.octagon.proofs.Within.{NearTo}
use Rattle.octagon.proofs.Vertices.{reached_normal}
use Rattle.octagon.proofs.Map.{cells_near}
use Rattle.outline.specs.Closing.{Closes}
use Rattle.outline.specs.Walk.{side}
use Rattle.outline.proofs.Steps.{eight}
use Rattle.outline.specs.Tracing.{drawn, traced, traced_in}
use Rattle.outline.proofs.Tracings.{accepted_means, accepted_drawn, in_near}
use Rattle.outline.proofs.Drawn.{walked, reached}
use Rattle.sheet.specs.declared.Record.{Record}
use Rattle.sheet.specs.Layout.{fee_width, of_widths, fee_length, record_length, layout_of, old_limit, Fits, Sized}
use Rattle.sheet.proofs.Layouts.{each_layout, record_layout}

-- a number that is at most m from 0
near_mag : (m : ℕ) (z : ℤ) → # z ≼ lit m → neg (# z) ≼ lit m → mag z < m + 1
unfolding up dn
near_mag m (pos n) h l = omega arith
near_mag m (negsuc n) h l = omega arith

-- on the map from -m to m, in fields of w bytes that hold m and its double
fits : (m w : ℕ) (r : Record) → m < 256 ^ w / 2 → 2 * m < 256 ^ w → Sized r → Closes r.outline → NearTo m (drawn r.outline) → Fits (of_widths w fee_width) r
fits m w r p q v k n =
    let x = walked r.outline in
    let y = reached r.outline in
    record {
      fits_number = v.number_fits;
      fits_i = omega (arith, near_mag m r.outline.i (omega arith) (omega arith));
      fits_j = omega (arith, near_mag m r.outline.j (omega arith) (omega arith));
      fits_sides =
          eight (λ k. side r.outline k < 256 ^ get_or (of_widths w fee_width) (3 + k) 0)
          (omega arith) (omega arith) (omega arith) (omega arith) (omega arith) (omega arith) (omega arith) (omega arith);
      fits_fee = v.fee_fits;
    }

-- so a record whose outline is accepted fits the layout that is written
pub accepted_fits : (r : Record) (c : Octagon) → Sized r → traced r.outline ≡ accepted c → Fits (layout_of record_length) r
accepted_fits r c v e =
    let m = accepted_means r.outline c e in
    let n = rw (accepted_drawn r.outline c e) at (cells_near c (reached_normal c m.is_normalised.reached) m.on_the_map) in
    rw record_layout (fits limit 4 r (omega arith) (omega arith) v m.closed n)

-- and one that is within the old map the layout of 26, in which the converter writes
pub old_fits : (r : Record) (c : Octagon) → Sized r → traced_in old_limit r.outline ≡ accepted c → Fits (layout_of fee_length) r
old_fits r c v e =
    let t = in_near old_limit (omega arith) r.outline c e in
    let m = accepted_means r.outline c t.0 in
    let n = rw (accepted_drawn r.outline c t.0) at t.1 in
    rw each_layout.1 (fits old_limit 2 r (omega arith) (omega arith) v m.closed n)
