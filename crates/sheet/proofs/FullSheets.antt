-- The limit of 65,536 bytes holds 2,730 records of 24 bytes, and 2,520 of 26: a sheet of 2,521 to 2,730 records of 24 checks, and has no room
-- at 26 in any buffer (`full_refused`), and one of up to 2,520 has (`full_accepted`). Assumes nothing.
use mathlib.Core.Path.{◌≡◌, refl, sym, ap, ◌∙◌}
use mathlib.Core.Bool.{Bool, true, false, ◌||◌}
use mathlib.Core.List.{List, [], ◌∷◌, append-nil}
use Prim.Native.Nat.{ℕ, zero, suc, ◌+◌, ◌*◌, ◌^◌, ◌≤◌, ◌<◌}
use native.Mathlib.Omega.{arith}
use lib.IntN.{pos}
use lib.ListN.{length, get_or}
use lib.Dec.{ltb}
use borrow.Author.Tests.{lt-ltb}
use Rattle.octagon.specs.Outcome.{accepted, refused}
use Rattle.octagon.specs.NormalForm.{is_on_map, placed}
use Rattle.outline.specs.Closing.{closes}
use Rattle.outline.specs.Walk.{with_sides, side, vertex}
use Rattle.outline.specs.Tracing.{bounds_at, drawn, traced, traced_in}
use Rattle.outline.proofs.Steps.{eight}
use Rattle.sheet.specs.declared.Record.{Record}
use Rattle.sheet.specs.Answers.{no_room}
use Rattle.sheet.specs.Layout.{base_layout, base_length, base, fee_length, layout_of, map_limit, old_limit, Fits}
use Rattle.sheet.specs.Trailer.{trailer_length}
use Rattle.sheet.specs.Order.{All, none, more, Ascending, last, next}
use Rattle.sheet.specs.Sheets.{sheet_limit, Sheet, sheet_bytes, sheet_length}
use Rattle.sheet.specs.Checking.{parsed, checked}
use Rattle.sheet.specs.Cases.{HasOctagonIn}
use Rattle.sheet.specs.Writing.{has_no_room}
use Rattle.sheet.specs.Converting.{converted}
use Rattle.sheet.proofs.Layouts.{each_layout}
use Rattle.sheet.proofs.Checks.{checked_count}
use Rattle.sheet.proofs.Sheets.{parsed_again}
use Rattle.sheet.proofs.Inserts.{room_enough}
use Rattle.sheet.proofs.Strays.{all_old}
use Rattle.sheet.proofs.Conversions.{narrow_room, narrow_good, convert_rest}

-- ---- n plots of the one cell at the middle of the map, with the numbers above v

abbrev middle_plot : ℕ → Record
middle_plot v = record { number = v; outline = with_sides (pos 0) (pos 0) []; fee_row = 0 }

abbrev cells_from : ℕ → ℕ → List Record
cells_from v zero = []
cells_from v (suc n) = middle_plot (suc v) ∷ cells_from (suc v) n

many : (v n : ℕ) → length (cells_from v n) ≡ n
many v zero = refl
many v (suc n) = ap suc (many (suc v) n)

on_old_map : (v : ℕ) → HasOctagonIn old_limit (middle_plot v)
unfolding traced_in traced closes placed is_on_map drawn bounds_at vertex
on_old_map v = (drawn (middle_plot v).outline, refl)

rising : (v n : ℕ) → Ascending (HasOctagonIn old_limit) v (cells_from v n)
rising v zero = last
rising v (suc n) = next (omega arith) (on_old_map (suc v)) (rising (suc v) n)

fits : (v : ℕ) → v < 256 ^ 4 → Fits base_layout (middle_plot v)
fits v h = record {
  fits_number = h;
  fits_i = omega arith;
  fits_j = omega arith;
  fits_sides =
      eight (λ k. side (middle_plot v).outline k < 256 ^ get_or base_layout (3 + k) 0)
      (omega arith) (omega arith) (omega arith) (omega arith) (omega arith) (omega arith) (omega arith) (omega arith);
  fits_fee = omega arith;
}

all_fit : (v n : ℕ) → v + n < 256 ^ 4 → All (Fits (layout_of base_length)) (cells_from v n)
all_fit v zero h = none
all_fit v (suc n) h = more (rw each_layout.0 (fits (suc v) (omega arith))) (all_fit (suc v) n (omega arith))

-- ---- a sheet of them, of 24 bytes a record and no heading

abbrev pub cells_sheet : ℕ → Sheet
cells_sheet n = record { heading = []; plots = cells_from 0 n }

cells_long : (L n : ℕ) → sheet_length L (cells_sheet n) ≡ L * n + trailer_length
cells_long L n = rw (many 0 n) (omega arith)

module _ (n : ℕ) (h : n ≤ 2730) where
  abbrev bytes : List ℕ
  bytes = sheet_bytes base_length (cells_sheet n)

  is_parsed : parsed (sheet_bytes base_length (cells_sheet n)) (base_length * n + trailer_length) ≡ accepted (cells_sheet n)
  unfolding map_limit
  is_parsed =
      rw (cells_long base_length n, append-nil (sheet_bytes base_length (cells_sheet n))) at
      (parsed_again base_length base (cells_sheet n) [] (rw (cells_long base_length n) (omega arith)) (all_fit 0 n (omega arith)) (rising 0 n))

  pub full_checked : checked (sheet_bytes base_length (cells_sheet n)) (base_length * n + trailer_length) ≡ accepted n
  full_checked = checked_count bytes (base_length * n + trailer_length) is_parsed ∙ ap accepted (many 0 n)

  module _ (u : List ℕ) where
    -- 12, however long the second buffer is
    pub full_refused : 2520 < n → converted (sheet_bytes base_length (cells_sheet n)) (base_length * n + trailer_length) u ≡ refused no_room
    full_refused m =
        let e = narrow_room u (cells_sheet n) (all_old (rising 0 n)) (rw (cells_long fee_length n) (above (fee_length * n + trailer_length) (omega arith))) in
        sym (convert_rest bytes (base_length * n + trailer_length) u is_parsed).0 ∙ rw e
      where
        or_true : (b : Bool) → (b || true) ≡ true
        or_true true = refl
        or_true false = refl

        above : (k : ℕ) → sheet_limit < k → has_no_room u k ≡ true
        above k l = rw (lt-ltb sheet_limit k l) (or_true (ltb (length u) k))

    -- the new length, where the second buffer has room for it
    pub full_accepted : n ≤ 2520 → fee_length * n + trailer_length ≤ length u
        → converted (sheet_bytes base_length (cells_sheet n)) (base_length * n + trailer_length) u ≡ accepted (fee_length * n + trailer_length)
    full_accepted m r =
        let e = narrow_good u (cells_sheet n) (all_old (rising 0 n)) (rw (cells_long fee_length n) (room_enough u (fee_length * n + trailer_length) r (omega arith))) in
        sym (convert_rest bytes (base_length * n + trailer_length) u is_parsed).0 ∙ rw e (ap accepted (cells_long fee_length n))
