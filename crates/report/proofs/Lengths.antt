-- No line of a listing is longer than `line_limit`, and no listing is longer than `text_limit`. Assumes nothing.
use mathlib.Core.Path.{◌≡◌, refl}
use mathlib.Core.List.{List, [], ◌∷◌, ◌++◌}
use Prim.Native.Nat.{ℕ, zero, suc, ◌+◌, ◌-◌, ◌*◌, ◌^◌, ◌≤◌, ◌<◌}
use native.Mathlib.Omega.{arith}
use native.Mathlib.Nat.{pow-le-pow_right}
use lib.IntN.{ℤ, pos, negsuc, nat_abs}
use lib.ListN.{length, get_or, drop, length-append}
use mir.Syntax.{w32}
use mir.Val.{SFits}
use Rattle.octagon.specs.Outcome.{Outcome, accepted, refused}
use Rattle.octagon.proofs.Outcomes.{refused_same, accepted_not_refused}
use Rattle.records.specs.Numbers.{AreBytes, signed, unpacked}
use Rattle.records.specs.Parts.{part}
use Rattle.sheet.specs.declared.Record.{Record}
use Rattle.sheet.specs.Layout.{field_count, layout_of, decoded}
use Rattle.sheet.specs.Trailer.{trailer_length, trailer_at}
use Rattle.sheet.specs.Sheets.{plots_from, first}
use Rattle.sheet.specs.Checking.{plots, checked}
use Rattle.sheet.proofs.TwosComplement.{signed_fits}
use Rattle.sheet.proofs.Layouts.{every_field, narrow_fields, within_length, decoded_at, field_below}
use Rattle.sheet.proofs.Frames.{frame_few}
use Rattle.sheet.proofs.Checks.{checked_plotted}
use Rattle.sheet.specs.Cases.{FrameFault, wrong_size, unmarked, misplaced, Faulty, wrong_number, open_outline, off_outline, later, CheckCase, frame_wrong, faulty, right}
use Rattle.sheet.proofs.CheckCases.{check_case}
use Rattle.records.specs.Text.{ascii}
use Rattle.report.specs.Decimal.{decimal, sign, signed_decimal}
use Rattle.report.specs.Lines.{spaced, line, heading_line, row_line, last_line, refused_line}
use Rattle.report.specs.Listing.{cell_number, row_of, rows_of, total_cells, full, listing, line_limit, text_limit}
use Rattle.report.proofs.Decimals.{length_decimal}
use Rattle.report.proofs.Plots.{cells_most, total_fits}
use Rattle.report.proofs.Listings.{listing_refused, listing_accepted}

-- ---- words and lines

-- each word is at most twenty bytes long
data Short : List (List ℕ) → Type 0 where
  none : Short []
  more : {w : List ℕ} {ws : List (List ℕ)} → length w ≤ 20 → Short ws → Short (w ∷ ws)

spaced_length : {ws : List (List ℕ)} → Short ws → length (spaced ws) ≤ 21 * length ws + 1
spaced_length none = omega arith
spaced_length (more {w = w} {ws = ws} h s) = omega (arith, length-append w (spaced ws), spaced_length s)

line_length : (w : List ℕ) {ws : List (List ℕ)} → length w ≤ 20 → Short ws → length (line w ws) ≤ 21 * suc (length ws)
line_length w {ws} h s = omega (arith, length-append w (spaced ws), spaced_length s)

number_short : (n : ℕ) → n < 2 ^ 64 → length (decimal n) ≤ 20
number_short n h = length_decimal 20 n (omega arith) (omega arith)

signed_decimal_short : (z : ℤ) → nat_abs z < 2 ^ 63 → length (signed_decimal z) ≤ 20
unfolding signed_decimal
signed_decimal_short z h = omega (arith, length-append (sign z) (decimal (nat_abs z)), one z, length_decimal 19 (nat_abs z) (omega arith) (omega arith))
  where
    one : (z : ℤ) → length (sign z) ≤ 1
    one (pos n) = omega arith
    one (negsuc n) = omega arith

-- a number more in a line
numbers : (n : ℕ) {ws : List (List ℕ)} → n < 2 ^ 64 → Short ws → Short (decimal n ∷ ws)
numbers n h s = more {w = decimal n} (number_short n h) s

integers : (z : ℤ) {ws : List (List ℕ)} → nat_abs z < 2 ^ 63 → Short ws → Short (signed_decimal z ∷ ws)
integers z h s = more {w = signed_decimal z} (signed_decimal_short z h) s

-- ---- a record that was read from bytes

-- its numbers fit 64 bits
record Small (r : Record) : Type 0 where
  number : r.number < 2 ^ 64
  i : nat_abs r.outline.i < 2 ^ 63
  j : nat_abs r.outline.j < 2 ^ 63
  n0 : r.outline.n0 < 2 ^ 64
  n1 : r.outline.n1 < 2 ^ 64
  n2 : r.outline.n2 < 2 ^ 64
  n3 : r.outline.n3 < 2 ^ 64
  n4 : r.outline.n4 < 2 ^ 64
  n5 : r.outline.n5 < 2 ^ 64
  n6 : r.outline.n6 < 2 ^ 64
  n7 : r.outline.n7 < 2 ^ 64
  fee : r.fee_row < 2 ^ 64

start_small : (w v : ℕ) → w ≤ 4 → v < 256 ^ w → nat_abs (signed w v) < 2 ^ 63
start_small w v n h = near (signed w v) (signed_fits w v n h)
  where
    near : (z : ℤ) → SFits w32 z → nat_abs z < 2 ^ 63
    near (pos n) f = omega (arith, f.sfits)
    near (negsuc n) f = omega (arith, f.sfits)

small : (L : ℕ) (s : List ℕ) (at : ℕ) → AreBytes s → Small (decoded (layout_of L) (part s at L))
small L s at b =
    let ws = layout_of L in
    let below : (k : ℕ) → k < field_count → get_or (unpacked ws (drop at s)) k 0 < 256 ^ get_or ws k 0 = λ k h. field_below ws s at k b (omega (arith, every_field L)) in
    let most : (k : ℕ) → k < field_count → get_or (unpacked ws (drop at s)) k 0 < 2 ^ 64 =
    λ k h. omega (arith, below k h, pow-le-pow_right {n = 256} (omega arith) {i = get_or ws k 0} {j = 4} (narrow_fields L k)) in
    rw (decoded_at ws s at L (within_length L)) record {
      number = most 0 (omega arith);
      i = start_small _ _ (narrow_fields L 1) (below 1 (omega arith));
      j = start_small _ _ (narrow_fields L 2) (below 2 (omega arith));
      n0 = most 3 (omega arith);
      n1 = most 4 (omega arith);
      n2 = most 5 (omega arith);
      n3 = most 6 (omega arith);
      n4 = most 7 (omega arith);
      n5 = most 8 (omega arith);
      n6 = most 9 (omega arith);
      n7 = most 10 (omega arith);
      fee = most 11 (omega arith);
    }

row_length : (r : Record) → Small r → length (row_of r) ≤ line_limit
unfolding row_of row_line
row_length r h =
    let o = r.outline in
    line_length (decimal r.number) (number_short r.number h.number)
    (integers o.i h.i (integers o.j h.j
    (numbers o.n0 h.n0 (numbers o.n1 h.n1 (numbers o.n2 h.n2 (numbers o.n3 h.n3
    (numbers o.n4 h.n4 (numbers o.n5 h.n5 (numbers o.n6 h.n6 (numbers o.n7 h.n7
    (numbers (cell_number o) (omega (arith, cells_most o)) (numbers r.fee_row h.fee none))))))))))))

rows_length : (L : ℕ) (s : List ℕ) (at n : ℕ) → AreBytes s → length (rows_of (plots_from L s at n)) ≤ line_limit * n
unfolding plots_from
rows_length L s at zero b = omega arith
rows_length L s at (suc n) b =
    let r = decoded (layout_of L) (part s at L) in
    omega (arith, length-append (row_of r) (rows_of (plots_from L s (at + L) n)), row_length r (small L s at b), rows_length L s (at + L) n b)

-- ---- the other lines, and the listing

last_length : (c n : ℕ) → c < 2 ^ 64 → n < 2 ^ 64 → length (last_line c n) ≤ line_limit
unfolding last_line
last_length c n h l =
    omega (arith, line_length (ascii "plots") (omega arith) (numbers c h (more {w = ascii "cells"} (omega arith) (numbers n l none))))

refused_length : (k : ℕ) → k < 2 ^ 64 → length (refused_line k) ≤ line_limit
unfolding refused_line
refused_length k h = omega (arith, line_length (ascii "refused") (omega arith) (numbers k h none))

-- a check gives no number above 11
fault_small : {m before e : ℕ} {rs : List Record} → Faulty m before rs e → e ≤ 11
fault_small (wrong_number h) = omega arith
fault_small (open_outline h f) = omega arith
fault_small (off_outline h k f) = omega arith
fault_small (later h t f) = fault_small f

frame_fault_small : {s : List ℕ} {len e : ℕ} → FrameFault s len e → e ≤ 11
frame_fault_small (wrong_size h) = omega arith
frame_fault_small (unmarked l h) = omega arith
frame_fault_small (misplaced l m h) = omega arith

refusal_small : {s : List ℕ} {len : ℕ} {o : Outcome ℕ} (e : ℕ) → CheckCase s len o → o ≡ refused e → e ≤ 11
refusal_small e (frame_wrong h) q = omega (arith, refused_same q, frame_fault_small h)
refusal_small e (faulty f h) q = omega (arith, refused_same q, fault_small h)
refusal_small e (right f g) q = absurd (accepted_not_refused q)

full_length : (s : List ℕ) (len c : ℕ) → AreBytes s → checked s len ≡ accepted c → length (full (plots s len)) ≤ text_limit
unfolding full heading_line
full_length s len c b e =
    let p = checked_plotted s len c e in
    let k = frame_few s len c p.frame in
    let n = p.many in
    let rs = plots s len in
    let z = trailer_at s (len - trailer_length) in
    let r : length (rows_of rs) ≤ line_limit * c =
    rw (p.are, ← p.frame.count) (rows_length z.length s (first len z.distance) z.count b) in
    omega (
      arith,
      length-append heading_line (rows_of rs ++ last_line (length rs) (total_cells rs)),
      length-append (rows_of rs) (last_line (length rs) (total_cells rs)),
      last_length (length rs) (total_cells rs) (omega arith) (total_fits s len c e),
    )

pub listing_fits : (s : List ℕ) (len : ℕ) → AreBytes s → length (listing s len) ≤ text_limit
listing_fits s len b = go (checked s len) refl
  where
    go : (o : Outcome ℕ) → checked s len ≡ o → length (listing s len) ≤ text_limit
    go (accepted c) e = rw (listing_accepted s len c e) (full_length s len c b e)
    go (refused k) e = rw (listing_refused s len k e) (omega (arith, refused_length k (omega (arith, refusal_small k (check_case s len) e))))
