-- A record is read from and written to the places that documents 01 and 02 (U2, U10) give its fields (`record_read`, `record_written`), for
-- each record length, and no other record has the same fields (`record_only`). Assumes nothing.
use mathlib.Core.Path.{◌≡◌, refl, sym, ap, ◌∙◌}
use mathlib.Core.List.{List}
use Prim.Native.Nat.{ℕ, ◌+◌, ◌-◌, ◌*◌, ◌≤◌, ◌<◌}
use native.Mathlib.Omega.{arith}
use lib.IntN.{ℤ}
use Rattle.outline.specs.Walk.{side}
use Rattle.outline.proofs.Steps.{eight}
use Rattle.records.specs.Numbers.{number, signed, unpacked}
use Rattle.records.specs.Fields.{field_at}
use lib.ListN.{length, get_or}
use Rattle.records.specs.Parts.{part}
use Rattle.records.proofs.Fields.{fields_read}
use Rattle.octagon.specs.Outcome.{accepted, refused}
use Rattle.sheet.specs.declared.Record.{Record}
use Rattle.sheet.specs.Answers.{no_record}
use Rattle.sheet.specs.Layout.{fee_width, of_widths, base_layout, fee_layout, county_layout, IsRecordLength, layout_of, encoded, decoded, Fits}
use Rattle.sheet.specs.Trailer.{trailer_length, trailer_at}
use Rattle.sheet.specs.Bytes.{FeeField, no_field, last_field, county_field, side_width, RecordFields}
use Rattle.sheet.specs.Order.{nth}
use Rattle.sheet.specs.Sheets.{plots_from, first}
use Rattle.sheet.specs.Cases.{GoodFrame, stated_plots, RecordAt}
use Rattle.sheet.proofs.Layouts.{decoded_encoded, every_field, by_length}
use Rattle.sheet.proofs.Order.{plot_past}
use Rattle.sheet.proofs.Plots.{length_plots, plot_from}

-- ---- reading

-- field k of a layout, by its place and its width
field_there : (ws b : List ℕ) (k i w : ℕ) → k < length ws → i ≡ field_at ws k → w ≡ get_or ws k 0 → number (part b i w) ≡ get_or (unpacked ws b) k 0
field_there ws b k i w h e q = rw (e, q) (fields_read ws b k h)

-- i, j and the sides of w bytes each, before a fee row of f bytes
fields_of : (L w f : ℕ) (b : List ℕ) → side_width L ≡ w → FeeField b (decoded (of_widths w f) b) L → RecordFields L b (decoded (of_widths w f) b)
unfolding decoded
fields_of L w f b q e =
    let ws = of_widths w f in
    record {
      plot_number = fields_read ws b 0 (omega arith);
      start_i = rw q (ap (signed w) (field_there ws b 1 4 w (omega arith) (omega arith) refl));
      start_j = rw q (ap (signed w) (field_there ws b 2 (4 + w) w (omega arith) (omega arith) refl));
      sides = rw q
          (eight (λ k. number (part b (4 + w * (2 + k)) w) ≡ side (decoded ws b).outline k)
          (field_there ws b 3 (4 + w * 2) w (omega arith) (omega arith) refl) (field_there ws b 4 (4 + w * 3) w (omega arith) (omega arith) refl)
          (field_there ws b 5 (4 + w * 4) w (omega arith) (omega arith) refl) (field_there ws b 6 (4 + w * 5) w (omega arith) (omega arith) refl)
          (field_there ws b 7 (4 + w * 6) w (omega arith) (omega arith) refl) (field_there ws b 8 (4 + w * 7) w (omega arith) (omega arith) refl)
          (field_there ws b 9 (4 + w * 8) w (omega arith) (omega arith) refl) (field_there ws b 10 (4 + w * 9) w (omega arith) (omega arith) refl));
      fee_row = e;
    }

base_read : (b : List ℕ) → FeeField b (decoded base_layout b) 24
unfolding decoded
base_read b = no_field refl

fee_read : (b : List ℕ) → FeeField b (decoded fee_layout b) 26
unfolding decoded
fee_read b = last_field (fields_read fee_layout b 11 (omega arith))

county_read : (b : List ℕ) → FeeField b (decoded county_layout b) 46
unfolding decoded
county_read b = county_field (fields_read county_layout b 11 (omega arith))

pub record_read : (L : ℕ) → IsRecordLength L → (b : List ℕ) → RecordFields L b (decoded (layout_of L) b)
record_read =
    by_length (λ L ws. (b : List ℕ) → RecordFields L b (decoded ws b))
    (λ b. fields_of 24 2 0 b refl (base_read b))
    (λ b. fields_of 26 2 fee_width b refl (fee_read b))
    (λ b. fields_of 46 4 fee_width b refl (county_read b))

-- the record of a plot number, a start, sides and a fee row
record_of : ℕ → ℤ → ℤ → (ℕ → ℕ) → ℕ → Record
record_of v i j n f = record {
  number = v;
  outline = record { i = i; j = j; n0 = n 0; n1 = n 1; n2 = n 2; n3 = n 3; n4 = n 4; n5 = n 5; n6 = n 6; n7 = n 7 };
  fee_row = f;
}

of_fields : (L : ℕ) (b : List ℕ) (r : Record) → RecordFields L b r
    → let w = side_width L in
    record_of (number (part b 0 4)) (signed w (number (part b 4 w))) (signed w (number (part b (4 + w) w))) (λ k. number (part b (4 + w * (2 + k)) w)) r.fee_row ≡ r
unfolding record_of
of_fields L b r f =
    rw (
      f.plot_number,
      f.start_i,
      f.start_j,
      f.sides 0 (omega arith),
      f.sides 1 (omega arith),
      f.sides 2 (omega arith),
      f.sides 3 (omega arith),
      f.sides 4 (omega arith),
      f.sides 5 (omega arith),
      f.sides 6 (omega arith),
      f.sides 7 (omega arith),
    )

same_fee : {b : List ℕ} {r q : Record} {L : ℕ} → FeeField b r L → FeeField b q L → r.fee_row ≡ q.fee_row
same_fee (no_field e) (no_field f) = e ∙ sym f
same_fee (last_field e) (last_field f) = sym e ∙ f
same_fee (county_field e) (county_field f) = sym e ∙ f

-- and there is no other record of these bytes
pub record_only : (L : ℕ) → IsRecordLength L → (b : List ℕ) (r : Record) → RecordFields L b r → r ≡ decoded (layout_of L) b
record_only L l b r f =
    let g = record_read L l b in
    sym (of_fields L b r f) ∙ ap (record_of _ _ _ _) (same_fee f.fee_row g.fee_row) ∙ of_fields L b (decoded (layout_of L) b) g

-- ---- the records of a sheet

-- record k of the c that a trailer states is the one whose fields stand at its place, and no other
module _ (s : List ℕ) (len c k : ℕ) (f : GoodFrame s len c) where
  abbrev each : ℕ
  each = (trailer_at s (len - trailer_length)).length

  -- they follow one another up to the trailer
  stand : stated_plots s len ≡ plots_from each s (first len (each * c)) c
  stand = rw (f.distance.distance_is, f.count)

  pub row_none : c ≤ k → nth (stated_plots s len) k ≡ refused no_record
  row_none h = rw stand (plot_past (plots_from each s (first len (each * c)) c) k (omega (arith, length_plots each s (first len (each * c)) c)))

  module _ (h : k < c) where
    there : nth (stated_plots s len) k ≡ accepted (decoded (layout_of each) (part s (first len (each * c) + each * k) each))
    there = rw stand (plot_from each s (first len (each * c)) c k h)

    pub row_read : (r : Record) × (nth (stated_plots s len) k ≡ accepted r) × RecordAt s len c k r
    row_read = (_, there, record_read each f.marks.length_is (part s (first len (each * c) + each * k) each))

    pub row_only : (r : Record) → RecordAt s len c k r → nth (stated_plots s len) k ≡ accepted r
    row_only r g = there ∙ ap accepted (sym (record_only each f.marks.length_is _ r g))

-- ---- writing

pub record_written : (L : ℕ) → IsRecordLength L → (r : Record) → Fits (layout_of L) r → RecordFields L (encoded (layout_of L) r) r
record_written L l r f = rw (decoded_encoded (layout_of L) (every_field L) r f) at (record_read L l (encoded (layout_of L) r))
