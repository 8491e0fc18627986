-- Layouts: the widths of a record's fields in bytes, the bytes of a record in a layout, and the record of such bytes. Assumes nothing.
use Rattle.std.specs.Prelude.{ℕ, ◌+◌, ◌/◌, ◌^◌, ◌<◌, Bool, cond, ◌||◌, List, [], ◌∷◌, get_or, replicate, eqb}
use Rattle.std.specs.Int.Signed.{mag}
use Rattle.octagon.specs.Cells.{limit}
use Rattle.outline.specs.declared.Outline.{Outline}
use Rattle.outline.specs.Walk.{side}
use Rattle.records.specs.Numbers.{signed, twos, packed, unpacked}
use Rattle.sheet.specs.declared.Record.{Record}

-- ---- layouts

-- how many fields a record has: plot number, i and j, n0 to n7, fee row. A layout is a list of their widths, in this order; a field that
-- it lacks has the width 0, and reads as 0.
abbrev pub field_count : ℕ
field_count = 12

-- a plot number's width, in every layout that has fields, and a fee row's, in every layout that has one
abbrev pub number_width : ℕ
number_width = 4

abbrev pub fee_width : ℕ
fee_width = 2

-- plot number; i and j, and n0 to n7, of w bytes each; and a fee row of f bytes
abbrev pub of_widths : ℕ → ℕ → List ℕ
of_widths w f = number_width ∷ w ∷ w ∷ w ∷ w ∷ w ∷ w ∷ w ∷ w ∷ w ∷ w ∷ f ∷ []

-- document 01's record, "plot number (unsigned 32), i and j (signed 16 each), n0 to n7 (unsigned 16 each)", which has no fee row, and how long
-- it is, in bytes
abbrev pub base_layout : List ℕ
base_layout = of_widths 2 0

abbrev pub base_length : ℕ
base_length = 24

-- U2: "each record ends with an unsigned 16-bit fee row", and how long such a record is
abbrev pub fee_layout : List ℕ
fee_layout = of_widths 2 fee_width

abbrev pub fee_length : ℕ
fee_length = 26

-- U10: "New records are 46 bytes: plot number, 32-bit i and j, eight 32-bit sides, fee row"
abbrev pub county_layout : List ℕ
county_layout = of_widths 4 fee_width

abbrev pub county_length : ℕ
county_length = 46

-- the lengths that records may have, and the test of it
pub data IsRecordLength : ℕ → Type 0 where
  base : IsRecordLength base_length
  fee : IsRecordLength fee_length
  county : IsRecordLength county_length

abbrev pub is_record_length : ℕ → Bool
is_record_length L = eqb L base_length || eqb L fee_length || eqb L county_length

-- the length of records that are written
abbrev pub record_length : ℕ
record_length = county_length

-- the layout of records of L bytes. Where there are no records of this length, every field is lacking.
unfoldable pub layout_of : ℕ → List ℕ
layout_of L =
    cond (eqb L base_length) base_layout
    (cond (eqb L fee_length) fee_layout (cond (eqb L county_length) county_layout (replicate field_count 0)))

-- ---- the map of a record

-- the old map's limit, in cells from its middle
abbrev pub old_limit : ℕ
old_limit = 16000

-- U10: "Sheets of 24 and 26 still read under their old limits": the limit of the map for records of L bytes
unfoldable pub map_limit : ℕ → ℕ
map_limit L = cond (eqb L county_length) limit old_limit

-- ---- a record in a layout

-- the numbers in the fields of a record: i and j in two's complement of their fields' widths
abbrev pub values : List ℕ → Record → List ℕ
values ws r =
    let o = r.outline in
    r.number ∷ twos (get_or ws 1 0) o.i ∷ twos (get_or ws 2 0) o.j
    ∷ o.n0 ∷ o.n1 ∷ o.n2 ∷ o.n3 ∷ o.n4 ∷ o.n5 ∷ o.n6 ∷ o.n7 ∷ r.fee_row ∷ []

-- the outline and the record of these numbers
abbrev pub outline_from : List ℕ → List ℕ → Outline
outline_from ws v = record {
  i = signed (get_or ws 1 0) (get_or v 1 0);
  j = signed (get_or ws 2 0) (get_or v 2 0);
  n0 = get_or v 3 0;
  n1 = get_or v 4 0;
  n2 = get_or v 5 0;
  n3 = get_or v 6 0;
  n4 = get_or v 7 0;
  n5 = get_or v 8 0;
  n6 = get_or v 9 0;
  n7 = get_or v 10 0;
}

abbrev pub record_from : List ℕ → List ℕ → Record
record_from ws v = record { number = get_or v 0 0; outline = outline_from ws v; fee_row = get_or v 11 0 }

-- the bytes of a record in the layout ws, and the record of these bytes
unfoldable pub encoded : List ℕ → Record → List ℕ
encoded ws r = packed ws (values ws r)

unfoldable pub decoded : List ℕ → List ℕ → Record
decoded ws b = record_from ws (unpacked ws b)

-- the fields of the layout ws are wide enough for a record (`mag z < h` says that z is from -h up to h - 1, so no i or j fits a layout
-- that lacks it)
pub record Fits (ws : List ℕ) (r : Record) : Type 0 where
  pub fits_number : r.number < 256 ^ get_or ws 0 0
  pub fits_i : mag r.outline.i < 256 ^ get_or ws 1 0 / 2
  pub fits_j : mag r.outline.j < 256 ^ get_or ws 2 0 / 2
  pub fits_sides : (k : ℕ) → k < 8 → side r.outline k < 256 ^ get_or ws (3 + k) 0
  pub fits_fee : r.fee_row < 256 ^ get_or ws 11 0

-- a record's number and fee row are of 32 and 16 bits, as its type has them
pub record Sized (r : Record) : Type 0 where
  pub number_fits : r.number < 256 ^ number_width
  pub fee_fits : r.fee_row < 256 ^ fee_width
