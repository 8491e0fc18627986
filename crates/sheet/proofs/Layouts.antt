-- Records in a layout, whatever its widths: what is read at an index, what is written, and the way there and back where the fields are
-- wide enough. Then the layouts that there are. Assumes nothing.
use mathlib.Core.Path.{◌≡◌, refl, sym, ap, ◌∙◌}
use mathlib.Core.Bool.{Bool, true, false, cond}
use mathlib.Core.List.{List, [], ◌∷◌}
use Prim.Native.Nat.{ℕ, zero, suc, ◌^◌, ◌≤◌, ◌<◌}
use native.Mathlib.Omega.{arith}
use lib.ListN.{length, drop, get_or, replicate}
use lib.Seq.{take_all, take-take}
use lib.Dec.{ltb, eqb}
use borrow.Author.Tests.{ltb-true, ltb-false, eqb-true}
use Rattle.integers.proofs.Tests.{cases, true_is_not_false}
use Rattle.outline.proofs.Steps.{eight}
use Rattle.records.specs.Numbers.{AreBytes, number, total_width, narrow, packed, unpacked}
use Rattle.records.specs.Parts.{part}
use Rattle.records.proofs.Numbers.{drop_bytes, signed_twos, twos_below, twos_signed}
use Rattle.records.proofs.Fields.{Fit, length_packed, unpacked_all, packed_unpacked, unpacked_take, unpacked_fit, length_unpacked, narrow_at, fit_when, fit_at}
use Rattle.sheet.specs.declared.Record.{Record}
use Rattle.sheet.specs.Layout.{field_count, number_width, fee_width, base_layout, base_length, fee_layout, fee_length, county_layout, county_length}
use Rattle.sheet.specs.Layout.{IsRecordLength, base, fee, county, is_record_length, record_length, layout_of, values, record_from, encoded, decoded, Fits}

-- ---- a list by its numbers

-- n numbers that a function gives
abbrev listed : ℕ → (ℕ → ℕ) → List ℕ
listed zero f = []
listed (suc n) f = f 0 ∷ listed n (λ k. f (suc k))

listed_is : (v : List ℕ) → listed (length v) (λ k. get_or v k 0) ≡ v
listed_is [] = refl
listed_is (x ∷ v) = ap (λ (y : List ℕ). x ∷ y) (listed_is v)

-- ---- any layout of twelve fields

module _ (ws : List ℕ) (e : length ws ≡ field_count) where
  pub length_encoded : (r : Record) → length (encoded ws r) ≡ total_width ws
  unfolding encoded
  length_encoded r = length_packed ws (values ws r) e

  -- the numbers of a record fit their fields
  values_fit : (r : Record) → Fits ws r → Fit ws (values ws r)
  values_fit r f = fit_when ws (values ws r) (sym e) within
    where
      within : (k : ℕ) → k < length ws → get_or (values ws r) k 0 < 256 ^ get_or ws k 0
      within zero h = f.fits_number
      within (suc zero) h = twos_below (get_or ws 1 0) r.outline.i f.fits_i
      within (suc (suc zero)) h = twos_below (get_or ws 2 0) r.outline.j f.fits_j
      within (suc (suc (suc k))) h =
          cases (ltb k 8)
          (λ b.
          eight (λ k. get_or (values ws r) (suc (suc (suc k))) 0 < 256 ^ get_or ws (suc (suc (suc k))) 0)
          (f.fits_sides 0 (omega arith)) (f.fits_sides 1 (omega arith)) (f.fits_sides 2 (omega arith)) (f.fits_sides 3 (omega arith))
          (f.fits_sides 4 (omega arith)) (f.fits_sides 5 (omega arith)) (f.fits_sides 6 (omega arith)) (f.fits_sides 7 (omega arith))
          k (ltb-true k 8 b))
          (λ b. let q : k ≡ 8 = omega (arith, ltb-false k 8 b) in rw q f.fits_fee)

  -- a record that was written is read again
  pub decoded_encoded : (r : Record) → Fits ws r → decoded ws (encoded ws r) ≡ r
  unfolding decoded encoded
  decoded_encoded r f =
      ap (record_from ws) (unpacked_all (values_fit r f))
      ∙ simp (signed_twos (get_or ws 1 0) r.outline.i f.fits_i, signed_twos (get_or ws 2 0) r.outline.j f.fits_j)

  -- and the bytes of a record that was read are those that were there
  pub encoded_decoded : (b : List ℕ) → AreBytes b → length b ≡ total_width ws → encoded ws (decoded ws b) ≡ b
  unfolding encoded decoded
  encoded_decoded b h l =
      ap (packed ws) (again (unpacked ws b) (length_unpacked ws b ∙ e) (unpacked_fit ws b h)) ∙ packed_unpacked ws b h (omega arith) ∙ take_all (total_width ws) b (omega arith)
    where
      again : (v : List ℕ) → length v ≡ field_count → Fit ws v → values ws (record_from ws v) ≡ v
      again v q f =
          rw (twos_signed (get_or ws 1 0) (get_or v 1 0) (fit_at 1 (omega arith) f), twos_signed (get_or ws 2 0) (get_or v 2 0) (fit_at 2 (omega arith) f))
          (rw q at (listed_is v))

-- what is read at an index lies within the fields
pub decoded_at : (ws s : List ℕ) (at n : ℕ) → total_width ws ≤ n → decoded ws (part s at n) ≡ record_from ws (unpacked ws (drop at s))
unfolding decoded
decoded_at ws s at n h = ap (record_from ws) (unpacked_take ws (drop at s) n h)

-- the plot number is the number in the first field
pub number_decoded : (ws s : List ℕ) (at n : ℕ) → 0 < length ws → get_or ws 0 0 ≤ n → number (part s at (get_or ws 0 0)) ≡ (decoded ws (part s at n)).number
unfolding decoded
number_decoded [] s at n h l = absurd (omega arith)
number_decoded (w ∷ ws) s at n h l = ap number (sym (take-take w n (drop at s) l))

-- a field that was read fits its width
pub field_below : (ws s : List ℕ) (at k : ℕ) → AreBytes s → k < length ws → get_or (unpacked ws (drop at s)) k 0 < 256 ^ get_or ws k 0
field_below ws s at k h l = fit_at k l (unpacked_fit ws (drop at s) (drop_bytes at s h))

-- ---- the layouts that there are

-- what holds of each record length and its layout
pub by_length : (P : ℕ → List ℕ → Type 0) → P base_length base_layout → P fee_length fee_layout → P county_length county_layout → (L : ℕ) → IsRecordLength L → P L (layout_of L)
unfolding layout_of
by_length P p q r _ base = p
by_length P p q r _ fee = q
by_length P p q r _ county = r

-- what holds of each layout, and of one that has no fields, whatever the length
by_layout : (P : List ℕ → Type 0) → P base_layout → P fee_layout → P county_layout → P (replicate field_count 0) → (L : ℕ) → P (layout_of L)
unfolding layout_of
by_layout P p q r z L = pick (eqb L base_length) (eqb L fee_length) (eqb L county_length)
  where
    pick : (b d e : Bool) → P (cond b base_layout (cond d fee_layout (cond e county_layout (replicate field_count 0))))
    pick true d e = p
    pick false true e = q
    pick false false true = r
    pick false false false = z

pub every_field : (L : ℕ) → length (layout_of L) ≡ field_count
every_field = by_layout (λ ws. length ws ≡ field_count) refl refl refl refl

pub all_narrow : (L : ℕ) → narrow (layout_of L) ≡ true
all_narrow = by_layout (λ ws. narrow ws ≡ true) refl refl refl refl

pub narrow_fields : (L k : ℕ) → get_or (layout_of L) k 0 ≤ 4
narrow_fields L = narrow_at (layout_of L) (all_narrow L)

-- the plot number comes first, and has one width
pub number_first : (L : ℕ) → IsRecordLength L → get_or (layout_of L) 0 0 ≡ number_width
number_first = by_length (λ L ws. get_or ws 0 0 ≡ number_width) refl refl refl

-- a fee row is of at most 16 bits
pub narrow_fee : (L : ℕ) → get_or (layout_of L) 11 0 ≤ fee_width
narrow_fee = by_layout (λ ws. get_or ws 11 0 ≤ fee_width) (omega arith) (omega arith) (omega arith) (omega arith)

-- the fields of a record of L bytes take no more than these
pub within_length : (L : ℕ) → total_width (layout_of L) ≤ L
unfolding layout_of
within_length L =
    cases (eqb L base_length)
    (λ b. let e = eqb-true L base_length b in rw b (omega arith))
    (λ b. cases (eqb L fee_length)
    (λ d. let e = eqb-true L fee_length d in rw (b, d) (omega arith))
    (λ d. cases (eqb L county_length)
    (λ e. let f = eqb-true L county_length e in rw (b, d, e) (omega arith))
    (λ e. rw (b, d, e) (omega arith))))

-- and where there are such records, all of them
pub takes_all : (L : ℕ) → IsRecordLength L → total_width (layout_of L) ≡ L
takes_all = by_length (λ L ws. total_width ws ≡ L) refl refl refl

-- records of 24 bytes have document 01's layout, those of 26 the one with a fee row, and those of 46 the one of U10
pub each_layout : (layout_of base_length ≡ base_layout) × (layout_of fee_length ≡ fee_layout) × (layout_of county_length ≡ county_layout)
unfolding layout_of
each_layout = (refl, refl, refl)

-- records that are written have U10's layout
pub record_is_length : IsRecordLength record_length
record_is_length = county

pub record_layout : layout_of record_length ≡ county_layout
record_layout = each_layout.2

-- the test of a record length
pub tests_length : (L : ℕ) → is_record_length L ≡ true → IsRecordLength L
tests_length L e =
    cases (eqb L base_length)
    (λ b. rw (eqb-true L base_length b) base)
    (λ b. cases (eqb L fee_length)
    (λ d. rw (eqb-true L fee_length d) fee)
    (λ d. cases (eqb L county_length) (λ f. rw (eqb-true L county_length f) county) (λ f. absurd (true_is_not_false (sym e ∙ rw (b, d, f))))))

pub passes_length_test : (L : ℕ) → IsRecordLength L → is_record_length L ≡ true
passes_length_test _ base = refl
passes_length_test _ fee = refl
passes_length_test _ county = refl

-- none is shorter than document 01's, and no record is longer than those that are written
pub shortest : (L : ℕ) → IsRecordLength L → base_length ≤ L
shortest _ base = omega arith
shortest _ fee = omega arith
shortest _ county = omega arith

pub longest : (L : ℕ) → IsRecordLength L → L ≤ record_length
longest _ base = omega arith
longest _ fee = omega arith
longest _ county = omega arith
