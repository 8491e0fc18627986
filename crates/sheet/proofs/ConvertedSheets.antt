-- A refused conversion leaves every byte (`convert_refused`), and an accepted one the sheet of the same records at 26 (`convert_accepted`),
-- which leaves no choice (`converted_once`), and a buffer of bytes is one after it (`convert_bytes`); a conversion converted again gives the same
-- bytes (`convert_twice`). Assumes nothing.
use mathlib.Core.Path.{◌≡◌, refl, sym, ap, subst, ◌∙◌}
use mathlib.Core.List.{List}
use Prim.Native.Nat.{ℕ, ◌-◌, ◌≤◌}
use lib.ListN.{length, take}
use Rattle.octagon.specs.Outcome.{Outcome, accepted, refused, left}
use Rattle.octagon.proofs.Outcomes.{accepted_same, then_accepted, map_accepted, map_refused}
use Rattle.records.specs.Numbers.{AreBytes}
use Rattle.records.specs.Parts.{part}
use Rattle.records.proofs.Numbers.{take_bytes}
use Rattle.sheet.specs.Layout.{fee_length, fee}
use Rattle.sheet.specs.Trailer.{trailer_length, trailer_at}
use Rattle.sheet.specs.Bytes.{TrailerOf}
use Rattle.sheet.specs.Sheets.{Sheet, first, sheet_length}
use Rattle.sheet.specs.Checking.{parsed, checked}
use Rattle.sheet.specs.Cases.{stated_heading}
use Rattle.sheet.specs.Writing.{laid_over}
use Rattle.sheet.specs.Converting.{narrowed, conversion, converted, after_convert, converted_length, ConvertedSheet}
use Rattle.sheet.proofs.Checks.{checked_count, fetched_plot}
use Rattle.sheet.proofs.BytesWritten.{laid_bytes}
use Rattle.sheet.proofs.Overwritten.{laid_parsed, laid_trailer, laid_heading, laid_sheet, laid_past, laid_length}
use Rattle.sheet.proofs.Inserts.{room_enough}
use Rattle.sheet.proofs.Members.{stated_sheet, checked_stated}
use Rattle.sheet.proofs.JoinLaws.{records_same}
use Rattle.sheet.proofs.OneBuffer.{one_buffer}
use Rattle.sheet.proofs.Strays.{old_octagons, narrow_fit}
use Rattle.sheet.proofs.Conversions.{Narrowed, narrowed_passed, narrow_good, convert_rest}
use Rattle.sheet.proofs.ConvertCases.{back_length}

-- "A refused call alters nothing it was lent": every byte is as it was
pub convert_refused : (s : List ℕ) (len : ℕ) (u : List ℕ) (k : ℕ) → converted s len u ≡ refused k → after_convert s len u ≡ u
unfolding converted after_convert
convert_refused s len u k e = rw ((map_refused (conversion s len u) (sheet_length fee_length) k).0 e)

-- ---- what is accepted

-- the sheet checks, none of its plots leaves the old map, there is room, and the same sheet at 26 is what is written
pub record Taken (s : List ℕ) (len : ℕ) (u : List ℕ) (n : ℕ) : Type 0 where
  pub c : ℕ
  pub counted : checked s len ≡ accepted c
  pub narrow : Narrowed u (stated_sheet s len)
  pub left_is : after_convert s len u ≡ laid_over fee_length u (stated_sheet s len)
  pub length_is : n ≡ sheet_length fee_length (stated_sheet s len)

pub convert_taken : (s : List ℕ) (len : ℕ) (u : List ℕ) (n : ℕ) → converted s len u ≡ accepted n → Taken s len u n
unfolding converted conversion
convert_taken s len u n h =
    let x = map_accepted (conversion s len u) (sheet_length fee_length) n h in
    let p = then_accepted (parsed s len) (narrowed u) x.0 x.1 in
    let e = checked_count s len p.first in
    let b = convert_rest s len u (checked_stated s len _ e).is_parsed in
    let z = map_accepted (narrowed u (stated_sheet s len)) (sheet_length fee_length) n (b.0 ∙ h) in
    let g = narrowed_passed u (stated_sheet s len) z.0 z.1 in
    record {
      c = length p.between.plots;
      counted = e;
      narrow = g.0;
      left_is = sym b.1 ∙ ap (λ (o : Outcome Sheet). left u o (laid_over fee_length u)) z.1 ∙ ap (laid_over fee_length u) g.1;
      length_is = sym z.2 ∙ ap (sheet_length fee_length) g.1;
    }

module _ (s : List ℕ) (len c : ℕ) (e : checked s len ≡ accepted c) (u : List ℕ) (v : AreBytes s) (g : Narrowed u (stated_sheet s len)) where
  abbrev same : Sheet
  same = stated_sheet s len

  back_parsed : parsed (laid_over fee_length u same) (sheet_length fee_length same) ≡ accepted same
  back_parsed =
      let z = trailer_at s (len - trailer_length) in
      laid_parsed fee_length fee u same g.short
      (narrow_fit z.length s (first len z.distance) z.count v g.on_old_map)
      (old_octagons (checked_stated s len c e).ascending g.on_old_map)

  back_sheet : ConvertedSheet s len u (laid_over fee_length u same) c (sheet_length fee_length same)
  back_sheet =
      let n = sheet_length fee_length same in
      let d = checked_stated s len c e in
      record {
        counted = e;
        length_is = back_length s len e;
        checks = checked_count (laid_over fee_length u same) n back_parsed ∙ ap accepted d.many;
        records = λ k. fetched_plot (laid_over fee_length u same) n k back_parsed ∙ sym (fetched_plot s len k d.is_parsed);
        trailer_is =
            subst (λ (k : ℕ). TrailerOf fee_length k (part (laid_over fee_length u same) (n - trailer_length) trailer_length)) d.many
            (laid_trailer fee_length fee u same g.short);
        heading = rw d.heading_long at (laid_heading fee_length fee u same);
        past = laid_past fee_length fee u same;
        same_length = laid_length fee_length fee u same g.within;
      }

  left_there : (u' : List ℕ) (n : ℕ) → u' ≡ laid_over fee_length u same → n ≡ sheet_length fee_length same → ConvertedSheet s len u u' c n
  left_there u' n p q = rw (p, q) back_sheet

-- the same records under the same heading, at 26 bytes each; bytes of the second buffer past the new length keep their values
pub convert_accepted : (s : List ℕ) (len : ℕ) (u : List ℕ) (n : ℕ) → AreBytes s → converted s len u ≡ accepted n
    → (c : ℕ) × ConvertedSheet s len u (after_convert s len u) c n
convert_accepted s len u n v h =
    let k = convert_taken s len u n h in
    let j = left_there s len k.c k.counted u v k.narrow in
    (k.c, j (after_convert s len u) n k.left_is k.length_is)

-- what is left of a buffer of bytes is one
pub convert_bytes : (s : List ℕ) (len : ℕ) (u : List ℕ) → AreBytes s → AreBytes u → AreBytes (after_convert s len u)
convert_bytes s len u a b = go (converted s len u) refl
  where
    go : (o : Outcome ℕ) → converted s len u ≡ o → AreBytes (after_convert s len u)
    go (refused k) e = rw (convert_refused s len u k e) b
    go (accepted n) e = rw (convert_taken s len u n e).left_is (laid_bytes fee_length u (stated_sheet s len) b (take_bytes (stated_heading s len) s a))

-- `ConvertedSheet` leaves no choice: it fixes the answer and every byte
pub converted_once : (s : List ℕ) (len : ℕ) (u v w : List ℕ) (c n d m : ℕ) → AreBytes v → AreBytes w
    → ConvertedSheet s len u v c n → ConvertedSheet s len u w d m → (n ≡ m) × (v ≡ w)
converted_once s len u v w c n d m bv bw i j =
    let p : d ≡ c = accepted_same (sym j.counted ∙ i.counted) in
    let g : m ≡ n = j.length_is ∙ ap (converted_length s len) p ∙ sym i.length_is in
    let o : ConvertedSheet s len u w c n = rw (g, p) at j in (
      sym g,
      one_buffer fee_length (stated_heading s len) c n v w bv bw
          (record { checks = i.checks; trailer_is = i.trailer_is; length_is = i.length_is })
          (record { checks = o.checks; trailer_is = o.trailer_is; length_is = o.length_is })
          (i.heading ∙ sym o.heading)
          (records_same v n w n (λ k. i.records k ∙ sym (o.records k)))
          (i.past ∙ sym o.past),
    )

-- ---- a conversion converted

-- it is accepted wherever there is room for it, and gives the bytes that it has
pub convert_twice : (s : List ℕ) (len : ℕ) (u : List ℕ) (n : ℕ) → AreBytes s → converted s len u ≡ accepted n → (w : List ℕ) → n ≤ length w
    → (converted (after_convert s len u) n w ≡ accepted n) × (take n (after_convert (after_convert s len u) n w) ≡ take n (after_convert s len u))
convert_twice s len u n v h w r = rw (k.left_is, k.length_is) (again (rw k.length_is at r))
  where
    k : Taken s len u n
    k = convert_taken s len u n h

    z : Sheet
    z = stated_sheet s len

    l : ℕ
    l = sheet_length fee_length (stated_sheet s len)

    again : sheet_length fee_length (stated_sheet s len) ≤ length w
        → (converted (laid_over fee_length u z) l w ≡ accepted l)
        × (take l (after_convert (laid_over fee_length u z) l w) ≡ take l (laid_over fee_length u z))
    again a =
        let y = laid_over fee_length u (stated_sheet s len) in
        let p = back_parsed s len k.c k.counted u v k.narrow in
        let n = sheet_length fee_length (stated_sheet s len) in
        let q = narrow_good w (stated_sheet s len) k.narrow.on_old_map (room_enough w n a k.narrow.short) in
        let b = convert_rest y n w p in
        (sym b.0 ∙ rw q, ap (take n) (sym b.1 ∙ rw q) ∙ laid_sheet fee_length fee w (stated_sheet s len) ∙ sym (laid_sheet fee_length fee u (stated_sheet s len)))
