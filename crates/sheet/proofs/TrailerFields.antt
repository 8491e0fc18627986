-- A trailer is read from and written to the places that document 01 gives its fields (`trailer_read`, `trailer_written`). Assumes
-- nothing.
use mathlib.Core.Path.{◌≡◌, refl, ap, ◌∙◌}
use mathlib.Core.List.{List}
use Prim.Native.Nat.{ℕ, ◌*◌, ◌^◌, ◌<◌}
use native.Mathlib.Omega.{arith}
use lib.ListN.{drop, get_or}
use Rattle.records.specs.Numbers.{number, bytes, unpacked}
use Rattle.records.specs.Parts.{part}
use Rattle.records.specs.Fields.{HasFields, field}
use Rattle.records.proofs.Numbers.{number_bytes}
use Rattle.records.proofs.Fields.{fields_read, fields_written, unpacked_take}
use Rattle.sheet.specs.Layout.{IsRecordLength}
use Rattle.sheet.specs.Trailer.{trailer_length, trailer_layout, trailer_values, trailer, trailer_at}
use Rattle.sheet.specs.Bytes.{TrailerFields, TrailerOf}
use Rattle.sheet.proofs.TrailerBytes.{length_trailer, trailer_fits}

pub trailer_read : (s : List ℕ) (t : ℕ) → TrailerFields (part s t trailer_length) (trailer_at s t)
unfolding trailer_at
trailer_read s t =
    let at : HasFields trailer_layout (part s t trailer_length) (unpacked trailer_layout (drop t s)) =
    λ k h. fields_read trailer_layout (part s t trailer_length) k h
    ∙ ap (λ (v : List ℕ). get_or v k 0) (unpacked_take trailer_layout (drop t s) trailer_length (omega arith)) in
    record { distance = at 0 (omega arith); count = at 1 (omega arith); length_is = at 2 (omega arith); zeros = at 3 (omega arith); letters = at 4 (omega arith) }

-- a trailer of n records of L bytes, whose distance fits its field
pub trailer_written : (L n : ℕ) → IsRecordLength L → L * n < 256 ^ 4 → TrailerOf L n (trailer L n)
unfolding trailer
trailer_written L n l h =
    let f = trailer_fits L n l h in
    let at : (k : ℕ) → k < 5 → field trailer_layout (trailer L n) k ≡ bytes (get_or trailer_layout k 0) (get_or (trailer_values L n) k 0) =
    λ k i. fields_written trailer_layout (trailer_values L n) k refl i in
    record {
      bytes_long = length_trailer L n;
      distance = ap number (at 0 (omega arith)) ∙ number_bytes 4 (L * n) f.distance;
      count = ap number (at 1 (omega arith)) ∙ number_bytes 4 n f.count;
      length_is = ap number (at 2 (omega arith)) ∙ number_bytes 2 L f.each;
      zeros = at 3 (omega arith);
      letters = at 4 (omega arith);
    }
