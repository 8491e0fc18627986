-- A buffer with a sheet at its start is fixed by the length of its records, its heading, its records and what follows the sheet
-- (`one_buffer`). Assumes nothing.
use mathlib.Core.Path.{◌≡◌, sym, ap, ◌∙◌}
use mathlib.Core.Logic.Iff
use mathlib.Core.Logic.{◌↔◌}
use mathlib.Core.List.{List, ◌++◌}
use Prim.Native.Nat.{ℕ, ◌+◌, ◌-◌, ◌*◌}
use native.Mathlib.Omega.{arith}
use lib.ListN.{take, drop, take-append-drop}
use Rattle.octagon.specs.Outcome.{accepted}
use Rattle.records.specs.Numbers.{AreBytes}
use Rattle.records.specs.Parts.{part}
use Rattle.sheet.specs.declared.Record.{Record}
use Rattle.sheet.specs.Trailer.{trailer_length, trailer_at}
use Rattle.sheet.specs.Bytes.{TrailerOf}
use Rattle.sheet.specs.Sheets.{sheet_bytes}
use Rattle.sheet.specs.Checking.{checked}
use Rattle.sheet.specs.Cases.{stated_plots, stated_heading, IsFetched}
use Rattle.sheet.specs.Joining.{sheet_under}
use Rattle.sheet.proofs.TrailerFields.{trailer_read}
use Rattle.sheet.proofs.Sheets.{sheet_kept}
use Rattle.sheet.proofs.Members.{ascending_same, parsed_among, stated_sheet, checked_stated}

-- the first n bytes of v are a sheet of c records of L bytes each, after a heading of h
pub record SheetIn (L h c n : ℕ) (v : List ℕ) : Type 0 where
  pub checks : checked v n ≡ accepted c
  pub trailer_is : TrailerOf L c (part v (n - trailer_length) trailer_length)
  pub length_is : n ≡ h + L * c + trailer_length

module _ (L h c n : ℕ) where
  -- what its trailer says
  pub states_length : (v : List ℕ) → SheetIn L h c n v → (trailer_at v (n - trailer_length)).length ≡ L
  states_length v i = sym (trailer_read v (n - trailer_length)).length_is ∙ i.trailer_is.length_is

  pub states_heading : (v : List ℕ) → SheetIn L h c n v → stated_heading v n ≡ h
  states_heading v i =
      let d : (trailer_at v (n - trailer_length)).distance ≡ L * c = sym (trailer_read v (n - trailer_length)).distance ∙ i.trailer_is.distance in
      let l = i.length_is in
      omega arith

  -- the buffer, as a heading, records, their trailer and what follows
  whole : (v : List ℕ) → AreBytes v → SheetIn L h c n v → sheet_bytes L (sheet_under (take h v) (stated_plots v n)) ++ drop n v ≡ v
  whole v b i =
      let p = stated_plots v n in
      let y : stated_sheet v n ≡ sheet_under (take h v) p = ap (λ (k : ℕ). sheet_under (take k v) p) (states_heading v i) in
      let k = sheet_kept v n (stated_sheet v n) b (checked_stated v n c i.checks).is_parsed in
      let e =
      ap (λ (m : ℕ). sheet_bytes m (sheet_under (take h v) p)) (sym (states_length v i))
      ∙ ap (sheet_bytes (trailer_at v (n - trailer_length)).length) (sym y) ∙ k in
      ap (λ (a : List ℕ). a ++ drop n v) e ∙ take-append-drop n v

  pub one_buffer : (v w : List ℕ) → AreBytes v → AreBytes w → SheetIn L h c n v → SheetIn L h c n w → take h v ≡ take h w
      → ((q : Record) → IsFetched v n q ↔ IsFetched w n q) → drop n v ≡ drop n w → v ≡ w
  one_buffer v w b d i j e f g =
      let x = checked_stated v n c i.checks in
      let y = checked_stated w n c j.checks in
      let o : stated_plots v n ≡ stated_plots w n =
      ascending_same x.ascending y.ascending (λ q. Iff.trans (Iff.symm (parsed_among v n x.is_parsed q)) (Iff.trans (f q) (parsed_among w n y.is_parsed q))) in
      sym (whole v b i)
      ∙ ap (λ (a : List ℕ). sheet_bytes L (sheet_under a (stated_plots v n)) ++ drop n v) e
      ∙ ap (λ (a : List Record). sheet_bytes L (sheet_under (take h w) a) ++ drop n v) o
      ∙ ap (λ (a : List ℕ). sheet_bytes L (sheet_under (take h w) (stated_plots w n)) ++ a) g
      ∙ whole w d j
