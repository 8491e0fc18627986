-- The check of a sheet from its frame and its records, what the sheet then says, and what `fetch` answers of it. Assumes nothing.
use mathlib.Core.Path.{◌≡◌, sym, ap, ◌∙◌}
use mathlib.Core.List.{List}
use Prim.Native.Nat.{ℕ, ◌-◌}
use lib.ListN.{length}
use Rattle.octagon.specs.Outcome.{accepted, refused}
use Rattle.octagon.proofs.Outcomes.{then_accepted, map_accepted}
use Rattle.sheet.specs.declared.Record.{Record}
use Rattle.sheet.specs.declared.trailer.Trailer.{Trailer}
use Rattle.sheet.specs.Layout.{map_limit}
use Rattle.sheet.specs.Trailer.{trailer_length, trailer_at}
use Rattle.sheet.specs.Order.{nth, Ascending}
use Rattle.sheet.specs.Sheets.{Sheet, first, sheet_of}
use Rattle.sheet.specs.Checking.{framed, surveyed, inspected, parsed, plots, checked, fetched}
use Rattle.sheet.specs.Cases.{GoodFrame, stated_plots, stated_limit, HasOctagon, HasOctagonIn}
use Rattle.sheet.proofs.Plots.{length_plots}
use Rattle.sheet.proofs.Frames.{Framing, framing, framed_good, framed_when}
use Rattle.sheet.proofs.Surveys.{surveyed_when, surveyed_passed, have_octagons}

-- ---- the frame first, and then the records

pub inspected_frame : {k : ℕ} (s : List ℕ) (len : ℕ) → framed s len ≡ refused k → inspected s len ≡ refused k
unfolding inspected
inspected_frame s len e = rw e

pub inspected_records : {z : Trailer} (s : List ℕ) (len : ℕ) → framed s len ≡ accepted z → inspected s len ≡ surveyed (map_limit z.length) z 0 (sheet_of s len z).plots
unfolding inspected
inspected_records s len e = rw e

-- ---- a sheet that is right

-- an accepted sheet has an accepted frame and good records, and the other way round
pub record Good (s : List ℕ) (len : ℕ) (z : Trailer) : Type 0 where
  pub is_trailer : z ≡ trailer_at s (len - trailer_length)
  pub good_frame : GoodFrame s len z.count
  pub framing : Framing s len z
  pub on_its_map : Ascending (HasOctagonIn (map_limit z.length)) 0 (sheet_of s len z).plots
  pub ascending : Ascending HasOctagon 0 (sheet_of s len z).plots

pub inspected_good : (s : List ℕ) (len : ℕ) (z : Trailer) → inspected s len ≡ accepted z → Good s len z
unfolding inspected
inspected_good s len z e =
    let t = then_accepted (framed s len) (λ y. surveyed (map_limit y.length) y 0 (sheet_of s len y).plots) z e in
    let p = surveyed_passed (map_limit t.between.length) t.between z 0 (sheet_of s len t.between).plots t.second in
    let f : framed s len ≡ accepted z = t.first ∙ ap accepted (sym p.1) in
    let g = framed_good s len z f in
    let h : Ascending (HasOctagonIn (map_limit z.length)) 0 (sheet_of s len z).plots = rw (← p.1) at p.0 in
    record { is_trailer = g.1; good_frame = g.0; framing = framing s len z f; on_its_map = h; ascending = have_octagons z.length h }

pub inspected_when : (s : List ℕ) (len c : ℕ) → GoodFrame s len c → Ascending (HasOctagonIn (stated_limit s len)) 0 (stated_plots s len)
    → inspected s len ≡ accepted (trailer_at s (len - trailer_length))
inspected_when s len c f g = inspected_records s len (framed_when s len c f) ∙ surveyed_when _ _ g

-- ---- what it says

module _ (s : List ℕ) (len : ℕ) where
  pub parsed_refused : {e : ℕ} → inspected s len ≡ refused e → parsed s len ≡ refused e
  unfolding parsed
  parsed_refused q = rw q

  pub parsed_sheet : {z : Trailer} → inspected s len ≡ accepted z → parsed s len ≡ accepted (sheet_of s len z)
  unfolding parsed
  parsed_sheet q = rw q

  pub parsed_inspected : (y : Sheet) → parsed s len ≡ accepted y → (z : Trailer) × (inspected s len ≡ accepted z) × (sheet_of s len z ≡ y)
  unfolding parsed
  parsed_inspected y e = map_accepted (inspected s len) (sheet_of s len) y e

  pub checked_refused : {e : ℕ} → parsed s len ≡ refused e → checked s len ≡ refused e
  unfolding checked
  checked_refused q = rw q

  pub checked_count : {y : Sheet} → parsed s len ≡ accepted y → checked s len ≡ accepted (length y.plots)
  unfolding checked
  checked_count q = rw q

  pub checked_trailer : {z : Trailer} → inspected s len ≡ accepted z → checked s len ≡ accepted z.count
  checked_trailer {z} q = checked_count (parsed_sheet q) ∙ ap accepted (length_plots z.length s (first len z.distance) z.count)

  -- a check that counts c
  pub record Counted (c : ℕ) : Type 0 where
    pub trailer : Trailer
    pub is_inspected : inspected s len ≡ accepted trailer
    pub count_is : trailer.count ≡ c

  pub checked_counted : (c : ℕ) → checked s len ≡ accepted c → Counted c
  unfolding checked
  checked_counted c e =
      let m = map_accepted (parsed s len) (λ (y : Sheet). length y.plots) c e in
      let i = parsed_inspected m.0 m.1 in
      let z = i.0 in
      record {
        trailer = z;
        is_inspected = i.1;
        count_is = sym (length_plots z.length s (first len z.distance) z.count) ∙ ap (λ (y : Sheet). length y.plots) i.2 ∙ m.2;
      }

  -- ---- fetching

  pub fetched_refused : {e : ℕ} (k : ℕ) → parsed s len ≡ refused e → fetched s len k ≡ refused e
  unfolding fetched
  fetched_refused k q = rw q

  pub fetched_plot : {y : Sheet} (k : ℕ) → parsed s len ≡ accepted y → fetched s len k ≡ nth y.plots k
  unfolding fetched
  fetched_plot k q = rw q

-- ---- its records

pub parsed_plots : {y : Sheet} (s : List ℕ) (len : ℕ) → parsed s len ≡ accepted y → plots s len ≡ y.plots
unfolding plots
parsed_plots s len q = rw q

-- those of a sheet in which a check counts c
pub record Plotted (s : List ℕ) (len c : ℕ) : Type 0 where
  pub many : length (plots s len) ≡ c
  pub are : plots s len ≡ stated_plots s len
  pub frame : GoodFrame s len c
  pub on_its_map : Ascending (HasOctagonIn (stated_limit s len)) 0 (plots s len)
  pub ascending : Ascending HasOctagon 0 (plots s len)
  pub fetch : (k : ℕ) → fetched s len k ≡ nth (plots s len) k

pub checked_plotted : (s : List ℕ) (len c : ℕ) → checked s len ≡ accepted c → Plotted s len c
checked_plotted s len c e =
    let d = checked_counted s len c e in
    let z = d.trailer in
    let g = inspected_good s len z d.is_inspected in
    let p = parsed_sheet s len d.is_inspected in
    let q = parsed_plots s len p in
    record {
      many = ap length q ∙ length_plots z.length s (first len z.distance) z.count ∙ d.count_is;
      are = q ∙ ap (λ (t : Trailer). (sheet_of s len t).plots) g.is_trailer;
      frame = rw d.count_is at g.good_frame;
      on_its_map = rw (q, ← g.is_trailer) g.on_its_map;
      ascending = rw q g.ascending;
      fetch = λ k. fetched_plot s len k p ∙ ap (λ (rs : List Record). nth rs k) (sym q);
    }
