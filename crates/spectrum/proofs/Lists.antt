-- What a call leaves of the list that it was lent, place by place. Assumes nothing.
use mathlib.Core.Path.{◌≡◌, refl, ◌∙◌, ap}
use mathlib.Core.List.{List}
use Prim.Native.Nat.{ℕ, ◌+◌, ◌-◌, ◌<◌, ◌≤◌}
use native.Mathlib.Omega.{arith}
use lib.ListN.{length, drop, get_or, get_or-append}
use lib.Seq.{get_or-append-add, get_or-drop}
use Rattle.octagon.specs.Octagon.{Octagon}
use Rattle.octagon.specs.Outcome.{accepted, refused}
use Rattle.records.specs.Parts.{splice}
use Rattle.records.proofs.Splices.{length_splice}
use Rattle.spectrum.specs.Walks.{Walk}
use Rattle.spectrum.specs.Spectra.{spectrum, after_spectrum}
use Rattle.spectrum.specs.Cases.{InPlaces}
use Rattle.spectrum.proofs.Cases.{spectrum_walk}

-- numbers at the front of a list: each in its place, and past them the list's own
module _ (l es : List ℕ) where
  front : (i : ℕ) → i < length es → get_or (splice l 0 es) i 0 ≡ get_or es i 0
  unfolding splice
  front i h = get_or-append es (drop (0 + length es) l) 0 i h

  behind : (i : ℕ) → length es ≤ i → get_or (splice l 0 es) i 0 ≡ get_or l i 0
  unfolding splice
  behind i h =
      let e : length es + (i - length es) ≡ i = omega arith in
      let f : 0 + length es + (i - length es) ≡ i = omega arith in
      rw e at (get_or-append-add es (drop (0 + length es) l) (i - length es) 0) ∙ get_or-drop (0 + length es) l (i - length es) 0 ∙ ap (λ k. get_or l k 0) f

module _ (p f : Octagon) (l : List ℕ) where
  -- an accepted call writes the entries, and "Places past the last entry keep their values"
  pub list_written : (w : Walk) → spectrum p f (length l) ≡ accepted w → InPlaces l w (after_spectrum p f l)
  unfolding after_spectrum
  list_written w q =
      let t = spectrum_walk p f (length l) w q in
      rw q
      (record {
        as_long = length_splice l 0 w.entries (omega (arith, t.one_each, t.within));
        written = λ i h. front l w.entries i (omega (arith, t.one_each));
        kept = λ i h. behind l w.entries i (omega (arith, t.one_each));
      })

  -- a refused call leaves every place
  pub list_kept : (k : ℕ) → spectrum p f (length l) ≡ refused k → after_spectrum p f l ≡ l
  unfolding after_spectrum
  list_kept k q = rw q refl
