-- `pattern_spectrum` meets its contract: the walk by the normal forms is the walk. Assumes nothing.
use mathlib.Core.Path.{refl, sym}
use Rattle.spectrum.specs.Spectra.{after_spectrum}
use Rattle.spectrum.proofs.Forms.{frame_form_again, spectrum_of_forms}
use Rattle.spectrum.proofs.pattern_spectrum.Goals as goal

pub walk-requires : goal.walk-requires
walk-requires c = frame_form_again _ _ (sym c.in_ok-b.ensures)

pub returns : goal.returns
unfolding after_spectrum
returns c =
    let q = spectrum_of_forms _ _ _ _ (sym c.in_ok-a.ensures) (sym c.in_ok-b.ensures) in
    record {
      result_value = rw (q _, c.walk.ensures.result_value) refl;
      list_after = rw (q _) c.walk.ensures.list_after;
    }
