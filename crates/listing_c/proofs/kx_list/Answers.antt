-- `kx_list` meets its contract: the text and its length are those of `report::list`. Assumes nothing.
use mathlib.Core.Path.{refl, ap₂}
use Rattle.koxirmeta_c.specs.Calls.{status}
use Rattle.listing_c.proofs.kx_list.Goals as goal

pub returns : goal.returns
unfolding status
returns c = let e = c.list.ensures.value in record { answers = refl; leaves = ap₂ (λ t n. (t, n)) e.1 e.0 }
