-- Small values of specs/Clearances.antt, computed: a tree whose numbers all differ, each refusal in its order, and a result of the wrong
-- length. Assumes nothing.
use mathlib.Core.Path.{◌≡◌, refl}
use mathlib.Core.List.{[], ◌∷◌}
use lib.IntN.{pos, negsuc}
use Rattle.octagon.specs.Outcome.{accepted, refused}
use Rattle.octagon.specs.NormalForm.{is_on_map, placed}
use Rattle.clearance.specs.Clearing.{slant_reach, octagon_about, cleared}
use Rattle.koxirmeta_c.specs.Calls.{wrong_length, fitted}
use Rattle.koxirmeta_c.specs.Clearances.{clearing}
use Rattle.koxirmeta_c.proofs.Examples.{plot_bounds, seven_bounds}

pub clearings : (clearing (negsuc 10) (pos 40) 5 plot_bounds
    ∷ clearing (pos 2000001) (pos 40) 5 plot_bounds
    ∷ clearing (pos 1999996) (pos 40) 5 plot_bounds
    ∷ clearing (pos 2000001) (pos 40) 256 plot_bounds
    ∷ clearing (negsuc 10) (pos 40) 5 seven_bounds
    ∷ clearing (negsuc 10) (pos 40) 256 seven_bounds ∷ [])
    ≡ (accepted (record { c0 = negsuc 34; c1 = negsuc 43; c2 = negsuc 5; c3 = pos 36; c4 = pos 45; c5 = pos 58; c6 = pos 16; c7 = negsuc 21 })
    ∷ refused 2 ∷ refused 2 ∷ refused 17 ∷ refused wrong_length ∷ refused wrong_length ∷ [])
unfolding fitted cleared octagon_about slant_reach placed is_on_map
clearings = refl
