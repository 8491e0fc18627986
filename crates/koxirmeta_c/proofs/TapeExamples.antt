-- Small values of specs/Tapes.antt, computed: a tape in which no two numbers are the same, each refusal, and a result of the wrong length.
-- Assumes nothing.
use mathlib.Core.Path.{◌≡◌, refl}
use mathlib.Core.Bool.{true, false}
use mathlib.Core.List.{List, [], ◌∷◌}
use lib.IntN.{pos, negsuc}
use lib.Ieee.{Float, nan, inf, fin}
use Rattle.integers.specs.Minimum.{max_ℤ}
use Rattle.octagon.specs.Outcome.{accepted, refused}
use Rattle.octagon.specs.NormalForm.{is_on_map, placed}
use Rattle.tape.specs.Snapping.{snapped}
use Rattle.tape.specs.Hull.{hull}
use Rattle.tape.specs.Enclosing.{point_cell, enclosed}
use Rattle.koxirmeta_c.specs.Calls.{wrong_length, fitted}
use Rattle.koxirmeta_c.specs.Tapes.{enclosing}
use Rattle.koxirmeta_c.proofs.Examples.{plot_bounds, seven_bounds}

-- the points (-2.75, 3.5), (12.3, -4.875) and (0.125, 8.2), in the cells (-11, 14), (49, -19) and (1, 33); 12.3 and 8.2 as an f64 has them
abbrev tape : List Float
tape =
    fin true 11 (negsuc 1)
    ∷ fin false 7 (negsuc 0)
    ∷ fin false 3462142213541069 (negsuc 47)
    ∷ fin true 39 (negsuc 2)
    ∷ fin false 1 (negsuc 2)
    ∷ fin false 2308094809027379 (negsuc 47)
    ∷ []

pub enclosings : (enclosing tape plot_bounds ∷ enclosing tape seven_bounds ∷ enclosing [] plot_bounds ∷ enclosing (nan ∷ []) plot_bounds ∷ enclosing [] seven_bounds ∷ [])
    ≡ (accepted (record { c0 = pos 19; c1 = pos 68; c2 = pos 49; c3 = pos 34; c4 = pos 33; c5 = pos 32; c6 = pos 11; c7 = negsuc 2 }) ∷ refused wrong_length ∷ refused 15 ∷ refused 16 ∷ refused wrong_length ∷ [])
unfolding fitted enclosed point_cell snapped hull max_ℤ placed is_on_map
enclosings = refl

-- a north that is no number, before a point off the map; an infinity beside a coordinate off the map; a second point off the map, before one
-- that is not finite
pub first_refused : (enclosing (fin true 11 (negsuc 1) ∷ nan ∷ fin false 4000001 (negsuc 2) ∷ fin false 7 (negsuc 0) ∷ []) plot_bounds
    ∷ enclosing (inf true ∷ fin false 4000001 (negsuc 2) ∷ []) plot_bounds
    ∷ enclosing (fin true 11 (negsuc 1) ∷ fin false 7 (negsuc 0) ∷ fin true 39 (negsuc 2) ∷ fin false 4000001 (negsuc 2) ∷ nan ∷ nan ∷ []) plot_bounds ∷ [])
    ≡ (refused 14 ∷ refused 14 ∷ refused 2 ∷ [])
unfolding fitted enclosed point_cell snapped hull max_ℤ placed is_on_map
first_refused = refl
