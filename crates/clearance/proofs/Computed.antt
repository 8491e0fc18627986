-- Small values of the definitions, computed: the reaches that document 02 names, a tree whose numbers all differ, its cells and those next
-- to them, and the order of the refusals. Assumes nothing.
use mathlib.Core.Path.{◌≡◌, refl}
use mathlib.Core.List.{[], ◌∷◌, map}
use lib.IntN.{pos, negsuc}
use Rattle.octagon.specs.Outcome.{accepted, refused}
use Rattle.octagon.specs.NormalForm.{is_on_map, placed}
use Rattle.clearance.specs.Disc.{Disc}
use Rattle.clearance.specs.Clearing.{slant_reach, octagon_about, cleared}

-- "radius 3 has 4 and radius 5 has 7", and the ends of the table
pub reaches_as_printed : map slant_reach (3 ∷ 5 ∷ 0 ∷ 1 ∷ 2 ∷ 254 ∷ 255 ∷ []) ≡ (4 ∷ 7 ∷ 0 ∷ 1 ∷ 2 ∷ 359 ∷ 360 ∷ [])
unfolding slant_reach
reaches_as_printed = refl

-- the tree at (-11, 40) with the radius 5, an odd reach, and with the radius 3, an even one; and one with the greatest radius
pub around_trees : (cleared (record { x = negsuc 10; y = pos 40; radius = 5 })
    ∷ cleared (record { x = negsuc 10; y = pos 40; radius = 3 })
    ∷ cleared (record { x = negsuc 1233; y = pos 5678; radius = 255 }) ∷ [])
    ≡ (accepted (record { c0 = negsuc 34; c1 = negsuc 43; c2 = negsuc 5; c3 = pos 36; c4 = pos 45; c5 = pos 58; c6 = pos 16; c7 = negsuc 21 })
    ∷ accepted (record { c0 = negsuc 36; c1 = negsuc 46; c2 = negsuc 7; c3 = pos 33; c4 = pos 43; c5 = pos 55; c6 = pos 14; c7 = negsuc 24 })
    ∷ accepted (record { c0 = negsuc 5422; c1 = negsuc 6551; c2 = negsuc 978; c3 = pos 4804; c4 = pos 5933; c5 = pos 7272; c6 = pos 1489; c7 = negsuc 4083 }) ∷ [])
unfolding cleared octagon_about slant_reach placed is_on_map
around_trees = refl

-- 17 before the centre's 2, at both ends of 32 bits too; the centre's 2; and the result's 2
pub refused_in_order : map (λ t. cleared t)
    (record { x = pos 7; y = negsuc 2; radius = 256 }
    ∷ record { x = pos 2000001; y = negsuc 2; radius = 256 }
    ∷ record { x = negsuc 2147483647; y = pos 2147483647; radius = 4294967295 }
    ∷ record { x = negsuc 2147483647; y = pos 7; radius = 0 }
    ∷ record { x = negsuc 2; y = pos 2147483647; radius = 255 }
    ∷ record { x = pos 1999996; y = negsuc 2; radius = 5 } ∷ [])
    ≡ (refused 17 ∷ refused 17 ∷ refused 17 ∷ refused 2 ∷ refused 2 ∷ refused 2 ∷ [])
unfolding cleared octagon_about slant_reach placed is_on_map
refused_in_order = refl

-- a tree that touches the map's edge on each side, and one step past it: north, east, south, west
pub at_map_edges : map (λ t. cleared t)
    (record { x = pos 9; y = pos 1999995; radius = 5 }
    ∷ record { x = pos 9; y = pos 1999996; radius = 5 }
    ∷ record { x = pos 1999995; y = negsuc 39; radius = 5 }
    ∷ record { x = pos 1999996; y = negsuc 39; radius = 5 }
    ∷ record { x = negsuc 8; y = negsuc 1999994; radius = 5 }
    ∷ record { x = negsuc 8; y = negsuc 1999995; radius = 5 }
    ∷ record { x = negsuc 1999994; y = pos 40; radius = 5 }
    ∷ record { x = negsuc 1999995; y = pos 40; radius = 5 } ∷ [])
    ≡ (accepted (record { c0 = negsuc 1999989; c1 = negsuc 1999978; c2 = pos 14; c3 = pos 2000011; c4 = pos 2000000; c5 = pos 1999993; c6 = negsuc 3; c7 = negsuc 1999996 })
    ∷ refused 2
    ∷ accepted (record { c0 = pos 45; c1 = pos 2000042; c2 = pos 2000000; c3 = pos 1999962; c4 = negsuc 34; c5 = negsuc 2000027; c6 = negsuc 1999989; c7 = negsuc 1999947 })
    ∷ refused 2
    ∷ accepted (record { c0 = pos 2000000; c1 = pos 1999993; c2 = negsuc 3; c3 = negsuc 1999996; c4 = negsuc 1999989; c5 = negsuc 1999978; c6 = pos 14; c7 = pos 2000011 })
    ∷ refused 2
    ∷ accepted (record { c0 = negsuc 34; c1 = negsuc 2000027; c2 = negsuc 1999989; c3 = negsuc 1999947; c4 = pos 45; c5 = pos 2000042; c6 = pos 2000000; c7 = pos 1999962 })
    ∷ refused 2 ∷ [])
unfolding cleared octagon_about slant_reach placed is_on_map
at_map_edges = refl

-- cells at the distance 5 from (-11, 40), by 3 and 4, and by 5; and the next cells outward
pub at_distance : Disc (negsuc 10) (pos 40) 5 (negsuc 7) (pos 36) × Disc (negsuc 10) (pos 40) 5 (negsuc 14) (pos 43) × Disc (negsuc 10) (pos 40) 5 (negsuc 10) (pos 45)
at_distance = (record { le = tt }, record { le = tt }, record { le = tt })

pub past_distance : ¬ (Disc (negsuc 10) (pos 40) 5 (negsuc 7) (pos 35)) × ¬ (Disc (negsuc 10) (pos 40) 5 (negsuc 15) (pos 43)) × ¬ (Disc (negsuc 10) (pos 40) 5 (negsuc 11) (pos 45))
past_distance = (λ h. h.le, λ h. h.le, λ h. h.le)
