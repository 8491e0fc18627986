-- Document 01's fixed numbers: the eight step vectors, and beside them the thirteen pieces. Assumes nothing.
use Rattle.std.specs.Prelude.{List, [], ◌∷◌, ℕ, ℤ, pos, negsuc, get_or}

-- the steps d0 to d7, each east and north, counter-clockwise
abbrev pub steps : List (List ℤ)
steps =
    (pos 1 ∷ pos 0 ∷ []) ∷
    (pos 1 ∷ pos 1 ∷ []) ∷
    (pos 0 ∷ pos 1 ∷ []) ∷
    (negsuc 0 ∷ pos 1 ∷ []) ∷
    (negsuc 0 ∷ pos 0 ∷ []) ∷
    (negsuc 0 ∷ negsuc 0 ∷ []) ∷
    (pos 0 ∷ negsuc 0 ∷ []) ∷
    (pos 1 ∷ negsuc 0 ∷ []) ∷ []

-- the pieces, each by its sides n0 to n7 along these steps
unfoldable pub pieces : List (List ℕ)
pieces =
    -- K1: n0=1 n4=1
    (1 ∷ 0 ∷ 0 ∷ 0 ∷ 1 ∷ 0 ∷ 0 ∷ 0 ∷ []) ∷
    -- K2: n1=1 n5=1
    (0 ∷ 1 ∷ 0 ∷ 0 ∷ 0 ∷ 1 ∷ 0 ∷ 0 ∷ []) ∷
    -- K3: n2=1 n6=1
    (0 ∷ 0 ∷ 1 ∷ 0 ∷ 0 ∷ 0 ∷ 1 ∷ 0 ∷ []) ∷
    -- K4: n3=1 n7=1
    (0 ∷ 0 ∷ 0 ∷ 1 ∷ 0 ∷ 0 ∷ 0 ∷ 1 ∷ []) ∷
    -- K5: n0=1 n2=1 n5=1
    (1 ∷ 0 ∷ 1 ∷ 0 ∷ 0 ∷ 1 ∷ 0 ∷ 0 ∷ []) ∷
    -- K6: n0=1 n3=1 n6=1
    (1 ∷ 0 ∷ 0 ∷ 1 ∷ 0 ∷ 0 ∷ 1 ∷ 0 ∷ []) ∷
    -- K7: n1=1 n4=1 n6=1
    (0 ∷ 1 ∷ 0 ∷ 0 ∷ 1 ∷ 0 ∷ 1 ∷ 0 ∷ []) ∷
    -- K8: n2=1 n4=1 n7=1
    (0 ∷ 0 ∷ 1 ∷ 0 ∷ 1 ∷ 0 ∷ 0 ∷ 1 ∷ []) ∷
    -- K9: n0=2 n3=1 n5=1
    (2 ∷ 0 ∷ 0 ∷ 1 ∷ 0 ∷ 1 ∷ 0 ∷ 0 ∷ []) ∷
    -- K10: n1=1 n4=2 n7=1
    (0 ∷ 1 ∷ 0 ∷ 0 ∷ 2 ∷ 0 ∷ 0 ∷ 1 ∷ []) ∷
    -- K11: n1=1 n3=1 n6=2
    (0 ∷ 1 ∷ 0 ∷ 1 ∷ 0 ∷ 0 ∷ 2 ∷ 0 ∷ []) ∷
    -- K12: n2=2 n5=1 n7=1
    (0 ∷ 0 ∷ 2 ∷ 0 ∷ 0 ∷ 1 ∷ 0 ∷ 1 ∷ []) ∷
    -- K13: n1=n3=n5=n7=1
    (0 ∷ 1 ∷ 0 ∷ 1 ∷ 0 ∷ 1 ∷ 0 ∷ 1 ∷ []) ∷ []

-- the sides of the piece in row k of the table, counted from 0; eight noughts past its end
unfoldable pub piece_sides : ℕ → List ℕ
piece_sides k = get_or pieces k (0 ∷ 0 ∷ 0 ∷ 0 ∷ 0 ∷ 0 ∷ 0 ∷ 0 ∷ [])
