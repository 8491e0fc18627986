-- The starred squared-paper cases of document 01, in its order and numbers, by one computed test over the list; those of opposed rows have
-- the answers of document 02's U4, and the one at the map's edge the limit of its U10. Assumes nothing.
use Rattle.std.specs.Prelude.{◌≡◌, ℕ, Bool, true, false, List, [], ◌∷◌, map, pos, negsuc, refl}
use Rattle.octagon.specs.Octagon.{Octagon}
use Rattle.octagon.specs.Outcome.{Outcome, accepted, refused, then}
use Rattle.integers.specs.Minimum.{min_ℤ, half_ℤ}
use Rattle.octagon.specs.NormalForm.{even_bound, odd_bound, tight_even, tight_odd, normal_form, sides, has_cell, is_on_map, placed, normalised}
use Rattle.outline.specs.declared.Outline.{Outline}
use Rattle.outline.specs.Closing.{closes}
use Rattle.outline.specs.Walk.{vertex}
use Rattle.outline.specs.Tracing.{bounds_at, drawn, traced}
use Rattle.outline.specs.Outlining.{outline_of as drawn_sides, outlined}
use Rattle.cell_count.specs.Count.{inside}
use Rattle.cell_count.specs.Area.{triangle, rectangle, cuts, area, cell_count}
use Rattle.morphology.specs.Marks.{Marked, marked, unmarked}
use Rattle.morphology.specs.Operations.{sums, differences, is_rising, is_falling, are_opposed, dilation, erosion, opened}
use Rattle.decomposition.specs.declared.Split.{Split}
use Rattle.decomposition.specs.Pairs.{have_sides, assign_pair, triangles_of}
use Rattle.decomposition.specs.Splitting.{rest, with_rows, first_counts, is_crossed, with_k13, counts, split_of as split, decomposition}
use Rattle.cases.specs.Shorthand.{Case, is, bounds, outlined_by, block, three_by_three, K2, K4, K13, cell, split_by, spread, trim, open_by}

-- an answer of one of the calls
pub data Result : Type 0 where
  octagon_of : Outcome Octagon → Result
  marked_of : Outcome Marked → Result
  outline_of : Outcome Outline → Result
  cells_of : Outcome ℕ → Result
  is_cell : Bool → Result
  split_of : Outcome Split → Result

pub starred : List (Case Result)
starred =
    -- All bounds 0: one cell.
    is (octagon_of (normalised (bounds (pos 0) (pos 0) (pos 0) (pos 0) (pos 0) (pos 0) (pos 0) (pos 0))))
    (octagon_of (accepted (bounds (pos 0) (pos 0) (pos 0) (pos 0) (pos 0) (pos 0) (pos 0) (pos 0)))) ∷
    is (cells_of (cell_count (bounds (pos 0) (pos 0) (pos 0) (pos 0) (pos 0) (pos 0) (pos 0) (pos 0)))) (cells_of (accepted 1)) ∷
    -- c0=0 c1=0 c2=9 c3=1 c4=2 c5=9 c6=0 c7=0: cells (0,0), (0,1); normalised 0 0 0 1 1 1 0 0.
    is (octagon_of (normalised (bounds (pos 0) (pos 0) (pos 9) (pos 1) (pos 2) (pos 9) (pos 0) (pos 0))))
    (octagon_of (accepted (bounds (pos 0) (pos 0) (pos 0) (pos 1) (pos 1) (pos 1) (pos 0) (pos 0)))) ∷
    is (cells_of (cell_count (bounds (pos 0) (pos 0) (pos 9) (pos 1) (pos 2) (pos 9) (pos 0) (pos 0)))) (cells_of (accepted 2)) ∷
    is (is_cell (inside (bounds (pos 0) (pos 0) (pos 9) (pos 1) (pos 2) (pos 9) (pos 0) (pos 0)) (pos 0) (pos 0))) (is_cell true) ∷
    is (is_cell (inside (bounds (pos 0) (pos 0) (pos 9) (pos 1) (pos 2) (pos 9) (pos 0) (pos 0)) (pos 0) (pos 1))) (is_cell true) ∷
    -- c1=0 c5=0 c3=1 c7=-1, others 5: refusal 1.
    is (octagon_of (normalised (bounds (pos 5) (pos 0) (pos 5) (pos 1) (pos 5) (pos 0) (pos 5) (negsuc 0)))) (octagon_of (refused 1)) ∷
    -- Outline n0=1 alone: 3.
    is (octagon_of (traced (outlined_by 1 0 0 0 0 0 0 0))) (octagon_of (refused 3)) ∷
    -- Block n0=2 n2=1 n4=2 n6=1 at (0,0), 6 cells, spread by K13: sides 2 1 1 1 2 1 1 1, 16 cells.
    is (cells_of (then (traced block) cell_count)) (cells_of (accepted 6)) ∷
    is (outline_of (then (unmarked (spread (traced block) K13)) outlined)) (outline_of (accepted (outlined_by 2 1 1 1 2 1 1 1))) ∷
    is (cells_of (then (unmarked (spread (traced block) K13)) cell_count)) (cells_of (accepted 16)) ∷
    -- "every other spread is exact and says so"
    is (marked_of (spread (traced block) K13)) (marked_of (marked false (traced (outlined_by 2 1 1 1 2 1 1 1)))) ∷
    -- That spread trimmed by K13 is the block again.
    is (octagon_of (trim (unmarked (spread (traced block) K13)) K13)) (octagon_of (traced block)) ∷
    is (outline_of (then (trim (unmarked (spread (traced block) K13)) K13) outlined)) (outline_of (accepted block)) ∷
    -- The 6-cell block trimmed by a 3 by 3 block: 5.
    is (octagon_of (trim (traced block) three_by_three)) (octagon_of (refused 5)) ∷
    -- K2 spread by K4, opposed rows: K13's five cells, filled, whichever is put first. K13 opened by K4: K13, filled.
    is (marked_of (spread (traced K2) K4)) (marked_of (marked true (traced K13))) ∷
    is (marked_of (spread (traced K4) K2)) (marked_of (marked true (traced K13))) ∷
    is (cells_of (then (unmarked (spread (traced K2) K4)) cell_count)) (cells_of (accepted 5)) ∷
    is (marked_of (open_by (traced K13) K4)) (marked_of (marked true (traced K13))) ∷
    -- Cell (-2000000,0), at the edge of U10's map, trimmed by cell (1,0): 2.
    is (octagon_of (trim (traced (cell (negsuc 1999999) (pos 0))) (cell (pos 1) (pos 0)))) (octagon_of (refused 2)) ∷
    -- Sides 0 2 0 2 0 2 0 2 split as one each of K2, K4, K13. Sides 3 0 1 1 0 2 0 0 split as one K5 and one K9.
    is (split_of (then (traced (outlined_by 0 2 0 2 0 2 0 2)) decomposition)) (split_of (accepted (split_by 0 1 0 1 0 0 0 0 0 0 0 0 1))) ∷
    is (split_of (then (traced (outlined_by 3 0 1 1 0 2 0 0)) decomposition)) (split_of (accepted (split_by 0 0 0 0 1 0 0 0 1 0 0 0 0))) ∷
    []

-- each gives what the documents say
pub starred_cases : map (λ c. c.given) starred ≡ map (λ c. c.expected) starred
unfolding starred normalised normal_form tight_odd tight_even even_bound odd_bound min_ℤ half_ℤ has_cell placed is_on_map sides traced closes drawn bounds_at vertex outlined drawn_sides inside cell_count area rectangle cuts triangle dilation erosion opened sums differences are_opposed is_rising is_falling decomposition split rest triangles_of assign_pair have_sides with_rows first_counts is_crossed with_k13 counts
starred_cases = refl
