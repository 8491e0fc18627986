-- Splits of small outlines and the cases that fit their rests, by two computed tests over one list. What is expected was worked out by hand
-- from document 01's rule. Assumes nothing.
use mathlib.Core.Path.{◌≡◌, refl}
use mathlib.Core.Bool.{Bool, cond}
use mathlib.Core.List.{List, [], ◌∷◌, map}
use Prim.Native.Nat.{ℕ, suc}
use lib.IntN.{ℤ, pos, negsuc}
use Rattle.integers.specs.Minimum.{min_ℤ, half_ℤ}
use Rattle.octagon.specs.Outcome.{accepted}
use Rattle.octagon.specs.NormalForm.{even_bound, odd_bound, tight_even, tight_odd, normal_form, sides, has_cell, is_on_map, placed, normalised}
use Rattle.outline.specs.declared.Outline.{Outline}
use Rattle.outline.specs.Walk.{with_sides, vertex}
use Rattle.outline.specs.Tracing.{bounds_at, drawn}
use Rattle.outline.specs.Outlining.{outline_of, outlined}
use Rattle.decomposition.specs.declared.Split.{Split}
use Rattle.decomposition.specs.Rule.{case_i, case_ii, case_iii, case_iv, case_v, case_vi, case_vii, case_viii}
use Rattle.decomposition.specs.Pairs.{have_sides, assign_pair, case_fits, triangles_of}
use Rattle.decomposition.specs.Splitting.{rest, with_rows, first_counts, is_crossed, with_k13, counts, split_of, decomposition}

-- an outline, which of the cases fit its rest, and the split of its octagon
record Sample : Type 0 where
  of_outline : Outline
  cases_fit : List ℕ
  expected : Split

-- by the start, the sides n0 to n7, the numbers of the cases from (i) = 1, and the counts of K1 to K13
abbrev sample : ℤ → ℤ → List ℕ → List ℕ → ℕ → ℕ → ℕ → ℕ → ℕ → ℕ → ℕ → ℕ → ℕ → ℕ → ℕ → ℕ → ℕ → Sample
sample i j n l a b c d e f g h p q r s t = record {
  of_outline = with_sides i j n;
  cases_fit = l;
  expected = record {
    start = record { i = i; j = j };
    counts = record { k1 = a; k2 = b; k3 = c; k4 = d; k5 = e; k6 = f; k7 = g; k8 = h; k9 = p; k10 = q; k11 = r; k12 = s; k13 = t };
  };
}

abbrev every_case : List ℕ
every_case = 1 ∷ 2 ∷ 3 ∷ 4 ∷ 5 ∷ 6 ∷ 7 ∷ 8 ∷ []

samples : List Sample
samples =
    -- eight different sides, rows of each kind, and the pairs of (i) to (viii)
    sample (negsuc 3) (negsuc 4) (3 ∷ 7 ∷ 5 ∷ 11 ∷ 1 ∷ 4 ∷ 13 ∷ 6 ∷ []) (1 ∷ []) 1 4 5 6 0 2 0 0 0 0 3 0 0 ∷
    sample (negsuc 3) (negsuc 4) (9 ∷ 7 ∷ 5 ∷ 4 ∷ 23 ∷ 1 ∷ 3 ∷ 12 ∷ []) (2 ∷ []) 9 1 3 4 0 0 0 2 0 6 0 0 0 ∷
    sample (negsuc 3) (negsuc 4) (15 ∷ 3 ∷ 11 ∷ 5 ∷ 2 ∷ 12 ∷ 6 ∷ 1 ∷ []) (3 ∷ []) 2 3 6 1 5 0 0 0 4 0 0 0 0 ∷
    sample (negsuc 3) (negsuc 4) (4 ∷ 6 ∷ 5 ∷ 10 ∷ 7 ∷ 1 ∷ 12 ∷ 8 ∷ []) (4 ∷ []) 4 1 5 8 0 0 3 0 0 0 2 0 0 ∷
    sample (negsuc 3) (negsuc 4) (3 ∷ 1 ∷ 19 ∷ 2 ∷ 8 ∷ 5 ∷ 6 ∷ 11 ∷ []) (5 ∷ []) 3 1 6 2 0 0 0 5 0 0 0 4 0 ∷
    sample (negsuc 3) (negsuc 4) (16 ∷ 2 ∷ 4 ∷ 14 ∷ 1 ∷ 8 ∷ 7 ∷ 5 ∷ []) (6 ∷ []) 1 2 4 5 0 3 0 0 6 0 0 0 0 ∷
    sample (negsuc 3) (negsuc 4) (3 ∷ 8 ∷ 6 ∷ 4 ∷ 14 ∷ 2 ∷ 7 ∷ 9 ∷ []) (7 ∷ []) 3 2 6 4 0 0 1 0 0 5 0 0 0 ∷
    sample (negsuc 3) (negsuc 4) (6 ∷ 5 ∷ 17 ∷ 8 ∷ 2 ∷ 15 ∷ 1 ∷ 14 ∷ []) (8 ∷ []) 2 5 1 8 4 0 0 0 0 0 0 6 0 ∷
    -- rows and three K11, whose rest fits two cases; rows alone, which leave nothing
    sample (negsuc 3) (negsuc 4) (9 ∷ 4 ∷ 2 ∷ 10 ∷ 9 ∷ 1 ∷ 8 ∷ 7 ∷ []) (1 ∷ 4 ∷ []) 9 1 2 7 0 0 0 0 0 0 3 0 0 ∷
    sample (negsuc 3) (negsuc 4) (5 ∷ 2 ∷ 3 ∷ 4 ∷ 5 ∷ 2 ∷ 3 ∷ 4 ∷ []) every_case 5 2 3 4 0 0 0 0 0 0 0 0 0 ∷
    -- three K2 and two K4 alone: one of each becomes one K13
    sample (pos 5) (negsuc 2) (0 ∷ 3 ∷ 0 ∷ 2 ∷ 0 ∷ 3 ∷ 0 ∷ 2 ∷ []) every_case 0 2 0 1 0 0 0 0 0 0 0 0 1 ∷
    -- beside one K1, K3, K5 .. K12, with that piece's sides added: none does
    sample (pos 5) (negsuc 2) (1 ∷ 3 ∷ 0 ∷ 2 ∷ 1 ∷ 3 ∷ 0 ∷ 2 ∷ []) every_case 1 3 0 2 0 0 0 0 0 0 0 0 0 ∷
    sample (pos 5) (negsuc 2) (0 ∷ 3 ∷ 1 ∷ 2 ∷ 0 ∷ 3 ∷ 1 ∷ 2 ∷ []) every_case 0 3 1 2 0 0 0 0 0 0 0 0 0 ∷
    sample (pos 5) (negsuc 2) (1 ∷ 3 ∷ 1 ∷ 2 ∷ 0 ∷ 4 ∷ 0 ∷ 2 ∷ []) (3 ∷ 8 ∷ []) 0 3 0 2 1 0 0 0 0 0 0 0 0 ∷
    sample (pos 5) (negsuc 2) (1 ∷ 3 ∷ 0 ∷ 3 ∷ 0 ∷ 3 ∷ 1 ∷ 2 ∷ []) (1 ∷ 6 ∷ []) 0 3 0 2 0 1 0 0 0 0 0 0 0 ∷
    sample (pos 5) (negsuc 2) (0 ∷ 4 ∷ 0 ∷ 2 ∷ 1 ∷ 3 ∷ 1 ∷ 2 ∷ []) (4 ∷ 7 ∷ []) 0 3 0 2 0 0 1 0 0 0 0 0 0 ∷
    sample (pos 5) (negsuc 2) (0 ∷ 3 ∷ 1 ∷ 2 ∷ 1 ∷ 3 ∷ 0 ∷ 3 ∷ []) (2 ∷ 5 ∷ []) 0 3 0 2 0 0 0 1 0 0 0 0 0 ∷
    sample (pos 5) (negsuc 2) (2 ∷ 3 ∷ 0 ∷ 3 ∷ 0 ∷ 4 ∷ 0 ∷ 2 ∷ []) (3 ∷ 6 ∷ []) 0 3 0 2 0 0 0 0 1 0 0 0 0 ∷
    sample (pos 5) (negsuc 2) (0 ∷ 4 ∷ 0 ∷ 2 ∷ 2 ∷ 3 ∷ 0 ∷ 3 ∷ []) (2 ∷ 7 ∷ []) 0 3 0 2 0 0 0 0 0 1 0 0 0 ∷
    sample (pos 5) (negsuc 2) (0 ∷ 4 ∷ 0 ∷ 3 ∷ 0 ∷ 3 ∷ 2 ∷ 2 ∷ []) (1 ∷ 4 ∷ []) 0 3 0 2 0 0 0 0 0 0 1 0 0 ∷
    sample (pos 5) (negsuc 2) (0 ∷ 3 ∷ 2 ∷ 2 ∷ 0 ∷ 4 ∷ 0 ∷ 3 ∷ []) (5 ∷ 8 ∷ []) 0 3 0 2 0 0 0 0 0 0 0 1 0 ∷
    []

-- the octagon of each outline has the split that is expected
split_samples : map (λ s. decomposition (drawn s.of_outline)) samples ≡ map (λ s. accepted s.expected) samples
unfolding samples decomposition split_of counts with_k13 is_crossed first_counts with_rows triangles_of assign_pair have_sides rest outlined outline_of sides normalised placed is_on_map has_cell normal_form tight_odd tight_even odd_bound even_bound min_ℤ half_ℤ drawn bounds_at vertex
split_samples = refl

-- the cases of which the test is true, counted from k
abbrev which : ℕ → List Bool → List ℕ
which k [] = []
which k (b ∷ bs) = cond b (k ∷ which (suc k) bs) (which (suc k) bs)

-- (i) to (viii) on a rest
abbrev tests : Outline → List Bool
tests r = case_fits case_i r ∷ case_fits case_ii r ∷ case_fits case_iii r ∷ case_fits case_iv r ∷ case_fits case_v r ∷ case_fits case_vi r ∷ case_fits case_vii r ∷ case_fits case_viii r ∷ []

-- the rest of each outline fits the cases that are expected
fits_samples : map (λ s. which 1 (tests (rest s.of_outline))) samples ≡ map (λ s. s.cases_fit) samples
unfolding samples have_sides rest
fits_samples = refl
