-- The start cell dilated by the counted pieces is the octagon of the outline. The diagonal rows K2 and K4 are put last: what the other
-- pieces make is then opposed to neither. Assumes nothing.
use mathlib.Core.Path.{◌≡◌, refl, sym, ◌∙◌}
use mathlib.Core.List.{List, ◌∷◌}
use Prim.Native.Nat.{ℕ, ◌≤◌}
use native.Mathlib.Omega.{arith}
use lib.ListN.{drop}
use Rattle.integers.proofs.Parts.{up, dn}
use Rattle.integers.proofs.Tests.{cases, true_is_not_false}
use Rattle.octagon.specs.Cells.{Cells, ◌≐◌, In}
use Rattle.outline.specs.declared.Outline.{Outline}
use Rattle.outline.specs.Closing.{Closes}
use Rattle.outline.specs.Tables.{pieces, piece_sides}
use Rattle.outline.specs.Walk.{InsideWalk}
use Rattle.outline.specs.Tracing.{drawn}
use Rattle.outline.specs.Sameness.{SameSides}
use Rattle.morphology.specs.Sets.{DilatedTimes}
use Rattle.morphology.proofs.SetLaws.{same_refl, same_trans, dilated_times_same}
use Rattle.decomposition.specs.declared.Start.{Start}
use Rattle.decomposition.specs.declared.Counts.{Counts}
use Rattle.decomposition.specs.Pieces.{outlines, piece_of, listed, Only, DilatedByEach, Rebuilt}
use Rattle.decomposition.specs.Rule.{Crossed, recounted}
use Rattle.decomposition.specs.Pairs.{made}
use Rattle.decomposition.specs.Splitting.{first_counts, is_crossed, with_k13, counts, split_of}
use Rattle.decomposition.proofs.Choice.{counts_made}
use Rattle.decomposition.proofs.LastStep.{crossed_test}
use Rattle.decomposition.proofs.Order.{put_last}
use Rattle.decomposition.proofs.Added.{AtOrigin, plus, plus_each}
use Rattle.decomposition.proofs.Exact.{Exact, rises, falls, Free, exact_same, exact_times, AllBroad, exact_each, cell_at, exact_start}

-- ---- the two diagonal rows, and the pieces that are none

abbrev K2 : Outline
K2 = piece_of 1

abbrev K4 : Outline
K4 = piece_of 3

-- K5 to K13
abbrev later : List Outline
later = drop 4 outlines

abbrev later_counts : Counts → List ℕ
later_counts k = drop 4 (listed k)

broads : List Outline
broads = piece_of 0 ∷ piece_of 2 ∷ later

abbrev broad_counts : Counts → List ℕ
broad_counts k = k.k1 ∷ k.k3 ∷ later_counts k

-- (`omega` takes a goal of up to 64 parts)
all_broad : AllBroad broads
unfolding broads piece_of piece_sides outlines pieces up dn
all_broad = (omega arith, (omega arith, (omega arith, (omega arith, (omega arith, omega arith)))))

K2_at_origin : AtOrigin K2
unfolding piece_of piece_sides outlines pieces up dn
K2_at_origin = omega arith

K4_at_origin : AtOrigin K4
unfolding piece_of piece_sides outlines pieces up dn
K4_at_origin = omega arith

-- ---- the two diagonal rows are never there alone

-- the sides that all but the diagonal rows make
abbrev wide : Counts → Outline
wide k = made (recounted k 0 0 k.k13)

each_wide : (k : Counts) (s : Start) → SameSides (plus_each (broad_counts k) broads (cell_at s)) (wide k)
unfolding broads piece_of piece_sides outlines pieces
each_wide k s = omega arith

-- these are one cell wide in one diagonal direction only where they are in the other: where there are none
no_falls : (k : Counts) → rises (wide k) ≡ 0 → falls (wide k) ≡ 0
no_falls k h = omega arith

no_rises : (k : Counts) → falls (wide k) ≡ 0 → rises (wide k) ≡ 0
no_rises k h = omega arith

-- K2 and K4 are there and nothing else is, K13 included
record Alone (k : Counts) : Type 0 where
  some_k2 : 1 ≤ k.k2
  some_k4 : 1 ≤ k.k4
  nothing_wide : rises (wide k) ≡ 0

-- what the other pieces make is opposed to no K4
free_k4 : (k : Counts) (o : Outline) → SameSides o (wide k) → Free o K4
unfolding piece_of piece_sides outlines pieces
free_k4 k o w = (λ a. let z = no_rises k (omega arith) in omega arith, λ a. omega arith)

-- and what these make with some K4 is opposed to no K2
free_k2 : (k : Counts) (o : Outline) → SameSides o (wide k) → ¬ (Alone k) → 1 ≤ k.k2 → Free (plus k.k4 K4 o) K2
unfolding piece_of piece_sides outlines pieces
free_k2 k o w n l = (
  λ a. omega arith,
  λ a.
      let z : rises (wide k) ≡ 0 = omega arith in
      let y = no_falls k z in
      n (record { some_k2 = l; some_k4 = omega arith; nothing_wide = z }),
)

-- ---- in that order

module _ (k : Counts) (s : Start) where
  broad : Cells
  broad = DilatedByEach (broad_counts k) broads (Only s)

  rows_last : Cells
  rows_last = DilatedTimes k.k2 (DilatedTimes k.k4 broad (InsideWalk K4)) (InsideWalk K2)

  put_rows_last : DilatedByEach (listed k) outlines (Only s) ≐ rows_last
  unfolding rows_last broad broads piece_of piece_sides outlines pieces
  put_rows_last =
      let A = DilatedTimes k.k1 (Only s) (InsideWalk (piece_of 0)) in
      same_trans
      (put_last A (InsideWalk K2) k.k2 (k.k3 ∷ k.k4 ∷ later_counts k) (piece_of 2 ∷ K4 ∷ later))
      (dilated_times_same k.k2 (put_last (DilatedTimes k.k3 A (InsideWalk (piece_of 2))) (InsideWalk K4) k.k4 (later_counts k) later) (same_refl (InsideWalk K2)))

  abbrev sides : Outline
  sides = plus_each (broad_counts k) broads (cell_at s)

  exact : ¬ (Alone k) → Exact rows_last (plus k.k2 K2 (plus k.k4 K4 sides))
  unfolding rows_last broad
  exact n =
      exact_times (DilatedTimes k.k4 broad (InsideWalk K4)) k.k2 (plus k.k4 K4 sides) K2 K2_at_origin
      (free_k2 k sides (each_wide k s) n)
      (exact_times broad k.k4 sides K4 K4_at_origin (λ l. free_k4 k sides (each_wide k s))
      (exact_each (Only s) (broad_counts k) broads (cell_at s) all_broad (exact_start s)))

  all_made : SameSides (plus k.k2 K2 (plus k.k4 K4 sides)) (made k)
  unfolding broads piece_of piece_sides outlines pieces
  all_made = omega arith

  start_kept : (s.i ≡ sides.i) × (s.j ≡ sides.j)
  unfolding broads piece_of piece_sides outlines pieces
  start_kept = (refl, refl)

-- ---- the counts that are computed

with_k13_whole : (k : Counts) → ¬ (Alone (with_k13 k))
unfolding with_k13
with_k13_whole k = cases (is_crossed k) (λ t. rw t (λ a. omega arith)) (λ f. rw f (λ a. true_is_not_false (sym (crossed_test k (crossed a)) ∙ f)))
  where
    crossed : Alone k → Crossed k
    crossed a = omega arith

counts_whole : (o : Outline) → ¬ (Alone (counts o))
unfolding counts
counts_whole o = with_k13_whole (first_counts o)

between : (o p q : Outline) → SameSides p o → SameSides q p → SameSides o q
between o p q e f = omega arith

-- the start cell dilated by the counted pieces: exactly the cells of the outline's octagon
pub rebuild : (o : Outline) → Closes o → Rebuilt (split_of o) ≐ In (drawn o)
unfolding split_of
rebuild o c =
    let s : Start = record { i = o.i; j = o.j } in
    let k = counts o in
    let t = plus k.k2 K2 (plus k.k4 K4 (sides k s)) in
    let e = start_kept k s in
    let m = between o (made k) t (counts_made o c) (all_made k s) in
    same_trans (put_rows_last k s) (exact_same (rows_last k s) t o e.0 e.1 m (exact k s (counts_whole o))).cells
