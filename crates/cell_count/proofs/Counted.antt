-- The cell count, in the words of document 01: the number of cells in the octagon's set, its refusals, and how the counts
-- of two octagons compare. Assumes nothing.
use mathlib.Core.Path.{◌≡◌, refl, sym, ◌∙◌, ap}
use mathlib.Core.Logic.{◌↔◌}
use Prim.Native.Nat.{ℕ, ◌+◌, ◌^◌, ◌<◌, ◌≤◌}
use native.Mathlib.Omega.{arith}
use Rattle.octagon.specs.Octagon.{Octagon}
use Rattle.octagon.specs.Outcome.{accepted, refused}
use Rattle.octagon.specs.Cells.{◌⊆◌, ◌≐◌, Some, In, OnMap, limit}
use Rattle.octagon.specs.NormalForm.{normalised}
use Rattle.octagon.proofs.Outcomes.{map_accepted, map_refused}
use Rattle.octagon.proofs.NormalForms.{accepted_means, accepted_normal, accepted_near, accepted_when, normalised_again}
use Rattle.cell_count.specs.Count.{without, count, inside, Counted}
use Rattle.cell_count.specs.Area.{area, cell_count}
use Rattle.cell_count.proofs.Counts.{count_same, count_most, count_lost, count_some}
use Rattle.cell_count.proofs.Inside.{inside_is, inside_most, inside_same}
use Rattle.cell_count.proofs.Formula.{cells_and_cuts}
use Rattle.cell_count.proofs.Lengths.{near_fits, lengths, greatest, rectangle_most}

-- ---- the formula

own_area : (c a : Octagon) → normalised c ≡ accepted a → (r : ℕ) → limit ≤ r → area a ≡ count r (inside a)
unfolding area
own_area c a e r h = omega (arith, cells_and_cuts r a (accepted_normal c a e) (near_fits r a h (accepted_near c a e)))

-- the formula is the number of cells within the bounds, in the map's square and in every larger one
pub counted : (c a : Octagon) → normalised c ≡ accepted a → (r : ℕ) → limit ≤ r → area a ≡ count r (inside c)
counted c a e r h = own_area c a e r h ∙ count_same r (inside_same a c (accepted_means c a e).cells)

-- it is at most the map's cells and one column more
pub area_most : (c a : Octagon) → normalised c ≡ accepted a → area a ≤ greatest
unfolding area
area_most c a e = omega (arith, rectangle_most a (lengths a (normalised_again c a e)))

-- so it fits an unsigned 64-bit number
pub area_fits : (c a : Octagon) → normalised c ≡ accepted a → area a < 2 ^ 64
area_fits c a e = omega (arith, area_most c a e)

-- it is 1 or more
pub area_some : (c a : Octagon) → normalised c ≡ accepted a → 1 ≤ area a
area_some c a e =
    let m = accepted_means c a e in
    let v = m.is_normalised.some in
    let o = m.on_the_map v.x v.y v.cell in
    omega (
      arith,
      own_area c a e limit (omega arith),
      count_some limit (inside a) v.x v.y o ((inside_is a v.x v.y).1 v.cell),
    )

-- ---- the answer

-- an accepted count is the area of the normal form
pub count_accepted : (c : Octagon) (n : ℕ) → cell_count c ≡ accepted n → (a : Octagon) × (normalised c ≡ accepted a) × (area a ≡ n)
unfolding cell_count
count_accepted c n = map_accepted (normalised c) area n

-- and so of a normal form it is its own
pub own_count : (a : Octagon) → normalised a ≡ accepted a → cell_count a ≡ accepted (area a)
unfolding cell_count
own_count a e = rw e refl

-- refused as `normalise` refuses, and only so
pub count_refused : (c : Octagon) (k : ℕ) → (cell_count c ≡ refused k) ↔ (normalised c ≡ refused k)
unfolding cell_count
count_refused c k = map_refused (normalised c) area k

-- accepted: the number of cells within the bounds, in the map's square and in every larger one; 1 or more, and within 64 bits
pub count_means : (c : Octagon) (n : ℕ) → cell_count c ≡ accepted n → Counted c n
count_means c n e =
    let a = count_accepted c n e in
    record {
      cells = λ r h. sym a.2 ∙ counted c a.0 a.1 r h;
      some = omega (arith, area_some c a.0 a.1, a.2);
      fits = omega (arith, area_fits c a.0 a.1, a.2);
    }

-- and that is so for all bounds that hold a cell and whose cells are on the map
pub count_when : (c : Octagon) → Some (In c) → In c ⊆ OnMap → cell_count c ≡ accepted (count limit (inside c))
unfolding cell_count
count_when c s h =
    let a = accepted_when c s h in
    rw a.1 (ap accepted (counted c a.0 a.1 limit (omega arith)))

-- ---- two octagons

module _ (c d : Octagon) (m n : ℕ) (p : cell_count c ≡ accepted m) (q : cell_count d ≡ accepted n) where
  -- the same cells, the same count
  pub count_equal : In c ≐ In d → m ≡ n
  count_equal h =
      (count_means c m p).cells limit (omega arith) ∙ count_same limit (inside_same c d h)
      ∙ sym ((count_means d n q).cells limit (omega arith))

  -- a subset has at most as many
  pub count_subset : In c ⊆ In d → m ≤ n
  count_subset h =
      omega (
        arith,
        (count_means c m p).cells limit (omega arith),
        (count_means d n q).cells limit (omega arith),
        count_most limit {p = inside c} {q = inside d} (inside_most c d h),
      )

  -- and what it lacks are the cells lost
  pub count_difference : (r : ℕ) → limit ≤ r → In c ⊆ In d → count r (without (inside d) (inside c)) + m ≡ n
  count_difference r l h =
      omega (
        arith,
        (count_means c m p).cells r l,
        (count_means d n q).cells r l,
        count_lost r (inside d) (inside c) (inside_most c d h),
      )
