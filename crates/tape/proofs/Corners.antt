-- There and back: the eight corners of an octagon in metres, handed in as a tape, give its normal form, bound for bound. Assumes nothing.
use mathlib.Core.Path.{◌≡◌, sym, ap, subst, ◌∙◌}
use mathlib.Core.List.{List}
use Prim.Native.Nat.{ℕ, ◌/◌, ◌<◌}
use native.Mathlib.Omega.{arith}
use lib.ListN.{length}
use lib.Ieee.{Float}
use Rattle.octagon.specs.Octagon.{Octagon}
use Rattle.octagon.specs.Outcome.{accepted}
use Rattle.octagon.specs.Cells.{◌⊆◌, Some, In, Smallest}
use Rattle.octagon.specs.NormalForm.{normalised}
use Rattle.octagon.proofs.Outcomes.{accepted_same}
use Rattle.octagon.proofs.Smallest.{smallest_when}
use Rattle.outline.specs.declared.Outline.{Outline}
use Rattle.outline.specs.Walk.{vertex}
use Rattle.outline.specs.Tracing.{traced}
use Rattle.outline.specs.Outlining.{outlined}
use Rattle.outline.specs.Places.{located}
use Rattle.outline.specs.Meaning.{Reaches}
use Rattle.outline.proofs.Vertices.{vertices}
use Rattle.outline.proofs.RoundTrips.{outline_octagon}
use Rattle.outline.proofs.Metres.{accepted_means, vertex_on_map}
use Rattle.tape.specs.Enclosing.{enclosed}
use Rattle.tape.specs.Cases.{point, CellOf, InsideUpTo, TapeCells, is_plot}
use Rattle.tape.proofs.OnePoint.{cell_only}
use Rattle.tape.proofs.Quarters.{quarter_in_cell}
use Rattle.tape.proofs.Cases.{enclose_exactly}

-- a tape of the eight corners of the octagon c
module _ (c : Octagon) (t : List Float) (sixteen : length t ≡ 16) (corners : (k : ℕ) → k < 8 → located c k ≡ accepted (point t k)) where
  -- the cell of corner k is vertex k of the outline
  corner_cell : (o : Outline) → outlined c ≡ accepted o → (k : ℕ) → k < 8 → CellOf (point t k) (vertex o k).x (vertex o k).y
  corner_cell o q k h =
      let m = accepted_means c k (point t k) (corners k h) in
      let w = m.outline in
      subst (λ u. CellOf (point t k) (vertex u k).x (vertex u k).y) (accepted_same (sym m.its_outline ∙ q))
      (record {
        across = quarter_in_cell (vertex w k).x (point t k).east m.east_exact;
        upward = quarter_in_cell (vertex w k).y (point t k).north m.north_exact;
      })

  below_eight : {k : ℕ} → k < length t / 2 → k < 8
  below_eight h = rw sixteen at h

  module _ (o : Outline) (q : outlined c ≡ accepted o) (a : Octagon) (r : traced o ≡ accepted a) where
    -- the corners are cells of the octagon
    corners_in : TapeCells t ⊆ In a
    corners_in x y d =
        let h = below_eight d.in_tape in
        let e = cell_only (corner_cell o q d.k h) d.cell in
        rw (e.0, e.1) (vertices o a r d.k h).inside

    -- and corner k reaches bound k
    corner_reaches : (k : ℕ) → k < 8 → Some (λ x y. TapeCells t x y × Reaches a k x y)
    corner_reaches k h = record {
      x = (vertex o k).x;
      y = (vertex o k).y;
      cell = (record { k = k; in_tape = rw sixteen h; cell = corner_cell o q k h }, (vertices o a r k h).own);
    }

    corners_smallest : Smallest a (TapeCells t)
    corners_smallest =
        smallest_when corners_in
        (record {
          reached0 = corner_reaches 0 (omega arith);
          reached1 = corner_reaches 1 (omega arith);
          reached2 = corner_reaches 2 (omega arith);
          reached3 = corner_reaches 3 (omega arith);
          reached4 = corner_reaches 4 (omega arith);
          reached5 = corner_reaches 5 (omega arith);
          reached6 = corner_reaches 6 (omega arith);
          reached7 = corner_reaches 7 (omega arith);
        })

    corners_inside : InsideUpTo t (length t / 2)
    corners_inside k h =
        let l = below_eight h in
        record { x = (vertex o k).x; y = (vertex o k).y; cell = corner_cell o q k l; on = vertex_on_map c o q k l }

    corners_enclosed : enclosed t ≡ accepted a
    corners_enclosed =
        (enclose_exactly t (accepted a)).1
        (is_plot (record { some = λ e. let l = ap length e in omega arith; even = omega arith }) a corners_inside corners_smallest)

-- the tape of the corners of bounds that are accepted is answered with their normal form
pub there_and_back : (c a : Octagon) (t : List Float) → normalised c ≡ accepted a → length t ≡ 16 →
    ((k : ℕ) → k < 8 → located c k ≡ accepted (point t k)) → enclosed t ≡ accepted a
there_and_back c a t n s f =
    let m = accepted_means c 0 (point t 0) (f 0 (omega arith)) in
    let r = outline_octagon c m.outline m.its_outline in
    corners_enclosed c t s f m.outline m.its_outline a (r.2 ∙ sym r.1 ∙ n)
