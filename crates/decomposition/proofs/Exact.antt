-- A set that is the octagon of an outline, dilated by pieces that are not opposed to it, is the octagon of the sides' sums. Assumes nothing.
use mathlib.Core.Path.{◌≡◌, refl}
use mathlib.Core.List.{List, [], ◌∷◌}
use Prim.Native.Nat.{ℕ, zero, suc, ◌+◌, ◌≤◌}
use native.Mathlib.Omega.{arith}
use Rattle.octagon.specs.Octagon.{Octagon}
use Rattle.octagon.specs.Cells.{Cells, ◌≐◌, In}
use Rattle.outline.specs.declared.Outline.{Outline}
use Rattle.outline.specs.Closing.{Closes}
use Rattle.outline.specs.Walk.{InsideWalk}
use Rattle.outline.specs.Tracing.{drawn}
use Rattle.outline.specs.Meaning.{no_sides}
use Rattle.outline.specs.Sameness.{SameSides}
use Rattle.outline.proofs.Drawn.{Drawn, closed_drawn, closed_normal}
use Rattle.outline.proofs.Inside.{inside_walk}
use Rattle.outline.proofs.OneCell.{no_sides_close, one_cell_drawn}
use Rattle.outline.proofs.Sameness.{equal_outlines}
use Rattle.morphology.specs.Sets.{Dilated, DilatedTimes}
use Rattle.morphology.proofs.Meet.{Opposed}
use Rattle.morphology.proofs.Sums.{sums_exact}
use Rattle.morphology.proofs.SetLaws.{same_sym, same_trans, dilated_same}
use Rattle.decomposition.specs.declared.Start.{Start}
use Rattle.decomposition.specs.Pieces.{Only, DilatedByEach}
use Rattle.decomposition.proofs.Added.{AtOrigin, Added, added_closes, added_sums, plus, plus_none, plus_one, plus_more, plus_each}

-- A is the octagon of an outline that closes
pub record Exact (A : Cells) (o : Outline) : Type 0 where
  pub closed : Closes o
  pub cells : A ≐ In (drawn o)

pub exact_same : (A : Cells) (o p : Outline) → p.i ≡ o.i → p.j ≡ o.j → SameSides p o → Exact A o → Exact A p
exact_same A o p ei ej s e = rw (equal_outlines ei ej s) e

-- ---- opposed rows by the sides

-- how many lines x + y there are beside the first, and how many lines x - y
abbrev pub rises : Outline → ℕ
rises o = o.n0 + o.n1 + o.n1 + o.n2

abbrev pub falls : Outline → ℕ
falls o = o.n0 + o.n6 + o.n7 + o.n7

-- o is a diagonal row on a line x - y, and p one on a line x + y
pub record Against (o p : Outline) : Type 0 where
  pub one_line : falls o ≡ 0
  pub some : 1 ≤ rises o
  pub other_line : rises p ≡ 0
  pub other_some : 1 ≤ falls p

abbrev pub Free : Outline → Outline → Type 0
Free o p = ¬ (Against o p) × ¬ (Against p o)

against : (o p : Outline) (a b : Octagon) → Drawn o a → Drawn p b → Opposed a b → Against o p
against o p a b d e h = omega arith

-- ---- dilating by one outline, once and k times

exact_added : (A : Cells) (o p t : Outline) → AtOrigin p → Added o p t → Free o p → Exact A o → Exact (Dilated A (InsideWalk p)) t
exact_added A o p t z q f e =
    let d = closed_drawn o e.closed in
    let d' = closed_drawn p z.closed in
    record {
      closed = added_closes o p t e.closed z.closed q;
      cells =
          same_trans (dilated_same e.cells (same_sym (inside_walk p)))
          (rw (← added_sums o p t e.closed z q)
          (same_sym (sums_exact (drawn o) (drawn p) (closed_normal o e.closed) (closed_normal p z.closed)
          (λ h. f.0 (against o p (drawn o) (drawn p) d d' h))
          (λ h. f.1 (against p o (drawn p) (drawn o) d' d h)))));
    }

-- what has an outline in it is not opposed to that
free_more : (k : ℕ) (o p : Outline) → Free (plus (suc k) p o) p
free_more k o p = let q = plus_more k o p in (λ h. omega arith, λ h. omega arith)

pub exact_times : (A : Cells) (k : ℕ) (o p : Outline) → AtOrigin p → (1 ≤ k → Free o p) → Exact A o → Exact (DilatedTimes k A (InsideWalk p)) (plus k p o)
exact_times A zero o p z f e = exact_same A o (plus 0 p o) refl refl (plus_none o p) e
exact_times A (suc zero) o p z f e = exact_added A o p (plus 1 p o) z (plus_one o p) (f (omega arith)) e
exact_times A (suc (suc k)) o p z f e =
    exact_added (DilatedTimes (suc k) A (InsideWalk p)) (plus (suc k) p o) p (plus (suc (suc k)) p o) z (plus_more (suc k) o p) (free_more k o p)
    (exact_times A (suc k) o p z (λ l. f (omega arith)) e)

-- ---- dilating by outlines that are no diagonal rows

pub record Broad (p : Outline) : Type 0 where
  pub at_origin : AtOrigin p
  pub across : 1 ≤ falls p
  pub along : 1 ≤ rises p

abbrev pub AllBroad : List Outline → Type 0
AllBroad [] = Unit {0}
AllBroad (p ∷ ps) = Broad p × AllBroad ps

free_broad : (o p : Outline) → Broad p → Free o p
free_broad o p b = (λ h. omega arith, λ h. omega arith)

pub exact_each : (A : Cells) (ks : List ℕ) (ps : List Outline) (o : Outline) → AllBroad ps → Exact A o → Exact (DilatedByEach ks ps A) (plus_each ks ps o)
exact_each A [] ps o b e = e
exact_each A (k ∷ ks) [] o b e = e
exact_each A (k ∷ ks) (p ∷ ps) o b e =
    exact_each (DilatedTimes k A (InsideWalk p)) ks ps (plus k p o) b.1 (exact_times A k o p b.0.at_origin (λ l. free_broad o p b.0) e)

-- ---- the start cell

abbrev pub cell_at : Start → Outline
cell_at s = no_sides s.i s.j

pub exact_start : (s : Start) → Exact (Only s) (cell_at s)
exact_start s = record { closed = no_sides_close s.i s.j; cells = one_cell_drawn s.i s.j }
