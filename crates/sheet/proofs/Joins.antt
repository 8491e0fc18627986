-- A join step by step, with the order of its refusals; a refused join leaves every byte (`join_refused`), and an accepted one the sheet of
-- the records of both (`join_accepted`). Assumes nothing.
use mathlib.Core.Path.{◌≡◌, refl, sym, ap, subst, ◌∙◌}
use mathlib.Core.Bool.{true, false}
use mathlib.Core.Logic.Iff
use mathlib.Core.Logic.{◌↔◌, ◌⊎◌, ⊎_map}
use mathlib.Core.List.{List}
use Prim.Native.Nat.{ℕ, ◌-◌, ◌≤◌}
use native.Mathlib.Omega.{arith}
use lib.ListN.{length}
use Rattle.octagon.specs.Outcome.{Outcome, accepted, refused, then, left}
use Rattle.octagon.proofs.Outcomes.{accepted_same, past_test, then_accepted, map_accepted, map_refused}
use Rattle.records.specs.Numbers.{AreBytes}
use Rattle.records.specs.Parts.{part}
use Rattle.sheet.specs.declared.Record.{Record}
use Rattle.sheet.specs.Answers.{no_room, two_records}
use Rattle.sheet.specs.Layout.{record_length, layout_of, Fits}
use Rattle.sheet.specs.Trailer.{trailer_length, trailer_at}
use Rattle.sheet.specs.Bytes.{TrailerOf}
use Rattle.sheet.specs.Order.{All}
use Rattle.sheet.specs.Merging.{conflict, merged}
use Rattle.sheet.specs.Sheets.{sheet_limit, Sheet, first}
use Rattle.sheet.specs.Checking.{parsed, checked}
use Rattle.sheet.specs.Cases.{stated_plots, IsFetched}
use Rattle.sheet.specs.Writing.{written_over, written_length, has_no_room}
use Rattle.sheet.specs.Joining.{union, united, joining, joined, after_join, joined_count, joined_length, JoinedSheet}
use Rattle.sheet.proofs.Plots.{plots_fit}
use Rattle.sheet.proofs.Checks.{checked_count}
use Rattle.sheet.proofs.Overwritten.{over_parsed, over_trailer, over_heading, over_past, over_length}
use Rattle.sheet.proofs.Inserts.{room_kept}
use Rattle.sheet.proofs.Grown.{fetched_ascending}
use Rattle.sheet.proofs.Members.{parsed_among, stated_sheet, checked_stated}
use Rattle.sheet.proofs.Merging.{ascending_merged, all_merged}
use Rattle.sheet.proofs.Agreement.{length_merged, conflict_none, among_merged}

-- one of two things, each as another
pub either : {A B C D : Type 0} → A ↔ C → B ↔ D → (A ⊎ B) ↔ (C ⊎ D)
either f g = (⊎_map f.0 g.0, ⊎_map f.1 g.1)

-- ---- the two as one

module _ (u : List ℕ) (y z : Sheet) where
  pub unite_differing : conflict y.plots z.plots ≡ true → united u y z ≡ refused two_records
  unfolding united
  unite_differing e = rw e

  pub unite_room : conflict y.plots z.plots ≡ false → has_no_room u (written_length (union y z)) ≡ true → united u y z ≡ refused no_room
  unfolding united
  unite_room e f = rw (e, f)

  pub unite_good : conflict y.plots z.plots ≡ false → has_no_room u (written_length (union y z)) ≡ false → united u y z ≡ accepted (union y z)
  unfolding united
  unite_good e f = rw (e, f)

  -- what two that are accepted say
  pub record United : Type 0 where
    pub agree : conflict y.plots z.plots ≡ false
    pub within : written_length (union y z) ≤ length u
    pub short : written_length (union y z) ≤ sheet_limit

  united_passed : (x : Sheet) → united u y z ≡ accepted x → United × (x ≡ union y z)
  unfolding united
  united_passed x e =
      let n = written_length (union y z) in
      let p = past_test (conflict y.plots z.plots) two_records _ x e in
      let q = past_test (has_no_room u n) no_room (accepted (union y z)) x p.1 in
      let b = room_kept u n q.0 in
      (record { agree = p.0; within = b.0; short = b.1 }, sym (accepted_same q.1))

-- ---- the order of the refusals

module _ (s : List ℕ) (m : ℕ) (t : List ℕ) (n : ℕ) (u : List ℕ) where
  -- the first sheet is refused, and nothing is touched
  pub join_first : {k : ℕ} → parsed s m ≡ refused k → (refused k ≡ joined s m t n u) × (u ≡ after_join s m t n u)
  unfolding joining joined after_join
  join_first e = rw e (refl, refl)

  -- it is not, and the second decides with it
  pub join_rest : {y : Sheet} → parsed s m ≡ accepted y
      → (then (then (parsed t n) (united u y)) (λ x. accepted (written_length x)) ≡ joined s m t n u) × (left u (then (parsed t n) (united u y)) (written_over u) ≡ after_join s m t n u)
  unfolding joining joined after_join
  join_rest e = rw e (refl, refl)

  -- the second is refused
  pub join_second : {y : Sheet} {k : ℕ} → parsed s m ≡ accepted y → parsed t n ≡ refused k → (refused k ≡ joined s m t n u) × (u ≡ after_join s m t n u)
  unfolding joining joined after_join
  join_second e f = rw (e, f) (refl, refl)

  -- neither is, and the two together decide
  pub join_both : {y z : Sheet} → parsed s m ≡ accepted y → parsed t n ≡ accepted z
      → (then (united u y z) (λ x. accepted (written_length x)) ≡ joined s m t n u) × (left u (united u y z) (written_over u) ≡ after_join s m t n u)
  unfolding joining joined after_join
  join_both e f = rw (e, f) (refl, refl)

-- "A refused call alters nothing it was lent": every byte is as it was
pub join_refused : (s : List ℕ) (m : ℕ) (t : List ℕ) (n : ℕ) (u : List ℕ) (k : ℕ) → joined s m t n u ≡ refused k → after_join s m t n u ≡ u
unfolding joined after_join
join_refused s m t n u k e = rw ((map_refused (joining s m t n u) written_length k).0 e)

-- ---- what is accepted

module _ (s : List ℕ) (m : ℕ) (t : List ℕ) (n c d : ℕ) (e : checked s m ≡ accepted c) (f : checked t n ≡ accepted d) where
  abbrev both : Sheet
  both = union (stated_sheet s m) (stated_sheet t n)

  -- how many records there are together, and how long the sheet of them is
  pub both_count : length (merged (stated_plots s m) (stated_plots t n)) ≡ joined_count s m t n c d
  both_count =
      let a = checked_stated s m c e in
      let b = checked_stated t n d f in
      let l = length_merged (stated_plots s m) b.ascending in
      omega (arith, a.many, b.many)

  pub both_length : written_length (union (stated_sheet s m) (stated_sheet t n)) ≡ joined_length s m (joined_count s m t n c d)
  both_length = rw (both_count, (checked_stated s m c e).heading_long)

  module _ (u : List ℕ) (v : AreBytes s) (w : AreBytes t) (g : United u (stated_sheet s m) (stated_sheet t n)) where
    both_parsed : parsed (written_over u both) (written_length both) ≡ accepted both
    both_parsed =
        over_parsed u both g.short
        (all_merged (fit s m c v e) (fit t n d w f))
        (ascending_merged (checked_stated s m c e).ascending (checked_stated t n d f).ascending)
      where
        fit : (s : List ℕ) (m c : ℕ) → AreBytes s → checked s m ≡ accepted c → All (Fits (layout_of record_length)) (stated_plots s m)
        fit s m c v e =
            let z = trailer_at s (m - trailer_length) in plots_fit z.length s (first m z.distance) z.count 0 v (checked_stated s m c e).ascending

    both_checked : checked (written_over u both) (written_length both) ≡ accepted (joined_count s m t n c d)
    both_checked = checked_count (written_over u both) (written_length both) both_parsed ∙ ap accepted both_count

    both_fetched : (q : Record) → IsFetched (written_over u both) (written_length both) q ↔ (IsFetched s m q ⊎ IsFetched t n q)
    both_fetched q =
        let a = checked_stated s m c e in
        let b = checked_stated t n d f in
        let i = among_merged (stated_plots s m) b.ascending (conflict_none (stated_plots s m) (stated_plots t n) g.agree) q in
        Iff.trans (parsed_among (written_over u both) (written_length both) both_parsed q)
        (Iff.trans i (either (Iff.symm (parsed_among s m a.is_parsed q)) (Iff.symm (parsed_among t n b.is_parsed q))))

    joined_sheet : JoinedSheet s m t n u (written_over u both) c d (written_length both)
    joined_sheet = record {
      first_counted = e;
      second_counted = f;
      length_is = both_length;
      checks = both_checked;
      records = both_fetched;
      rising = λ k a b. fetched_ascending (written_over u both) (written_length both) (joined_count s m t n c d) k a b both_checked;
      trailer_is = subst (λ (k : ℕ). TrailerOf record_length k (part (written_over u both) (written_length both - trailer_length) trailer_length)) both_count (over_trailer u both g.short);
      heading = rw (checked_stated s m c e).heading_long at (over_heading u both);
      past = over_past u both;
      same_length = over_length u both g.within;
    }

    left_there : (u' : List ℕ) (l : ℕ) → u' ≡ written_over u both → l ≡ written_length both → JoinedSheet s m t n u u' c d l
    left_there u' l p q = rw (p, q) joined_sheet

-- both sheets check, they are united, and the sheet of both is what is written
pub record Taken (s : List ℕ) (m : ℕ) (t : List ℕ) (n : ℕ) (u : List ℕ) (l : ℕ) : Type 0 where
  pub c : ℕ
  pub d : ℕ
  pub first_counted : checked s m ≡ accepted c
  pub second_counted : checked t n ≡ accepted d
  pub unity : United u (stated_sheet s m) (stated_sheet t n)
  pub left_is : after_join s m t n u ≡ written_over u (union (stated_sheet s m) (stated_sheet t n))
  pub length_is : l ≡ written_length (union (stated_sheet s m) (stated_sheet t n))

pub join_taken : (s : List ℕ) (m : ℕ) (t : List ℕ) (n : ℕ) (u : List ℕ) (l : ℕ) → joined s m t n u ≡ accepted l → Taken s m t n u l
unfolding joined joining
join_taken s m t n u l h =
    let x = map_accepted (joining s m t n u) written_length l h in
    let p = then_accepted (parsed s m) _ x.0 x.1 in
    let q = then_accepted (parsed t n) (united u p.between) x.0 p.second in
    let e = checked_count s m p.first in
    let f = checked_count t n q.first in
    let b = join_both s m t n u (checked_stated s m _ e).is_parsed (checked_stated t n _ f).is_parsed in
    let z = map_accepted (united u (stated_sheet s m) (stated_sheet t n)) written_length l (b.0 ∙ h) in
    let g = united_passed u (stated_sheet s m) (stated_sheet t n) z.0 z.1 in
    record {
      c = length p.between.plots;
      d = length q.between.plots;
      first_counted = e;
      second_counted = f;
      unity = g.0;
      left_is = sym b.1 ∙ ap (λ (o : Outcome Sheet). left u o (written_over u)) z.1 ∙ ap (written_over u) g.1;
      length_is = sym z.2 ∙ ap (λ (a : Sheet). written_length a) g.1;
    }

-- the records of both by rising number, at 46 bytes each, "under the first sheet's heading", and a plot in both once; "Bytes of the third
-- past the new length keep their values"
pub join_accepted : (s : List ℕ) (m : ℕ) (t : List ℕ) (n : ℕ) (u : List ℕ) (l : ℕ) → AreBytes s → AreBytes t → joined s m t n u ≡ accepted l
    → (c : ℕ) × (d : ℕ) × JoinedSheet s m t n u (after_join s m t n u) c d l
join_accepted s m t n u l v w h =
    let k = join_taken s m t n u l h in
    let j = left_there s m t n k.c k.d k.first_counted k.second_counted u v w k.unity in
    (k.c, k.d, j (after_join s m t n u) l k.left_is k.length_is)
