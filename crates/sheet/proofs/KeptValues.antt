-- An insert into a sheet of any record length, and a join of two, write every record that they keep with 46 bytes, and with the number, the
-- start, the sides and the fee row that it had (`insert_keeps`, `join_keeps`). Assumes nothing.
use mathlib.Core.Path.{◌≡◌}
use mathlib.Core.Logic.{◌⊎◌}
use mathlib.Core.List.{List}
use Prim.Native.Nat.{ℕ, ◌+◌, ◌-◌}
use Rattle.octagon.specs.Outcome.{accepted}
use Rattle.records.specs.Numbers.{AreBytes}
use Rattle.sheet.specs.declared.Record.{Record}
use Rattle.sheet.specs.Layout.{record_length, Sized}
use Rattle.sheet.specs.Trailer.{trailer_length, trailer_at}
use Rattle.sheet.specs.Cases.{stated_heading, IsFetched, FetchCase, fetches}
use Rattle.sheet.specs.Writing.{inserted, after_insert, Rewritten}
use Rattle.sheet.specs.Joining.{joined, after_join}
use Rattle.sheet.proofs.CheckCases.{check_exactly}
use Rattle.sheet.proofs.FetchCases.{fetch_exactly}
use Rattle.sheet.proofs.Grown.{insert_accepted, nothing_lost}
use Rattle.sheet.proofs.Joins.{join_accepted}
use Rattle.sheet.proofs.OneBuffer.{SheetIn, states_length}

-- each record of a sheet of 46 bytes a record is so
rewritten : (v : List ℕ) (h c n : ℕ) → SheetIn record_length h c n v → (q : Record) → IsFetched v n q → Rewritten v n q
rewritten v h c n i q f = go ((fetch_exactly v n f.0 (accepted q)).0 f.1) (states_length record_length h c n v i)
  where
    go : FetchCase v n f.0 (accepted q) → (trailer_at v (n - trailer_length)).length ≡ record_length → Rewritten v n q
    go (fetches {c = d} g l r) e = record {
      count = d;
      counted = (check_exactly v n (accepted d)).1 g;
      names = e;
      index = f.0;
      below = l;
      fetch = f.1;
      fields = rw e at r;
    }

-- a record of the sheet, and the one that is inserted
pub insert_keeps : (s : List ℕ) (len : ℕ) (r : Record) (n : ℕ) → AreBytes s → Sized r → inserted s len r ≡ accepted n
    → (q : Record) → (IsFetched s len q ⊎ (q ≡ r)) → Rewritten (after_insert s len r) n q
insert_keeps s len r n b v e q f =
    let g = insert_accepted s len r n b v e in
    rewritten (after_insert s len r) (stated_heading s len) (g.0 + 1) n
    (record { checks = g.1.checks; trailer_is = g.1.trailer_is; length_is = g.1.length_is })
    q ((nothing_lost s len r n b v e q).1 f)

-- a record of either sheet
pub join_keeps : (s : List ℕ) (m : ℕ) (t : List ℕ) (n : ℕ) (u : List ℕ) (l : ℕ) → AreBytes s → AreBytes t → joined s m t n u ≡ accepted l
    → (q : Record) → (IsFetched s m q ⊎ IsFetched t n q) → Rewritten (after_join s m t n u) l q
join_keeps s m t n u l b d e q f =
    let j = join_accepted s m t n u l b d e in
    rewritten (after_join s m t n u) (stated_heading s m) _ l
    (record { checks = j.2.checks; trailer_is = j.2.trailer_is; length_is = j.2.length_is })
    q ((j.2.records q).1 f)
