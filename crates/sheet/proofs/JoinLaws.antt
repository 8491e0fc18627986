-- The laws of joining: which records the joined sheet has, where a sheet is joined with itself, with one that has no records, in either
-- order, three in either grouping, and with a sheet of one record, as an insert of it; and where 18 is not given. Assumes nothing.
use mathlib.Core.Path.{◌≡◌, sym, ap, ◌∙◌}
use mathlib.Core.Logic.Iff
use mathlib.Core.Logic.{◌↔◌, ◌⊎◌, inl, inr, ⊎_elim, ⊎_swap}
use mathlib.Core.List.{List}
use Prim.Native.Nat.{ℕ, zero, suc}
use native.Mathlib.Omega.{arith}
use Rattle.octagon.specs.Outcome.{accepted}
use Rattle.octagon.proofs.Outcomes.{accepted_same, accepted_not_refused}
use Rattle.records.specs.Numbers.{AreBytes}
use Rattle.records.proofs.Numbers.{take_bytes}
use Rattle.sheet.specs.declared.Record.{Record}
use Rattle.sheet.specs.Layout.{record_length, Sized}
use Rattle.sheet.specs.Order.{nth}
use Rattle.sheet.specs.Merging.{Among}
use Rattle.sheet.specs.Checking.{checked, fetched}
use Rattle.sheet.specs.Cases.{stated_plots, stated_heading, IsFetched}
use Rattle.sheet.specs.Writing.{inserted, after_insert}
use Rattle.sheet.specs.Joining.{union, joined, after_join, SameRecords}
use Rattle.sheet.specs.JoiningCases.{TwoRecords}
use Rattle.sheet.proofs.Checks.{fetched_plot}
use Rattle.sheet.proofs.FetchCases.{fetched_none}
use Rattle.sheet.proofs.BytesWritten.{laid_bytes}
use Rattle.sheet.proofs.Grown.{insert_accepted, nothing_lost}
use Rattle.sheet.proofs.Members.{one_record, ascending_same, parsed_among, stated_sheet, checked_stated}
use Rattle.sheet.proofs.Joins.{either, join_taken, join_accepted}

-- ---- the records of a sheet that checks

-- two sheets in which the same records are fetched have them in the same order
pub same_records : (s : List ℕ) (m : ℕ) (t : List ℕ) (n c d : ℕ) → checked s m ≡ accepted c → checked t n ≡ accepted d
    → ((q : Record) → IsFetched s m q ↔ IsFetched t n q) → SameRecords s m t n
same_records s m t n c d e f h k =
    let a = checked_stated s m c e in
    let b = checked_stated t n d f in
    let i : (q : Record) → Among q (stated_plots s m) ↔ Among q (stated_plots t n) =
    λ q. Iff.trans (Iff.symm (parsed_among s m a.is_parsed q)) (Iff.trans (h q) (parsed_among t n b.is_parsed q)) in
    fetched_plot s m k a.is_parsed
    ∙ ap (λ (rs : List Record). nth rs k) (ascending_same a.ascending b.ascending i)
    ∙ sym (fetched_plot t n k b.is_parsed)

-- and those that have them in the same order have the same
pub records_same : (s : List ℕ) (m : ℕ) (t : List ℕ) (n : ℕ) → SameRecords s m t n → (q : Record) → IsFetched s m q ↔ IsFetched t n q
records_same s m t n e q = (λ (k, f). (k, sym (e k) ∙ f), λ (k, f). (k, e k ∙ f))

-- a plot number stands for one of them
pub one_plot : (s : List ℕ) (m c : ℕ) → checked s m ≡ accepted c → (a b : Record) → IsFetched s m a → IsFetched s m b → a.number ≡ b.number → a ≡ b
one_plot s m c e a b f g =
    let p = checked_stated s m c e in
    one_record p.ascending a b ((parsed_among s m p.is_parsed a).0 f) ((parsed_among s m p.is_parsed b).0 g)

-- ---- a sheet with itself

-- a sheet that is joined with itself has the records that it had
pub join_self : (s : List ℕ) (m : ℕ) (u : List ℕ) (l : ℕ) → AreBytes s → joined s m s m u ≡ accepted l → SameRecords (after_join s m s m u) l s m
join_self s m u l b h =
    let j = join_accepted s m s m u l b b h in
    same_records (after_join s m s m u) l s m _ _ j.2.checks j.2.first_counted (λ q. Iff.trans (j.2.records q) (⊎_elim (λ a. a) (λ a. a), inl))

-- and 18 is not given for it
pub self_agrees : (s : List ℕ) (m c : ℕ) → checked s m ≡ accepted c → ¬ (TwoRecords s m s m)
self_agrees s m c e g = g.differing (one_plot s m c e g.one g.other g.in_first g.in_second g.same_number)

-- ---- a sheet with one that has no records, which changes nothing, be it the second or the first

nothing_fetched : (t : List ℕ) (n : ℕ) → checked t n ≡ accepted 0 → (q : Record) → ¬ (IsFetched t n q)
nothing_fetched t n e q (k, f) = accepted_not_refused (sym f ∙ fetched_none t n k 0 e (omega arith))

module _ (s : List ℕ) (m : ℕ) (t : List ℕ) (n : ℕ) (u : List ℕ) (l : ℕ) (a : AreBytes s) (b : AreBytes t) (e : checked t n ≡ accepted 0) where
  pub join_empty : joined s m t n u ≡ accepted l → SameRecords (after_join s m t n u) l s m
  join_empty h =
      let j = join_accepted s m t n u l a b h in
      same_records (after_join s m t n u) l s m _ _ j.2.checks j.2.first_counted
      (λ q. Iff.trans (j.2.records q) (⊎_elim (λ f. f) (λ f. absurd (nothing_fetched t n e q f)), inl))

  pub empty_join : joined t n s m u ≡ accepted l → SameRecords (after_join t n s m u) l s m
  empty_join h =
      let j = join_accepted t n s m u l b a h in
      same_records (after_join t n s m u) l s m _ _ j.2.checks j.2.second_counted
      (λ q. Iff.trans (j.2.records q) (⊎_elim (λ f. absurd (nothing_fetched t n e q f)) (λ f. f), inr))

-- and 18 is not given for it
pub empty_agrees : (s : List ℕ) (m : ℕ) (t : List ℕ) (n : ℕ) → checked t n ≡ accepted 0 → ¬ (TwoRecords s m t n)
empty_agrees s m t n e g = nothing_fetched t n e g.other g.in_second

-- ---- in either order

-- the records are the same, whichever sheet is the first
pub join_either_order : (s : List ℕ) (m : ℕ) (t : List ℕ) (n : ℕ) (u w : List ℕ) (k l : ℕ) → AreBytes s → AreBytes t
    → joined s m t n u ≡ accepted k → joined t n s m w ≡ accepted l → SameRecords (after_join s m t n u) k (after_join t n s m w) l
join_either_order s m t n u w k l a b g h =
    let i = join_accepted s m t n u k a b g in
    let j = join_accepted t n s m w l b a h in
    same_records (after_join s m t n u) k (after_join t n s m w) l _ _ i.2.checks j.2.checks
    (λ q. Iff.trans (i.2.records q) (Iff.trans (⊎_swap, ⊎_swap) (Iff.symm (j.2.records q))))

-- and where one plot number stands for two differing records in one order, it does in the other
pub two_records_either_order : (s : List ℕ) (m : ℕ) (t : List ℕ) (n : ℕ) → TwoRecords s m t n → TwoRecords t n s m
two_records_either_order s m t n g = record {
  one = g.other;
  other = g.one;
  in_first = g.in_second;
  in_second = g.in_first;
  same_number = sym g.same_number;
  differing = λ e. g.differing (sym e);
}

-- ---- three in either grouping

-- a buffer of bytes is one after a join
pub join_bytes : (s : List ℕ) (m : ℕ) (t : List ℕ) (n : ℕ) (u : List ℕ) (l : ℕ) → AreBytes s → AreBytes u → joined s m t n u ≡ accepted l → AreBytes (after_join s m t n u)
join_bytes s m t n u l a b h =
    let k = join_taken s m t n u l h in
    rw k.left_is (laid_bytes record_length u (union (stated_sheet s m) (stated_sheet t n)) b (take_bytes (stated_heading s m) s a))

apart : {A B C : Type 0} → ((A ⊎ B) ⊎ C) ↔ (A ⊎ (B ⊎ C))
apart {A} {B} {C} = (to, from)
  where
    to : (A ⊎ B) ⊎ C → A ⊎ (B ⊎ C)
    to (inl (inl a)) = inl a
    to (inl (inr b)) = inr (inl b)
    to (inr c) = inr (inr c)

    from : A ⊎ (B ⊎ C) → (A ⊎ B) ⊎ C
    from (inl a) = inl (inl a)
    from (inr (inl b)) = inl (inr b)
    from (inr (inr c)) = inr c

-- the records are the same, whether the first two sheets are joined first, in u, or the last two, in w
pub join_three : (s : List ℕ) (m : ℕ) (t : List ℕ) (n : ℕ) (r : List ℕ) (p : ℕ) (u v w x : List ℕ) (k l i j : ℕ)
    → AreBytes s → AreBytes t → AreBytes r → AreBytes u → AreBytes w
    → joined s m t n u ≡ accepted k → joined (after_join s m t n u) k r p v ≡ accepted l
    → joined t n r p w ≡ accepted i → joined s m (after_join t n r p w) i x ≡ accepted j
    → SameRecords (after_join (after_join s m t n u) k r p v) l (after_join s m (after_join t n r p w) i x) j
join_three s m t n r p u v w x k l i j bs bt br bu bw f g h o =
    let a = join_accepted s m t n u k bs bt f in
    let b = join_accepted (after_join s m t n u) k r p v l (join_bytes s m t n u k bs bu f) br g in
    let c = join_accepted t n r p w i bt br h in
    let d = join_accepted s m (after_join t n r p w) i x j bs (join_bytes t n r p w i bt bw h) o in
    same_records (after_join (after_join s m t n u) k r p v) l (after_join s m (after_join t n r p w) i x) j _ _ b.2.checks d.2.checks
    (λ q. Iff.trans (b.2.records q) (Iff.trans (either (a.2.records q) Iff.rfl) (Iff.trans apart
    (Iff.symm (Iff.trans (d.2.records q) (either Iff.rfl (c.2.records q)))))))

-- ---- a sheet with one of one record

one_fetched : (t : List ℕ) (n : ℕ) (r : Record) → checked t n ≡ accepted 1 → fetched t n 0 ≡ accepted r → (q : Record) → IsFetched t n q ↔ (q ≡ r)
one_fetched t n r e f q = (to, λ d. (0, f ∙ ap accepted (sym d)))
  where
    to : IsFetched t n q → q ≡ r
    to (zero, g) = accepted_same (sym g ∙ f)
    to (suc k, g) = absurd (accepted_not_refused (sym g ∙ fetched_none t n (suc k) 1 e (omega arith)))

module _ (s : List ℕ) (m : ℕ) (t : List ℕ) (n : ℕ) (r : Record) (k : ℕ) (a : AreBytes s) (v : Sized r) (i : inserted s m r ≡ accepted k)
    (e : checked t n ≡ accepted 1) (f : fetched t n 0 ≡ accepted r) where
  -- an insert of a record and a join with a sheet of this record alone leave the same records
  pub insert_is_join : (u : List ℕ) (l : ℕ) → AreBytes t → joined s m t n u ≡ accepted l → SameRecords (after_insert s m r) k (after_join s m t n u) l
  insert_is_join u l b h =
      let g = insert_accepted s m r k a v i in
      let j = join_accepted s m t n u l a b h in
      same_records (after_insert s m r) k (after_join s m t n u) l _ _ g.1.checks j.2.checks
      (λ q. Iff.trans (nothing_lost s m r k a v i q) (Iff.symm (Iff.trans (j.2.records q) (either Iff.rfl (one_fetched t n r e f q)))))

  -- and where the insert is accepted, 18 is not given for the join
  pub insert_agrees : ¬ (TwoRecords s m t n)
  insert_agrees g =
      let p = insert_accepted s m r k a v i in
      let d = (one_fetched t n r e f g.other).0 g.in_second in
      let o = (nothing_lost s m r k a v i g.one).1 (inl g.in_first) in
      let q = (nothing_lost s m r k a v i g.other).1 (inr d) in
      g.differing (one_plot (after_insert s m r) k _ p.1.checks g.one g.other o q g.same_number)
