-- The records of a sheet in order: one record, one more, and what an accepted survey says of them all. Assumes nothing.
use mathlib.Core.Path.{◌≡◌, refl, sym, ◌∙◌}
use mathlib.Core.Bool.{true, false}
use native.Mathlib.Omega.{arith}
use mathlib.Core.List.{List, [], ◌∷◌}
use Prim.Native.Nat.{ℕ, ◌+◌, ◌-◌, ◌≤◌, ◌<◌}
use lib.Dec.{ltb, eqb}
use borrow.Author.Tests.{lt-ltb, le-ltb, ltb-true}
use Rattle.integers.proofs.Tests.{cases}
use Rattle.octagon.specs.Octagon.{Octagon}
use Rattle.octagon.specs.Outcome.{Outcome, accepted, refused, then, off_map}
use Rattle.octagon.specs.Cells.{limit}
use Rattle.octagon.specs.NormalForm.{is_within}
use Rattle.octagon.proofs.Outcomes.{accepted_same, accepted_not_refused, then_accepted, map_accepted}
use Rattle.outline.specs.declared.Outline.{Outline}
use Rattle.outline.specs.Tracing.{traced, traced_in}
use Rattle.outline.proofs.Tracings.{in_means, in_limit}
use Rattle.records.specs.Parts.{part}
use Rattle.sheet.specs.declared.Record.{Record}
use Rattle.sheet.specs.Answers.{bad_number}
use Rattle.sheet.specs.Layout.{county_length, record_length, layout_of, map_limit, decoded}
use Rattle.sheet.specs.Order.{Ascending, last, next}
use Rattle.sheet.specs.Sheets.{plots_from}
use Rattle.sheet.specs.Checking.{judged, surveyed, all_judged}
use Rattle.sheet.specs.Cases.{HasOctagon, HasOctagonIn}
use Rattle.sheet.proofs.Plots.{plots_more, plots_none}

-- ---- one record

module _ (m before : ℕ) (r : Record) (n : ℕ) (e : n ≡ r.number) where
  pub judged_number : n ≤ before → judged m before r ≡ refused bad_number
  unfolding judged
  judged_number h = rw (← e, le-ltb before n h)

  module _ (h : before < n) {o : Outline} (f : o ≡ r.outline) where
    pub judged_outline : {k : ℕ} → traced o ≡ refused k → judged m before r ≡ refused k
    unfolding judged traced_in
    judged_outline t = rw (← e, lt-ltb before n h, ← f, t)

    pub judged_off : {a : Octagon} → traced o ≡ accepted a → is_within m a ≡ false → judged m before r ≡ refused off_map
    unfolding judged traced_in
    judged_off t g = rw (← e, lt-ltb before n h, ← f, t, g)

    pub judged_good : {a : Octagon} → traced o ≡ accepted a → is_within m a ≡ true → judged m before r ≡ accepted n
    unfolding judged traced_in
    judged_good t g = rw (← e, lt-ltb before n h, ← f, t, g)

-- ---- one more

module _ {A : Type 0} (m : ℕ) (a : A) (before L : ℕ) (s : List ℕ) (p n : ℕ) where
  pub survey_refused : (k : ℕ) → 0 < n → judged m before (decoded (layout_of L) (part s p L)) ≡ refused k
      → surveyed m a before (plots_from L s p n) ≡ refused k
  unfolding surveyed
  survey_refused k h e = rw (plots_more L s p n h, e)

  pub survey_more : (v : ℕ) → 0 < n → judged m before (decoded (layout_of L) (part s p L)) ≡ accepted v
      → surveyed m a before (plots_from L s p n) ≡ surveyed m a v (plots_from L s (p + L) (n - 1))
  unfolding surveyed
  survey_more v h e = rw (plots_more L s p n h, e)

  pub survey_end : n ≤ 0 → surveyed m a before (plots_from L s p n) ≡ accepted a
  unfolding surveyed
  survey_end h = rw (plots_none L s p n h)

-- ---- all of them

pub judged_when : (m before : ℕ) (r : Record) → before < r.number → HasOctagonIn m r → judged m before r ≡ accepted r.number
unfolding judged
judged_when m before r h t = rw (lt-ltb before r.number h, t.1)

judged_passed : (m before v : ℕ) (r : Record) → judged m before r ≡ accepted v → (before < r.number) × HasOctagonIn m r × (v ≡ r.number)
unfolding judged
judged_passed m before v r e =
    cases (ltb before r.number)
    (λ h. let p = map_accepted (traced_in m r.outline) (λ _. r.number) v (rw h at e) in (ltb-true before r.number h, (p.0, p.1), sym p.2))
    (λ h. absurd (accepted_not_refused (sym (rw h at e))))

-- a survey is accepted exactly where the numbers rise from above and each outline is accepted
pub surveyed_when : {A : Type 0} (m : ℕ) (a : A) {before : ℕ} {rs : List Record} → Ascending (HasOctagonIn m) before rs → surveyed m a before rs ≡ accepted a
unfolding surveyed
surveyed_when m a last = refl
surveyed_when m a (next {v = v} {r = r} {rs = rs} h t g) = rw (judged_when m v r h t) (surveyed_when m a g)

pub surveyed_passed : {A : Type 0} (m : ℕ) (a b : A) (before : ℕ) (rs : List Record) → surveyed m a before rs ≡ accepted b
    → Ascending (HasOctagonIn m) before rs × (b ≡ a)
unfolding surveyed
surveyed_passed m a b before [] e = (last, sym (accepted_same e))
surveyed_passed m a b before (r ∷ rs) e =
    let t = then_accepted (judged m before r) (λ v. surveyed m a v rs) b e in
    let j = judged_passed m before t.between r t.first in
    let g = surveyed_passed m a b t.between rs t.second in
    (next {r = r} j.0 j.1 (rw j.2 at g.0), g.1)

-- what is answered after them leaves the refusals as they are
then_step : {A B C : Type 0} (o : Outcome A) (f : A → Outcome B) (g : A → Outcome C) (h : C → Outcome B)
    → ((v : A) → f v ≡ then (g v) h) → then o f ≡ then (then o g) h
then_step (accepted v) f g h e = e v
then_step (refused k) f g h e = refl

pub survey_then : {A : Type 0} (m : ℕ) (a : A) (before : ℕ) (rs : List Record) → surveyed m a before rs ≡ then (surveyed m (tt {0}) before rs) (λ _. accepted a)
unfolding surveyed
survey_then m a before [] = refl
survey_then m a before (r ∷ rs) =
    then_step (judged m before r) (λ v. surveyed m a v rs) (λ v. surveyed m (tt {0}) v rs) (λ _. accepted a) (λ v. survey_then m a v rs)

pub all_refused : {A : Type 0} (m : ℕ) (a : A) (rs : List Record) {k : ℕ} → all_judged m rs ≡ refused k → surveyed m a 0 rs ≡ refused k
all_refused m a rs e = survey_then m a 0 rs ∙ rw e

pub all_passed : {A : Type 0} (m : ℕ) (a : A) (rs : List Record) → all_judged m rs ≡ accepted tt → surveyed m a 0 rs ≡ accepted a
all_passed m a rs e = survey_then m a 0 rs ∙ rw e

-- ---- the map of each record length

-- no map is larger than the present one
pub limit_most : (L : ℕ) → map_limit L ≤ limit
unfolding map_limit
limit_most L = cases (eqb L county_length) (λ h. rw h (omega arith)) (λ h. rw h (omega arith))

-- an octagon on a smaller map is one on the map
pub has_octagon : (L : ℕ) (r : Record) → HasOctagonIn (map_limit L) r → HasOctagon r
has_octagon L r t = (t.0, (in_means (map_limit L) (limit_most L) r.outline t.0 t.1).0)

pub have_octagons : (L : ℕ) {v : ℕ} {rs : List Record} → Ascending (HasOctagonIn (map_limit L)) v rs → Ascending HasOctagon v rs
have_octagons L last = last
have_octagons L (next {r = r} h t g) = next h (has_octagon L r t) (have_octagons L g)

-- and the other way round for the records that are written
pub written_octagons : {v : ℕ} {rs : List Record} → Ascending HasOctagon v rs → Ascending (HasOctagonIn (map_limit record_length)) v rs
unfolding map_limit
written_octagons last = last
written_octagons (next {r = r} h t g) = next h (t.0, in_limit r.outline ∙ t.1) (written_octagons g)
