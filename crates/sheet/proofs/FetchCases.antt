-- Fetch record k: each answer is given exactly where its case of specs/Cases.antt holds (`fetch_exactly`). Assumes nothing.
use mathlib.Core.Path.{◌≡◌, refl, sym, ap, ◌∙◌}
use mathlib.Core.Logic.{◌↔◌}
use mathlib.Core.List.{List}
use Prim.Native.Nat.{ℕ, ◌≤◌}
use lib.Dec.{ltb}
use borrow.Author.Tests.{ltb-true, ltb-false}
use Rattle.integers.proofs.Tests.{cases}
use Rattle.octagon.specs.Outcome.{Outcome, accepted, refused}
use Rattle.octagon.proofs.Outcomes.{refused_same, accepted_not_refused}
use Rattle.sheet.specs.declared.Record.{Record}
use Rattle.sheet.specs.Answers.{no_record}
use Rattle.sheet.specs.Order.{nth}
use Rattle.sheet.specs.Sheets.{Sheet}
use Rattle.sheet.specs.Checking.{parsed, checked, fetched}
use Rattle.sheet.specs.Cases.{stated_plots, FetchCase, not_checked, past_count, fetches}
use Rattle.sheet.proofs.RecordFields.{row_none, row_read, row_only}
use Rattle.sheet.proofs.Checks.{checked_refused, checked_count, checked_plotted, fetched_refused}
use Rattle.sheet.proofs.CheckCases.{check_exactly}

module _ (s : List ℕ) (len k : ℕ) where
  -- of a sheet that checks, `fetch` answers the record at its place
  pub fetched_known : (c : ℕ) → checked s len ≡ accepted c → fetched s len k ≡ nth (stated_plots s len) k
  fetched_known c e = let p = checked_plotted s len c e in p.fetch k ∙ ap (λ (rs : List Record). nth rs k) p.are

  pub fetched_none : (c : ℕ) → checked s len ≡ accepted c → c ≤ k → fetched s len k ≡ refused no_record
  fetched_none c e h = fetched_known c e ∙ row_none s len c k (checked_plotted s len c e).frame h

  -- and of any other what the check does
  pub not_fetched : (n : ℕ) → checked s len ≡ refused n → fetched s len k ≡ refused n
  not_fetched n e = go (parsed s len) refl
    where
      go : (t : Outcome Sheet) → parsed s len ≡ t → fetched s len k ≡ refused n
      go (refused m) q = fetched_refused s len k q ∙ ap refused (refused_same (sym (checked_refused s len q) ∙ e))
      go (accepted y) q = absurd (accepted_not_refused (sym (checked_count s len q) ∙ e))

  fetch_case : FetchCase s len k (fetched s len k)
  fetch_case = go (checked s len) refl
    where
      go : (t : Outcome ℕ) → checked s len ≡ t → FetchCase s len k (fetched s len k)
      go (refused n) e = rw (not_fetched n e) (not_checked ((check_exactly s len (refused n)).0 e))
      go (accepted c) e =
          let g = (check_exactly s len (accepted c)).0 e in
          cases (ltb k c)
          (λ b. let h = ltb-true k c b in let r = row_read s len c k (checked_plotted s len c e).frame h in rw (fetched_known c e ∙ r.1) (fetches g h r.2))
          (λ b. let h = ltb-false k c b in rw (fetched_none c e h) (past_count g h))

  pub fetch_exactly : (o : Outcome Record) → (fetched s len k ≡ o) ↔ FetchCase s len k o
  fetch_exactly o = (λ e. rw e at fetch_case, given)
    where
      given : {o : Outcome Record} → FetchCase s len k o → fetched s len k ≡ o
      given (not_checked {e = n} g) = not_fetched n ((check_exactly s len (refused n)).1 g)
      given (past_count {c = c} g h) = fetched_none c ((check_exactly s len (accepted c)).1 g) h
      given (fetches {c = c} {r = r} g h f) =
          let e = (check_exactly s len (accepted c)).1 g in fetched_known c e ∙ row_only s len c k (checked_plotted s len c e).frame h r f
