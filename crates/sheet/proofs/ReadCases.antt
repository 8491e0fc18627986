-- Read record k of a sheet that was checked: each answer is given exactly where its case of specs/Cases.antt holds (`read_exactly`), and
-- of a sheet that checks it is what `fetch` answers (`read_checked`). Assumes nothing.
use mathlib.Core.Path.{◌≡◌, refl, sym, ◌∙◌}
use mathlib.Core.Logic.{◌↔◌}
use mathlib.Core.List.{List}
use Prim.Native.Nat.{ℕ}
use lib.Dec.{ltb}
use borrow.Author.Tests.{ltb-true, ltb-false}
use Rattle.integers.proofs.Tests.{cases}
use Rattle.octagon.specs.Outcome.{Outcome, accepted, refused}
use Rattle.sheet.specs.declared.Record.{Record}
use Rattle.sheet.specs.declared.trailer.Trailer.{Trailer}
use Rattle.sheet.specs.Order.{nth}
use Rattle.sheet.specs.Sheets.{sheet_of}
use Rattle.sheet.specs.Checking.{framed, checked, fetched, read}
use Rattle.sheet.specs.Cases.{GoodFrame, stated_plots, ReadCase, not_framed, past_last, there}
use Rattle.sheet.proofs.RecordFields.{row_none, row_read, row_only}
use Rattle.sheet.proofs.Frames.{framed_when, framed_refused, FrameCase, is_good, is_faulty, frame_case}
use Rattle.sheet.proofs.Checks.{checked_plotted}
use Rattle.sheet.proofs.FetchCases.{fetched_known}

module _ (s : List ℕ) (len k : ℕ) where
  -- the frame decides, and then the records that it states
  pub read_refused : {e : ℕ} → framed s len ≡ refused e → read s len k ≡ refused e
  unfolding read
  read_refused q = rw q

  pub read_framed : {z : Trailer} → framed s len ≡ accepted z → read s len k ≡ nth (sheet_of s len z).plots k
  unfolding read
  read_framed q = rw q

  read_good : {c : ℕ} → GoodFrame s len c → read s len k ≡ nth (stated_plots s len) k
  read_good {c} f = read_framed (framed_when s len c f)

  read_case : ReadCase s len k (read s len k)
  read_case = go (frame_case s len) refl
    where
      go : {t : Outcome Trailer} → FrameCase s len t → framed s len ≡ t → ReadCase s len k (read s len k)
      go (is_faulty h) q = rw (read_refused q) (not_framed h)
      go (is_good f) q =
          cases (ltb k _)
          (λ b. let h = ltb-true k _ b in let r = row_read s len _ k f h in rw (read_good f ∙ r.1) (there f h r.2))
          (λ b. let h = ltb-false k _ b in rw (read_good f ∙ row_none s len _ k f h) (past_last f h))

  pub read_exactly : (o : Outcome Record) → (read s len k ≡ o) ↔ ReadCase s len k o
  read_exactly o = (λ e. rw e at read_case, given)
    where
      given : {o : Outcome Record} → ReadCase s len k o → read s len k ≡ o
      given (not_framed h) = read_refused (framed_refused s len h)
      given (past_last {c = c} f h) = read_good f ∙ row_none s len c k f h
      given (there {c = c} {r = r} f h g) = read_good f ∙ row_only s len c k f h r g

  -- of a sheet that checks, `read` answers what `fetch` does
  pub read_checked : (c : ℕ) → checked s len ≡ accepted c → read s len k ≡ fetched s len k
  read_checked c e = read_good (checked_plotted s len c e).frame ∙ sym (fetched_known s len k c e)
