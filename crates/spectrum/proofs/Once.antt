-- What `WalkOf` says of a walk fixes all of it: its trims, its entries and its end. Assumes nothing.
use mathlib.Core.Path.{◌≡◌, refl, sym, ◌∙◌, ap}
use Prim.Native.Nat.{ℕ, ◌<◌, ◌≤◌}
use native.Mathlib.Omega.{arith}
use native.Mathlib.Nat.{le_antisymm}
use borrow.Author.Tests.{leb-true, leb-false}
use lib.Dec.{leb}
use lib.Seq.{ext_get_or}
use Rattle.integers.proofs.Tests.{cases}
use Rattle.spectrum.specs.Walks.{Walk, WalkOf}

-- a walk by its parts
walk_is : {v w : Walk} → v.entries ≡ w.entries → v.trims ≡ w.trims → v.is_finished ≡ w.is_finished → v ≡ w
walk_is {v} {w} e t f = rw (e, t, f) refl

module _ {cells : ℕ → ℕ} {places : ℕ} where
  -- no walk ends before another
  no_earlier : (v w : Walk) → WalkOf cells places v → WalkOf cells places w → w.trims ≤ v.trims
  no_earlier v w s t =
      cases (leb w.trims v.trims) (leb-true w.trims v.trims)
      (λ l.
      let h = leb-false w.trims v.trims l in
      cases v.is_finished (λ e. absurd (omega (arith, s.left_nothing e, t.due v.trims h))) (λ e. absurd (omega (arith, (s.left_some e).0, t.within))))

  pub walk_once : (v w : Walk) → WalkOf cells places v → WalkOf cells places w → v ≡ w
  walk_once v w s t = walk_is entries trims ends
    where
      trims : v.trims ≡ w.trims
      trims = le_antisymm (no_earlier w v t s) (no_earlier v w s t)

      entries : v.entries ≡ w.entries
      entries =
          ext_get_or 0 v.entries w.entries (s.one_each ∙ trims ∙ sym t.one_each)
          (λ i l.
          let h : i < v.trims = omega (arith, s.one_each) in
          s.lost i h ∙ sym (t.lost i (omega (arith, trims))))

      ends : v.is_finished ≡ w.is_finished
      ends =
          cases v.is_finished
          (λ e. e ∙ sym (cases w.is_finished (λ g. g) (λ g. absurd (omega (arith, s.left_nothing e, ap cells trims, (t.left_some g).1)))))
          (λ e. e ∙ sym (cases w.is_finished (λ g. absurd (omega (arith, t.left_nothing g, ap cells trims, (s.left_some e).1))) (λ g. g)))
