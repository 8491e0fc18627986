-- Words written on a page one after the other, and what is still to be written. Assumes nothing.
use mathlib.Core.Path.{◌≡◌, refl, ◌∙◌}
use mathlib.Core.List.{List, [], ◌++◌}
use Prim.Native.Nat.{ℕ, ◌≤◌}
use native.Mathlib.Omega.{arith}
use lib.ListN.{length, length-append}
use Rattle.report.specs.declared.page.Page.{Page}
use Rattle.report.specs.Pages.{HasRoom, Written}
use Rattle.report.proofs.Writing.{put_length, put_nothing, put_then}

pub written_nothing : (p : Page) → p.at ≤ length p.text.now → Written p [] p
written_nothing p h = record { put = put_nothing p.text.now p.at h; same_text = refl }

pub written_then : {p q r : Page} {v w : List ℕ} → Written p v q → Written q w r → Written p (v ++ w) r
written_then a b = record { put = put_then a.put b.put; same_text = b.same_text ∙ a.same_text }

-- the first of two words fits where both do, and then the second
pub fits_first : (p : Page) (v w : List ℕ) → HasRoom p (v ++ w) → HasRoom p v
fits_first p v w h = omega (arith, length-append v w)

pub fits_then : {p q : Page} {v : List ℕ} (w : List ℕ) → HasRoom p (v ++ w) → Written p v q → HasRoom q w
fits_then {v = v} w h a = omega (arith, length-append v w, put_length a.put, a.put.past)

-- ---- what is left to write

-- the words v are still to be written on the page q, and that makes of p what w does
pub record ToWrite (p : Page) (w : List ℕ) (q : Page) (v : List ℕ) : Type 0 where
  pub fits : HasRoom q v
  pub rest : {r : Page} → Written q v r → Written p w r

-- all of it, in parts
pub to_write_all : (p : Page) (w v : List ℕ) → w ≡ v → HasRoom p w → ToWrite p w p v
to_write_all p w v e h = record { fits = rw e at h; rest = λ a. rw e a }

pub to_write_more : {p q r : Page} {w : List ℕ} (x v : List ℕ) → ToWrite p w q (x ++ v) → Written q x r → ToWrite p w r v
to_write_more x v l a = record { fits = fits_then v l.fits a; rest = λ b. l.rest (written_then a b) }

-- the next word fits
pub to_write_room : {p q : Page} {w : List ℕ} (x v : List ℕ) → ToWrite p w q (x ++ v) → HasRoom q x
to_write_room {q = q} x v l = fits_first q x v l.fits
