-- Bounds that are made of two octagons' bounds as a function reads them back from memory. Assumes nothing.
use mathlib.Core.Path.{◌≡◌, ◌∙◌, ap₂}
use mir.Syntax.{Width}
use Rattle.octagon.specs.Octagon.{Octagon}
use Rattle.octagon.specs.Widths.{Held}
use Rattle.octagon.proofs.Fields.{back, back_is}

module _ (w : Width) (op : Octagon → Octagon → Octagon) (a b : Octagon) (h : Held w a) (k : Held w b) (l : Held w (op a b)) where
  -- they are those of the bounds as they were passed
  same : op (back w a) (back w b) ≡ op a b
  same = ap₂ op (back_is w a h) (back_is w b k)

  -- so they fit, and are kept
  pub made_held : Held w (op (back w a) (back w b))
  made_held = rw same l

  pub made_is : back w (op (back w a) (back w b)) ≡ op a b
  made_is = back_is w (op (back w a) (back w b)) made_held ∙ same
