-- `to_octagon` meets its contract: the bounds of an outline that closes fit where they are on the map. Assumes nothing.
use mathlib.Core.Path.{◌≡◌}
use mathlib.Core.Bool.{true}
use borrow.Author.Rules.{rules}
use Rattle.outline.specs.Closing.{closes}
use Rattle.outline.proofs.Drawn.{closed_held}
use Rattle.outline.proofs.to_octagon.Goals as goal

pub draw-requires : goal.draw-requires
draw-requires c = let h : closes c.args.o ≡ true = search rules in closed_held c.args.o h
