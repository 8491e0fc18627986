-- Plots in slices, and the calls on sheets. Assumes nothing.
use Rattle.std.specs.Prelude.{ℕ, cond, List, ℤ}
use Rattle.octagon.specs.Outcome.{Outcome}
use Rattle.sheet.specs.declared.Record.{Record}
use Rattle.sheet.specs.Checking.{fetched, read}
use Rattle.sheet.specs.Writing.{inserted, after_insert}
use Rattle.koxirmeta_c.specs.Calls.{fitted}
use Rattle.outline.specs.Walk.{sides_of}
use Rattle.koxirmeta_c.specs.Outlines.{holds_outline, outline_in, start}

-- the plot of a number, a start, eight sides and a fee row, and these of a plot
unfoldable pub plot : ℕ → List ℤ → List ℕ → ℕ → Record
plot number from sides fee = record { number = number; outline = outline_in from sides; fee_row = fee }

abbrev pub plot_of : Record → ℕ × List ℤ × List ℕ × ℕ
plot_of r = let o = r.outline in (r.number, start o.i o.j, sides_of o, r.fee_row)

-- the calls, and what an insert leaves of the sheet
abbrev pub fetching : List ℕ → ℕ → ℕ → List ℤ → List ℕ → Outcome Record
fetching s len k from sides = fitted (holds_outline from sides) (fetched s len k)

abbrev pub reading : List ℕ → ℕ → ℕ → List ℤ → List ℕ → Outcome Record
reading s len k from sides = fitted (holds_outline from sides) (read s len k)

abbrev pub inserting : List ℕ → ℕ → ℕ → List ℤ → List ℕ → ℕ → Outcome ℕ
inserting s len number from sides fee = fitted (holds_outline from sides) (inserted s len (plot number from sides fee))

abbrev pub after_inserting : List ℕ → ℕ → ℕ → List ℤ → List ℕ → ℕ → List ℕ
after_inserting s len number from sides fee = cond (holds_outline from sides) (after_insert s len (plot number from sides fee)) s
