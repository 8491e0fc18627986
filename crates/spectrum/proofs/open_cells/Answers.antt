-- `open_cells` meets its contract: no cell where nothing is left, else the cells of what is opened. Assumes nothing.
use mathlib.Core.Path.{◌≡◌, refl, sym, ◌∙◌}
use Prim.Native.Nat.{ℕ}
use Rattle.std.specs.Prelude.{Result, Ok, Err}
use Rattle.std.specs.Result.{MatchResult}
use Rattle.octagon.specs.Octagon.{Octagon}
use Rattle.octagon.specs.declared.form.NormalForm.{NormalForm}
use Rattle.octagon.specs.declared.refusal.Refusal.{Refusal}
use Rattle.octagon.specs.Outcome.{accepted, refused}
use Rattle.octagon.specs.Forms.{form_outcome}
use Rattle.octagon.proofs.Outcomes.{map_accepted, map_refused}
use Rattle.cell_count.specs.Area.{area}
use Rattle.cell_count.proofs.Counted.{own_count}
use Rattle.morphology.specs.Marks.{unmarked}
use Rattle.morphology.specs.Premises.{opened_n}
use Rattle.morphology.proofs.Handed.{own_form}
use Rattle.morphology.proofs.Openings.{opened_n_accepted}
use Rattle.spectrum.specs.Spectra.{open_cells}
use Rattle.spectrum.proofs.open_cells.Goals as goal

-- what is opened, without its mark
module _ (a b : Octagon) (n : ℕ) where
  none_counted : {k : ℕ} → unmarked (opened_n a b n) ≡ refused k → 0 ≡ open_cells a b n
  unfolding open_cells
  none_counted {k} q = rw ((map_refused (opened_n a b n) (λ m. m.octagon) k).0 q) refl

  counted : {o : Octagon} → unmarked (opened_n a b n) ≡ accepted o → area o ≡ open_cells a b n
  unfolding open_cells
  counted {o} q =
      let m = map_accepted (opened_n a b n) (λ m. m.octagon) o q in
      rw (m.1, m.2, own_count o (rw (← m.2) (own_form (opened_n_accepted a b n m.0 m.1).covers))) refl

  counted_or_none : (r : Result NormalForm Refusal) (k : ℕ) → form_outcome r ≡ unmarked (opened_n a b n) →
      MatchResult r (λ x. k ≡ area x.bounds) (λ _. k ≡ 0) → k ≡ open_cells a b n
  counted_or_none (Ok x) k q m = m ∙ counted (sym q)
  counted_or_none (Err e) k q m = m ∙ none_counted (sym q)

pub returns : goal.returns
returns c = counted_or_none c.args.a.bounds c.args.b.bounds c.args.n c.open_forms_n.result c.map_or.result c.open_forms_n.ensures c.map_or.ensures
