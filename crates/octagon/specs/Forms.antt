-- What an answer of a normal form says in the documents' words: its bounds, or the number of its refusal. Assumes nothing.
use Rattle.std.specs.Prelude.{Result, Ok, Err}
use Rattle.octagon.specs.Octagon.{Octagon}
use Rattle.octagon.specs.declared.form.NormalForm.{NormalForm}
use Rattle.octagon.specs.declared.refusal.Refusal.{Refusal}
use Rattle.octagon.specs.Outcome.{Outcome, accepted, refused}
use Rattle.octagon.specs.Answers.{refusal_number}

abbrev pub form_outcome : Result NormalForm Refusal → Outcome Octagon
form_outcome (Ok f) = accepted f.bounds
form_outcome (Err e) = refused (refusal_number e)
