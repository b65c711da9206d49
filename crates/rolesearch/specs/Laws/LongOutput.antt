-- What the long search prints, by what its calls answered: the number of a refused sheet, or what is printed of the
-- session that its searches led to. Assumes nothing.
use Rattle.std.specs.Prelude.{ℕ, ◌≡◌, List, ◌≢◌, replicate}
use Rattle.std.proofs.Math.Path.{ap}
use Rattle.std.proofs.Common.{◌∙◌, eq-eqb, ne_eqb}
use Rattle.spec.specs.Limits.{round_budget, book_limit}
use Rattle.spec.specs.Text.{Bytes}
use Rattle.spec.specs.Session.{Session, fresh}
use Rattle.spec.specs.Refusal.{refusal}
use Rattle.spec.specs.Calls.{LoadAnswer, ReduceAnswer, after_load, after_reduce, Loads, Reduces}
use Rattle.spec.specs.Program.{number_line, printed}
use Rattle.spec.specs.LongSearch.{rounds_of, after_rounds, opened, long_search_output}
use Rattle.rolesearch.specs.Rounds.{RoundsMade}

module _ (text : Bytes) (arguments : List Bytes) where
  pub number_printed : (number : ℕ) → number ≡ refusal text → number ≢ 0
      → number_line number ≡ long_search_output text arguments
  unfolding long_search_output
  number_printed number e refuses = rw (ne_eqb (refusal text) 0 (λ z. refuses (e ∙ z))) (ap number_line e)

  -- a load into a fresh session, a reduction, and the searches
  pub session_printed : refusal text ≡ 0
      → {start loaded reduced searched : Session} {load : LoadAnswer} {reduce : ReduceAnswer} {rounds made steps : ℕ}
      → start ≡ fresh → Loads start text load loaded → Reduces loaded reduce reduced → rounds ≡ rounds_of arguments
      → RoundsMade round_budget rounds reduced searched made steps
      → printed searched (replicate book_limit 0) ≡ long_search_output text arguments
  unfolding long_search_output
  session_printed accepts {reduced = first} {searched = last} start loads reduces rounds made =
      let here : first ≡ opened text =
      reduces.leaves
      ∙ ap after_reduce (loads.leaves ∙ ap (λ (s : Session). after_load s text) start) in
      let there : last ≡ after_rounds round_budget (rounds_of arguments) (opened text) =
      made.session
      ∙ ap (λ (n : ℕ). after_rounds round_budget n first) rounds
      ∙ ap (after_rounds round_budget (rounds_of arguments)) here in
      rw (eq-eqb (refusal text) 0 accepts)
      (ap (λ (s : Session). printed s (replicate book_limit 0)) there)
