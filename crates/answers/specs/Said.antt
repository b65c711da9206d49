-- The answers of the code as the calls have them. Assumes nothing.
use Rattle.std.specs.Prelude.{Option, Some, None}
use Rattle.std.proofs.Math.Option.{none, some}
use Rattle.std.proofs.Math.Option as math
use Rattle.spec.specs.Roles.{Standing}
use Rattle.spec.specs.Calls.{LoadAnswer, ReduceAnswer, SearchAnswer, WriteAnswer}
use Rattle.standing.specs.StandingCases.{standing_case}
use Rattle.standing.specs.declared.standing.Standing.{Standing as StandingValue}
use Rattle.answers.specs.declared.answer.LoadAnswer.{LoadAnswer as LoadValue}
use Rattle.answers.specs.declared.answer.ReduceAnswer.{ReduceAnswer as ReduceValue}
use Rattle.answers.specs.declared.answer.SearchAnswer.{SearchAnswer as SearchValue}
use Rattle.answers.specs.declared.answer.WriteAnswer.{WriteAnswer as WriteValue}

abbrev pub load_said : LoadValue → LoadAnswer
load_said a = record { number = a.number; users = a.users; permissions = a.permissions; grants = a.grants }

abbrev pub reduce_said : ReduceValue → ReduceAnswer
reduce_said a = record { number = a.number; kernel = a.kernel; witness = a.witness }

-- the state that is named
abbrev pub state_said : Option StandingValue → math.Option Standing
state_said None = none
state_said (Some s) = some (standing_case s)

abbrev pub search_said : SearchValue → SearchAnswer
search_said a =
    record {
      number = a.number;
      steps = a.steps;
      placed = a.placed;
      taken_back = a.taken_back;
      closed = a.closed;
      roles = a.roles;
      bound = a.bound;
      standing = state_said a.state;
    }

abbrev pub write_said : WriteValue → WriteAnswer
write_said a = record { number = a.number; count = a.count }
