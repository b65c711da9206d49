-- The counts where a search stands, from the roles, the witness and whether the search is finished. Assumes nothing.
use Rattle.std.specs.Prelude.{ℕ, ◌≡◌, Bool}
use Rattle.spec.specs.Roles.{standing_of, bound_of}
use Rattle.standing.specs.StandingCases.{standing_case}
use Rattle.book_lines.specs.declared.counts.Counts.{Counts}

-- state and bound beside so many roles and so many witness grants
pub record CountsFrom (n w : ℕ) (finished : Bool) (counts : Counts) : Type 0 where
  pub roles : counts.roles ≡ n
  pub bound : counts.bound ≡ bound_of (standing_case counts.standing) n w
  pub standing : standing_case counts.standing ≡ standing_of n w finished
