-- The states that the code names, as the definitions name them. Assumes nothing.
use Rattle.spec.specs.Roles.{Standing, witnessed, searched, unsettled}
use Rattle.standing.specs.declared.standing.Standing.{Standing as StandingValue}
use Rattle.standing.specs.declared.standing.Standing.TheVariants.{Witnessed, Searched, Open}

-- the state of each case: a book spells them `witnessed`, `searched` and `open`
abbrev pub standing_case : StandingValue → Standing
standing_case Witnessed = witnessed
standing_case Searched = searched
standing_case Open = unsettled
