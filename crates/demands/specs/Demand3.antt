-- Demand 3: one theorem about every sequence of loads, reductions, searches and writings on one session, refused ones
-- included, from a fresh session. Every single book can be believed (`Believed`), a sequence brings out only such books
-- (`Owed`), its searches are together one (`StepsOwed`), and every list of calls is one (`EverySequence`).
use Rattle.spec.specs.Demands.{Demand3}
use Rattle.demands.specs.EverySequence.{every_sequence_happens}
use Rattle.demands.specs.StepsOwed.{searches_together}
use Rattle.demands.specs.Owed.{owed_of_all}

pub demand_3 : Demand3
demand_3 = record { owed = owed_of_all; together = searches_together; happens = every_sequence_happens }
