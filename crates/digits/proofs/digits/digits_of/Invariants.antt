-- `digits::digits_of`: what the digits from the index on say, after those before it, is what all of them say.
use Rattle.std.proofs.Common.{◌≡◌, ◌≤◌, drop}
use Rattle.digits.specs.Capped.{digits_read}
use Rattle.digits.proofs.digits.digits_of.Given as goal

abbrev pub invariant-loop-b : goal.invariant-loop-b
invariant-loop-b l = (l.n ≤ l.cap) × (digits_read l.cap l.n (drop l.b-index l.field) ≡ digits_read l.cap 0 l.field)
