-- `main`: the session came from the calls, and the line keeps its room.
use Rattle.std.proofs.Common.{◌≡◌, length}
use Rattle.session.specs.CodeSession.{Sound}
use Rattle.play.proofs.main.Given as goal

abbrev pub invariant-loop : goal.invariant-loop
invariant-loop l = Sound l.session × (length l.line ≡ length l.initial.line)
