-- `cover::allowed_to`: of the classes passed, those are in the set whose members ask only what the user holds.
use Rattle.std.proofs.Common.{◌≡◌, length}
use Rattle.cell_rows.specs.Rows.{row_words}
use Rattle.cover.specs.CoverAllowed.{AllowedSoFar}
use Rattle.cover.proofs.cover.allowed_to.Given as goal

abbrev pub invariant-loop-c : goal.invariant-loop-c
invariant-loop-c l = (length l.allowed ≡ row_words) × AllowedSoFar l.rows l.asked l.user.0 l.c l.allowed
