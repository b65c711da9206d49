-- `reading::read_blocks`: where one of the blocks is missing, nothing that can be said is written as this book.
use Rattle.std.proofs.Common.{arith}
use Rattle.spec.specs.Limits.{user_limit, role_limit}
use Rattle.spec.specs.Sheet.{sheet_of}
use Rattle.cell_rows.specs.Rows.{row_words}
use Rattle.checker.specs.BlocksRead.{no_counts_written, no_roles_written, no_users_written, no_witness_written}
use Rattle.checker.specs.Laws.CheckSteps.{users_within}
use Rattle.checker.proofs.reading.read_blocks.Goals as goal

pub returns-in_err-first : goal.returns-in_err-first
returns-in_err-first c =
    rw c.from_residual.ensures (no_counts_written (sheet_of c.args.sheet.now) c.in_err-first.ensures)

pub returns-in_err-second : goal.returns-in_err-second
returns-in_err-second c =
    rw c.from_residual-in_err-second.ensures
    (no_roles_written (sheet_of c.args.sheet.now) c.in_ok-first.ensures c.in_err-second.ensures.0)

pub returns-in_err-fourth_at : goal.returns-in_err-fourth_at
returns-in_err-fourth_at c =
    rw c.from_residual-in_err-fourth_at.ensures
    (no_users_written (sheet_of c.args.sheet.now)
    (record { second = c.in_ok-first.first.next; counts_at = c.in_ok-first.ensures; roles_at = c.in_ok-second.ensures })
    c.in_err-fourth_at.ensures.0)

pub returns-in_err-witness : goal.returns-in_err-witness
returns-in_err-witness c =
    rw c.from_residual-in_err-witness.ensures
    (no_witness_written (sheet_of c.args.sheet.now)
    (record { second = c.in_ok-first.first.next; counts_at = c.in_ok-first.ensures; roles_at = c.in_ok-second.ensures })
    _ c.in_ok-fourth_at.ensures c.in_err-witness.ensures)

pub read_roles-requires-clause-row_words_in_bounds : goal.read_roles-requires-clause-row_words_in_bounds
unfolding role_limit row_words
read_roles-requires-clause-row_words_in_bounds c = (omega (arith, c.told-gives), c.requires.2)

pub read_users-requires-clause-row_words_in_bounds : goal.read_users-requires-clause-row_words_in_bounds
unfolding user_limit row_words
read_users-requires-clause-row_words_in_bounds c = (users_within c.requires.0 _ c.told-has, c.requires.1)
