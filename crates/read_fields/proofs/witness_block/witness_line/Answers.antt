-- `witness_block::witness_line`: the user is what stands before the first comma, and the permission what stands from
-- there up to the line feed. The names at the two parts' places are those of the sheet's users and permissions.
use Rattle.spec.specs.Sheet.{sheet_of}
use Rattle.rules.specs.AcceptedFacts.{accepted_lawful}
use Rattle.names.specs.Laws.NamesThere.{users_there, permissions_there}
use Rattle.read_fields.specs.WitnessLineSteps.{no_user, no_permission, witness_at}
use Rattle.read_fields.proofs.witness_block.witness_line.Goals as goal

pub name_field-requires : goal.name_field-requires
name_field-requires c =
    let users = users_there c.requires.1 in (c.requires.0, users.inside, users.apart)

pub returns-in_err-user : goal.returns-in_err-user
returns-in_err-user c =
    let sheet = c.args.sheet.now in
    rw c.from_residual.ensures
    (no_user (sheet_of sheet) (accepted_lawful sheet c.requires.1.accepts)
    (rw (users_there c.requires.1).same at c.in_err-user.ensures))

pub name_field-requires-2 : goal.name_field-requires-2
name_field-requires-2 c =
    let permissions = permissions_there c.requires.2 in
    (c.in_ok-user.ensures.reads.within, permissions.inside, permissions.apart)

pub returns-in_err-permission : goal.returns-in_err-permission
returns-in_err-permission c =
    let sheet = c.args.sheet.now in
    rw c.from_residual-in_err-permission.ensures
    (no_permission (sheet_of sheet) (accepted_lawful sheet c.requires.1.accepts)
    (rw (users_there c.requires.1).same at c.in_ok-user.ensures)
    (rw (permissions_there c.requires.2).same at c.in_err-permission.ensures))

pub returns : goal.returns
returns c =
    let sheet = c.args.sheet.now in
    witness_at (sheet_of sheet) (accepted_lawful sheet c.requires.1.accepts)
    (rw (users_there c.requires.1).same at c.in_ok-user.ensures)
    (rw (permissions_there c.requires.2).same at c.in_ok-permission.ensures)
