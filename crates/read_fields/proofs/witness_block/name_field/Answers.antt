-- `witness_block::name_field`: the name is what stands before the first byte `end`, and its number the one found.
use Rattle.names.specs.NamesAt.{all_names}
use Rattle.read_fields.specs.Laws.NameFound.{no_name_known, name_at}
use Rattle.read_fields.proofs.witness_block.name_field.Goals as goal

pub returns-in_err-i : goal.returns-in_err-i
returns-in_err-i c =
    rw c.from_residual-in_err-i.ensures
    (no_name_known (all_names c.args.sheet.now c.args.places.now) c.in_ok-to.ensures c.in_err-i.ensures)

pub returns : goal.returns
returns c = name_at (all_names c.args.sheet.now c.args.places.now) c.in_ok-to.ensures c.in_ok-i.ensures
