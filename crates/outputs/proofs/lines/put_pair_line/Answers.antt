-- `lines::put_pair_line`: the comma stands where the first number's digits ended, and the second number behind it.
use Rattle.std.proofs.Common.{[], ◌∷◌, ◌++◌, ◌+◌, set}
use Rattle.spec.specs.Text.{comma}
use Rattle.spec.specs.Decimal.{decimal}
use Rattle.spec.specs.Program.{number_line}
use Rattle.text.specs.Written.{WrittenSoFar, front_fits, then_byte, then_written}
use Rattle.outputs.proofs.lines.put_pair_line.Goals as goal

pub returns : goal.returns
returns c =
    let digits = decimal c.args.first in
    let second = number_line c.args.second in
    let behind_first : WrittenSoFar digits (comma ∷ []) c.args.out.now c.put_decimal-at.new.out
    c.put_decimal-at.result =
    record { written = c.put_decimal-at.ensures; fits = front_fits (digits ++ comma ∷ []) second c.requires } in
    let behind_comma : WrittenSoFar (digits ++ comma ∷ []) second c.args.out.now
    (set c.put_decimal-at.new.out c.put_decimal-at.result comma) (c.put_decimal-at.result + 1) =
    record { written = then_byte behind_first; fits = c.requires } in
    then_written behind_comma c.put_number_line.ensures
