-- `table::held_by`: both words are of the cells whose permissions the cell's user holds.
use Rattle.std.proofs.Common.{◌%◌, refl, rules}
use Rattle.cell_rows.specs.Rows.{row_bits, cell}
use Rattle.table.specs.TableHeld.{HeldBy, same_user}
use Rattle.table.proofs.table.held_by.Goals as goal

pub returns : goal.returns
returns c =
    let a = c.args in
    let user = c.user_of-user.result.0 in
    let held : HeldBy a.rows.now a.cells.now user _ =
    record {
      owner = refl;
      low = c.passing_word-low.ensures (λ n. cell a.rows.now user (n % row_bits)) (λ n r says. search rules);
      high = c.passing_word-high.ensures (λ n. cell a.rows.now user (n % row_bits)) (λ n r says. search rules);
    } in
    same_user held c.user_of-user.ensures
