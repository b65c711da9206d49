-- `preparing::prepared::prepare`: the rows show a sheet within the limits, so each call gets what it asks for of that
-- sheet; each part is then what its own call says of every sheet that the rows show.
use Rattle.std.proofs.Common.{◌≡◌, length, rules}
use Rattle.spec.specs.Limits.{grant_limit}
use Rattle.preparing.specs.Laws.Preparing.{kernel_roomy, kernel_cells, kernel_listed, kernel_counted}
use Rattle.preparing.specs.Laws.Preparing.{kernel_placed, reduced_to, reduced_rows}
use Rattle.preparing.proofs.prepared.prepare.Goals as goal

pub listed-kernel-requires : goal.listed-kernel-requires
listed-kernel-requires c =
    let given = c.requires in
    (given.few_users, kernel_roomy c.reduce-reduced.ensures given.shown given.few_grants)

pub witness_of-witness-requires : goal.witness_of-witness-requires
witness_of-witness-requires c =
    (c.columns_of-columns.ensures, reduced_rows c.requires c.reduce-reduced.ensures c.single_cells-singles.ensures)

pub first_best-first-requires : goal.first_best-first-requires
first_best-first-requires c =
    let given = c.requires in
    kernel_listed c.reduce-reduced.ensures given.shown given.few_grants c.listed-kernel.ensures

pub fit_table-table-requires : goal.fit_table-table-requires
fit_table-table-requires c =
    let given = c.requires in
    kernel_listed c.reduce-reduced.ensures given.shown given.few_grants c.listed-kernel.ensures

pub returns : goal.returns
unfolding grant_limit
returns c = λ sheet here few.
    let users = c.args.users in
    let from = c.reduce-reduced.ensures in
    let listed = c.listed-kernel.ensures in
    let cells = kernel_cells from here few listed in
    let room : length c.listed-kernel.result.cells ≡ grant_limit = search rules in
    record {
      shown = here;
      reduced = from;
      listed = listed;
      room = room;
      kernel_size = kernel_counted from here few listed room;
      witness = c.witness_of-witness.ensures sheet here
          (reduced_to from here few c.single_cells-singles.ensures);
      first = kernel_placed from here few listed room (c.first_best-first.ensures.by_index users sheet here cells);
      first_room = search rules;
      first_past = c.first_best-first.ensures.blank_from;
      table = c.fit_table-table.ensures users sheet here cells;
    }
