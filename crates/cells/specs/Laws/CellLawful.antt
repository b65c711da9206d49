-- What a caller with a sheet that keeps the rules has: its rows show it, of as many users as it has. The sheet's
-- limits are those that the words have room for.
use Rattle.std.specs.Prelude.{ℕ, ◌<◌, List, [], get_or}
use Rattle.std.proofs.Common.{arith}
use Rattle.std.proofs.Math.Bool.{So}
use Rattle.spec.specs.Sheet.{Sheet, user_count, holds}
use Rattle.cells.specs.Laws.Grant.{yes_within, held_user_below}
use Rattle.cell_rows.specs.Rows.{row_bits, RowsOf}
use Rattle.rules.specs.AcceptedFacts.{Lawful}
use Rattle.cell_rows.specs.CellPlaces.{Shown, Shows}
use Rattle.cell_rows.specs.Laws.Width.{permissions_fit}

pub lawful_shown : {rows : List ℕ} {sheet : Sheet} → Lawful sheet → RowsOf rows sheet → Shown rows (user_count sheet)
    sheet
lawful_shown {sheet = sheet} lawful read =
    record { cells = read; few = λ u p held. user u p held; short = λ u p held. permission u p held }
  where
    user : (u p : ℕ) → So (holds sheet u p) → u < user_count sheet
    user u p held = rw lawful.a_row_each at (held_user_below sheet u p held)

    permission : (u p : ℕ) → So (holds sheet u p) → p < row_bits
    permission u p held =
        omega (
          arith,
          yes_within (get_or sheet.rows u []) held,
          lawful.a_cell_each u (user u p held),
          lawful.few_permissions,
          permissions_fit,
        )

pub lawful_shows : {rows : List ℕ} {sheet : Sheet} → Lawful sheet → RowsOf rows sheet → Shows rows (user_count sheet)
lawful_shows {sheet = sheet} lawful read =
    record {
      sheet = sheet;
      shown = lawful_shown lawful read;
      few_users = lawful.few_users;
      few_grants =
          lawful.few_grants;
    }
