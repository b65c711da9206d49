-- The parts of a session whose sheet is not reduced: no removals, no kernel, and 0 in every place. Assumes nothing.
use Rattle.std.specs.Prelude.{◌*◌, replicate}
use Rattle.spec.specs.Limits.{grant_limit}
use Rattle.cell_rows.specs.CellPlaces.{cell_words}
use Rattle.table.specs.TableWords.{table_row, table_limit}
use Rattle.preparing.specs.declared.prepared.Prepared.{Prepared}

-- nothing found of any sheet
abbrev pub nothing_prepared : Prepared
nothing_prepared =
    record {
      reduced = record {
        left = replicate cell_words 0;
        removed = replicate grant_limit 0;
        partner = replicate grant_limit 0;
        count = 0;
        singles = 0;
      };
      kernel = record { cells = replicate grant_limit 0; size = 0 };
      witness = record { cells = replicate cell_words 0; count = 0 };
      first = record { classes = replicate grant_limit 0; used = 0 };
      table = replicate (table_limit * table_row) 0;
    }
