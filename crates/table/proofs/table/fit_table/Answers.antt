-- `table::fit_table`: the first cells of the array are the kernel's.
use Rattle.table.proofs.table.fit_table.Goals as goal

pub returns : goal.returns
returns c users sheet shown e = rw e at (c.table_of.ensures users sheet shown)
