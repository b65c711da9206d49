-- The kernel that a session searches, given by its fit table and its counts, is that of its sheet as far as a search
-- asks: of one size, with the same singles and witness, and the table says of each two of its grants whether they
-- fit.
use Rattle.std.specs.Prelude.{ℕ, ◌≤◌, ◌<◌, ◌≡◌, refl, List, ltb, length}
use Rattle.std.proofs.Common.{arith, ◌∙◌, lt-ltb}
use Rattle.std.proofs.Math.Bool.{So}
use Rattle.spec.specs.Limits.{search_limit}
use Rattle.spec.specs.Sheet.{Sheet}
use Rattle.spec.specs.Reduction.{kernel}
use Rattle.spec.specs.Cover.{fit_at}
use Rattle.spec.specs.Machine.{Kernel}
use Rattle.spec.specs.Roles.{kernel_of}
use Rattle.table.specs.TableWords.{table_row, table_limit, table_bit}
use Rattle.moves.specs.declared.cursor.Sizes.{Sizes}
use Rattle.moves.specs.FitTable.{fit_in, kernel_given}
use Rattle.search.specs.Laws.SameFit.{SameKernel}
use Rattle.preparing.specs.Prepared.{PreparedFor}
use Rattle.preparing.specs.declared.prepared.Prepared.{Prepared}

-- how many grants the kernel has, how many singles there are, and how many grants are in the witness
abbrev pub sizes_found : Prepared → Sizes
sizes_found p = record { kernel = p.kernel.size; singles = p.reduced.singles; witness = p.witness.count }

-- the kernel that is searched
abbrev pub table_kernel : Prepared → Kernel
table_kernel p = kernel_given p.table (sizes_found p)

-- every number of a kernel that can be searched has its place in the table
within_table : (i size : ℕ) → size ≤ search_limit → i < size → i < table_limit
unfolding search_limit table_row
within_table i size l h = omega arith

-- the words of the table are read alike
read_alike : (table : List ℕ) (i j : ℕ) → fit_in table i j ≡ table_bit table i j
unfolding table_row
read_alike table i j = refl

module _ {sheet : Sheet} {rows : List ℕ} {users : ℕ} {p : Prepared} (found : PreparedFor sheet rows users p) where
  -- the table says of two grants of the kernel whether they fit
  table_fit : p.kernel.size ≤ search_limit → (i j : ℕ) → i < p.kernel.size → j < p.kernel.size
      → fit_in p.table i j ≡ fit_at sheet (kernel sheet) i j
  table_fit l i j h k =
      let size = found.kernel_size in
      let first : So (ltb i (length (kernel sheet))) = lt-ltb i (length (kernel sheet))
      (omega arith) in
      let second : So (ltb j (length (kernel sheet))) = lt-ltb j (length (kernel sheet))
      (omega arith) in
      read_alike p.table i j
      ∙ found.table.entry i j (within_table i p.kernel.size l h) (within_table j p.kernel.size l k)
      ∙ rw (first, second)

  -- no search tells the two kernels apart
  pub same_kernel : p.kernel.size ≤ search_limit → SameKernel (table_kernel p) (kernel_of sheet)
  unfolding kernel_of
  same_kernel l =
      record {
        size = found.kernel_size;
        singles = found.reduced.single_count sheet found.shown;
        witness = found.witness.counted;
        fit = table_fit l;
      }
