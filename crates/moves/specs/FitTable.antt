-- What a fit table stands for: which grants fit, and with the sizes a kernel.
use Rattle.std.specs.Prelude.{ℕ, ◌+◌, ◌*◌, ◌/◌, ◌%◌, Bool, List, get_or}
use Rattle.spec.specs.Machine.{Kernel}
use Rattle.bits.specs.Bit.{bit, word_bits}
use Rattle.marks.specs.Marks.{kernel_words}
use Rattle.moves.specs.declared.cursor.Sizes.{Sizes}

-- bit j of grant i's words in the fit table: grants i and j fit
abbrev pub fit_in : List ℕ → ℕ → ℕ → Bool
fit_in table i j = bit (get_or table (i * kernel_words + j / word_bits) 0) (j % word_bits)

-- the kernel that a fit table and its sizes give
abbrev pub kernel_given : List ℕ → Sizes → Kernel
kernel_given table sizes =
    record {
      size = sizes.kernel;
      fit = fit_in table;
      singles = sizes.singles;
      witness = sizes.witness;
    }
