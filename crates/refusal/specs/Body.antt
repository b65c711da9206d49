-- What the user lines of a sheet say, taken together, one line after the other. Assumes nothing.
use Rattle.std.specs.Prelude.{ℕ, ◌+◌, Bool, true, ◌&&◌, eqb, length}
use mathlib.Core.List.{List, [], ◌∷◌, tail}
use Rattle.spec.specs.Vocabulary.{all}
use Rattle.spec.specs.Text.{Line}
use Rattle.spec.specs.Sheet.{first_field, is_bit}
use Rattle.spec.specs.Refusal.{has_name_length}
use Rattle.refusal.specs.Cells.{ones_in, cells_of}
use Rattle.refusal.specs.declared.fields.Cells.{Cells}
use Rattle.refusal.specs.declared.body.Body.{Body}

-- no line
abbrev pub no_lines : Body
no_lines = record { users = 0; names = true; even = true; bits = true; ones = 0 }

-- some lines and one more, of which it is known whether its name is as long as a name, and what its other fields say
abbrev pub add_read_line : ℕ → Body → Bool → Cells → Body
add_read_line width body named cells =
    record {
      users = body.users + 1;
      names = body.names && named;
      even = body.even && eqb cells.count width;
      bits = body.bits && cells.bits;
      ones = body.ones + cells.ones;
    }

-- some lines and one more
abbrev pub add_line : ℕ → Body → Line → Body
add_line width body line = add_read_line width body (has_name_length (first_field line)) (cells_of (tail line))

-- some lines and others after them
abbrev pub add_lines : ℕ → Body → List Line → Body
add_lines width body [] = body
add_lines width body (line ∷ rest) = add_lines width (add_line width body line) rest

-- how many fields after the names are `1`
abbrev pub ones_after_names : List Line → ℕ
ones_after_names [] = 0
ones_after_names (line ∷ rest) = ones_in (tail line) + ones_after_names rest

-- what some lines say
abbrev pub body_of : ℕ → List Line → Body
body_of width lines =
    record {
      users = length lines;
      names = all (λ line. has_name_length (first_field line)) lines;
      even = all (λ line. eqb (length (tail line)) width) lines;
      bits = all (λ line. all is_bit (tail line)) lines;
      ones = ones_after_names lines;
    }
