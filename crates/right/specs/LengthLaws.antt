-- How long a text is: each field of a line counts one byte more than it has, for the comma or the line feed behind
-- it, and one line feed stands between each two blocks.
use Rattle.std.specs.Prelude.{ℕ, suc, ◌+◌, ◌≡◌, List, [], ◌∷◌, map, length}
use Rattle.std.proofs.Common.{arith, ◌∙◌, length-append}
use Rattle.spec.specs.Vocabulary.{joined}
use Rattle.spec.specs.Text.{Bytes, Line, comma, line_feed, line_text, text_of}
use Rattle.spec.specs.Book.{Block, empty_line, text_of_blocks}
use Rattle.lists.specs.Total.{total, total_append, total_map, length_joined, length_concat_total}

-- a field with the byte behind it
abbrev pub field_length : Bytes → ℕ
field_length field = suc (length field)

-- a line with its line feed
pub line_length : Line → ℕ
line_length line = length (line_text line)

-- a block with the line feeds of its lines
abbrev pub block_length : Block → ℕ
block_length block = total line_length block

pub line_length_fields : (field : Bytes) (rest : Line) → line_length (field ∷ rest) ≡ field_length field + total
    field_length rest
unfolding line_length
line_length_fields field rest =
    rw (length-append (joined comma (field ∷ rest)) (line_feed ∷ [])) (omega (arith, length_joined comma field rest))

pub text_length : (lines : List Line) → length (text_of lines) ≡ total line_length lines
unfolding line_length
text_length lines = length_concat_total (map line_text lines) ∙ total_map length line_text lines

-- one more for the line feed of the empty line before each block but the first
joined_length : (block : Block) (blocks : List Block)
    → total line_length (joined empty_line (block ∷ blocks)) ≡ block_length block + total (λ b. suc (block_length b))
    blocks
joined_length block [] = omega arith
joined_length block (next ∷ later) =
    rw (
      total_append line_length block (empty_line ∷ joined empty_line (next ∷ later)),
      line_length_fields [] [],
      joined_length next later,
    )
    (omega arith)

pub blocks_length : (block : Block) (blocks : List Block)
    → length (text_of_blocks (block ∷ blocks)) ≡ block_length block + total (λ b. suc (block_length b)) blocks
unfolding text_of_blocks
blocks_length block blocks = text_length (joined empty_line (block ∷ blocks)) ∙ joined_length block blocks
