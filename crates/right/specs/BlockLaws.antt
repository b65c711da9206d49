-- Reading blocks undoes writing them, and writing undoes reading. Blocks are parted at empty lines as fields are at
-- commas, so both follow from the laws of cutting and of lines, where no line of a block is empty.
use Rattle.std.specs.Prelude.{ℕ, ◌≤◌, ◌≡◌, refl, false, length}
use Rattle.std.proofs.Common.{not-suc-le-zero, arith, ap, ◌∙◌, ⊎_elim}
use Rattle.std.proofs.Math.Bool.{So}
use Rattle.std.proofs.lemmas.Bool.{false≢true}
use mathlib.Core.List.Memᴰ
use mathlib.Core.List.{List, [], ◌∷◌, ◌++◌, Memᴰ}
use Rattle.spec.specs.Vocabulary.{joined, parted_by}
use Rattle.spec.specs.Text.{Bytes, Line, comma, line_feed, lines_of, text_of, last_byte}
use Rattle.spec.specs.Book.{Block, empty_line, text_of_blocks}
use Rattle.spec.specs.Form.{is_empty_line, blocks_of}
use Rattle.lists.specs.CutLaws.{parted_joined, joined_parted, append_ending}
use Rattle.lists.specs.JoinLaws.{joined_element}
use Rattle.text.specs.Laws.Text.{Field, Fields, Lines, read_as_written, written_as_read_to_feed}

-- a line that a block can hold: one that a text can hold, and not the empty line
pub record BlockLine (line : Line) : Type 0 where
  pub fields : Fields line
  pub not_empty : is_empty_line line ≡ false

-- blocks that a text can hold
pub record GoodBlocks (blocks : List Block) : Type 0 where
  pub some_block : 1 ≤ length blocks
  pub each : (block : Block) → Memᴰ block blocks → (line : Line) → Memᴰ line block → BlockLine line

-- only the empty line is an empty line
is_empty_line_only : (line : Line) → So (is_empty_line line) → line ≡ empty_line
is_empty_line_only [] e = absurd (false≢true e)
is_empty_line_only ([] ∷ []) e = refl
is_empty_line_only ((b ∷ field) ∷ []) e = absurd (false≢true e)
is_empty_line_only (field ∷ next ∷ rest) e = absurd (false≢true e)

-- a text can hold the empty field, and so the empty line
pub empty_field : Field []
empty_field =
    record { no_comma = λ b m. absurd (Memᴰ.not-nil m); no_line_feed = λ b m. absurd (Memᴰ.not-nil m) }

empty_line_fields : Fields empty_line
empty_line_fields = record { some_field = omega arith; each = λ field m. rw (Memᴰ.eq_of_singleton m) empty_field }

pub blocks_read_as_written : (blocks : List Block) → GoodBlocks blocks → blocks_of (text_of_blocks blocks) ≡ blocks
unfolding blocks_of text_of_blocks
blocks_read_as_written blocks g =
    ap (parted_by is_empty_line) (read_as_written (joined empty_line blocks) each_line)
    ∙ parted_joined is_empty_line empty_line refl blocks g.some_block (λ block m line n. (g.each block m line
    n).not_empty)
  where
    each_line : Lines (joined empty_line blocks)
    each_line line m =
        ⊎_elim (λ e. rw e empty_line_fields) (λ r. (g.each r.part r.member line r.element).fields)
        (joined_element empty_line blocks m)

pub blocks_written_as_read : (text : Bytes) → last_byte text ≡ line_feed → text_of_blocks (blocks_of text) ≡ text
unfolding blocks_of text_of_blocks
blocks_written_as_read text e =
    ap (λ (lines : List Line). text_of lines) (joined_parted is_empty_line empty_line is_empty_line_only
    (lines_of text))
    ∙ written_as_read_to_feed text e

-- ---- what is written ends in a line feed

last_byte_behind : (a : Bytes) (b : ℕ) (rest : Bytes) → last_byte (a ++ b ∷ rest) ≡ last_byte (b ∷ rest)
last_byte_behind [] b rest = refl
last_byte_behind (c ∷ []) b rest = refl
last_byte_behind (c ∷ next ∷ a) b rest = last_byte_behind (next ∷ a) b rest

last_byte_of_text : (lines : List Line) → last_byte (line_feed ∷ text_of lines) ≡ line_feed
last_byte_of_text [] = refl
last_byte_of_text (line ∷ lines) =
    rw (append_ending line_feed (joined comma line) (text_of lines))
    (last_byte_behind (line_feed ∷ joined comma line) line_feed (text_of lines) ∙ last_byte_of_text lines)

pub text_ends_in_feed : (lines : List Line) → 1 ≤ length lines → last_byte (text_of lines) ≡ line_feed
text_ends_in_feed [] h = absurd (not-suc-le-zero h)
text_ends_in_feed (line ∷ lines) h =
    rw (append_ending line_feed (joined comma line) (text_of lines))
    (last_byte_behind (joined comma line) line_feed (text_of lines) ∙ last_byte_of_text lines)

joined_some : (block : Block) (blocks : List Block) → 1 ≤ length block → 1 ≤ length (joined empty_line (block ∷ blocks))
joined_some block [] h = h
joined_some [] (next ∷ blocks) h = absurd (not-suc-le-zero h)
joined_some (line ∷ block) (next ∷ blocks) h = omega arith

pub blocks_end_in_feed : (block : Block) (blocks : List Block) → 1 ≤ length block
    → last_byte (text_of_blocks (block ∷ blocks)) ≡ line_feed
unfolding text_of_blocks
blocks_end_in_feed block blocks h = text_ends_in_feed (joined empty_line (block ∷ blocks)) (joined_some block blocks h)
