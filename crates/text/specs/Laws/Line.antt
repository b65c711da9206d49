-- Lines and blocks in the order in which they are written: a field first, then each further field behind a comma,
-- then the line feed; the line of names first, then the lines by number; a block, then each further block behind an
-- empty line. Assumes nothing.
use Rattle.std.specs.Prelude.{ℕ, ◌≡◌, refl, List, [], ◌∷◌, ◌++◌, map, length, get_or}
use Rattle.std.proofs.Common.{sym, ap, ◌∙◌, append_assoc, append-nil}
use Rattle.std.proofs.lemmas.List.{map-append}
use Rattle.spec.specs.Vocabulary.{list_of, joined, concat}
use Rattle.spec.specs.Text.{Bytes, Line, comma, line_feed, line_text, text_of}
use Rattle.spec.specs.Book.{Block, empty_line, text_of_blocks}
use Rattle.lists.specs.JoinLaws.{concat_append}
use Rattle.lists.specs.ListOfLaws.{list_of_places, map_list_of}
use Rattle.lists.specs.Listed.{listed}
use Rattle.text.specs.Line.{behind_comma, line_end}

-- a line before its line feed
pub joined_parts : (field : Bytes) (rest : List Bytes) → joined comma (field ∷ rest) ≡ field ++ concat
    (map behind_comma rest)
joined_parts field [] = sym (append-nil field)
joined_parts field (next ∷ rest) = ap (λ (l : Bytes). field ++ comma ∷ l) (joined_parts next rest)

-- a line whose further fields are numbered
pub line_parts : (field : Bytes) (count : ℕ) (f : ℕ → Bytes)
    → line_text (field ∷ list_of count f) ≡ (field ++ listed count (λ i. behind_comma (f i))) ++ line_end
line_parts field count f =
    ap (λ (l : Bytes). l ++ line_end)
    (joined_parts field (list_of count f) ∙ ap (λ (l : List Bytes). field ++ concat l) (map_list_of behind_comma count
    f))

-- a line whose further fields are a list
pub line_parts_of : (field : Bytes) (rest : List Bytes)
    → line_text (field ∷ rest) ≡ (field ++ listed (length rest) (λ i. behind_comma (get_or rest i []))) ++ line_end
line_parts_of field rest =
    ap (λ (l : List Bytes). line_text (field ∷ l)) (sym (list_of_places rest [])) ∙ line_parts field (length rest)
    (λ i. get_or rest i [])

-- a block whose lines are numbered
pub block_parts : (heading : Line) (count : ℕ) (line : ℕ → Line)
    → text_of (heading ∷ list_of count line) ≡ line_text heading ++ listed count (λ i. line_text (line i))
block_parts heading count line =
    ap (λ (l : List Bytes). line_text heading ++ concat l) (map_list_of line_text count line)

-- lines one after the other
pub text_append : (a b : List Line) → text_of (a ++ b) ≡ text_of a ++ text_of b
text_append a b = ap concat (map-append line_text a b) ∙ concat_append (map line_text a) (map line_text b)

-- one block before others
blocks_parts : (block next : Block) (later : List Block)
    → text_of_blocks (block ∷ next ∷ later) ≡ text_of block ++ line_feed ∷ text_of_blocks (next ∷ later)
unfolding text_of_blocks
blocks_parts block next later = text_append block (empty_line ∷ joined empty_line (next ∷ later))

one_block : (block : Block) → text_of_blocks (block ∷ []) ≡ text_of block
unfolding text_of_blocks
one_block block = refl

-- four blocks with one empty line between each two
pub four_blocks : (a b c d : Block)
    → text_of_blocks (a ∷ b ∷ c ∷ d ∷ [])
    ≡ (((((text_of a ++ line_end) ++ text_of b) ++ line_end) ++ text_of c) ++ line_end) ++ text_of d
four_blocks a b c d =
    rw (blocks_parts a b (c ∷ d ∷ []), blocks_parts b c (d ∷ []), blocks_parts c d [], one_block d)
    (sym (simp append_assoc))
