-- Block 1 as bytes, and the struct that says it. Assumes nothing.
use Rattle.std.specs.Prelude.{[], ◌∷◌, ◌++◌}
use Rattle.spec.specs.Text.{Bytes, comma, line_feed, text_of}
use Rattle.spec.specs.Roles.{Standing}
use Rattle.spec.specs.Book.{standing_word, counts_block}
use Rattle.standing.specs.StandingCases.{standing_case}
use Rattle.book_lines.specs.declared.counts.Counts.{Counts}

-- the state as the last field of a line
abbrev pub standing_text : Standing → Bytes
standing_text standing = comma ∷ standing_word standing ++ line_feed ∷ []

-- block 1 of such counts
abbrev pub counts_text : Counts → Bytes
counts_text counts = text_of (counts_block counts.roles counts.bound (standing_case counts.standing))
