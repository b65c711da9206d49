-- Bytes, names, lines and fields, read and written.
use Rattle.std.specs.Prelude.{◌+◌, ◌-◌, ◌&&◌, ◌||◌, ◌∷◌, ◌++◌}
use Rattle.spec.specs.Vocabulary.{ℕ, code, Bool, cond, List, [], map, eqb}
use Rattle.spec.specs.Vocabulary.{leb, ended_by, parted_by, joined, concat, same_by}
use Prim.Native.String.{String, [] as no-character, ◌∷◌ as ◌then◌}

-- a text, a field or a name: each a list of bytes
abbrev pub Bytes : Type 0
Bytes = List ℕ

-- the fields of a line
abbrev pub Line : Type 0
Line = List Bytes

-- the bytes of a word of document 01, one for each character
abbrev pub ascii : String → Bytes
ascii no-character = []
ascii (c then rest) = code c ∷ ascii rest

abbrev pub comma : ℕ
comma = code ","

abbrev pub line_feed : ℕ
line_feed = code "\n"

-- two lists of bytes are equal
abbrev pub same_bytes : Bytes → Bytes → Bool
same_bytes = same_by eqb

-- the last of some bytes; 0, which is no line feed, where there is none
abbrev pub last_byte : Bytes → ℕ
last_byte [] = 0
last_byte (b ∷ []) = b
last_byte (b ∷ next ∷ rest) = last_byte (next ∷ rest)

-- n is at least low and at most high
abbrev pub between : ℕ → ℕ → ℕ → Bool
between low high n = leb low n && leb n high

-- a byte of a name: `A-Z a-z 0-9 - . _`
unfoldable pub name_byte : ℕ → Bool
name_byte b =
    between (code "A") (code "Z") b
    || between (code "a") (code "z") b
    || between (code "0") (code "9") b
    || eqb b (code "-")
    || eqb b (code ".")
    || eqb b (code "_")

-- a byte with `A-Z` read as `a-z`
unfoldable pub lower : ℕ → ℕ
lower b = cond (between (code "A") (code "Z") b) (code "a" + (b - code "A")) b

-- a name with `A-Z` read as `a-z`. Two names of users, or two of permissions, are equal if these are the same: rules
-- say so of `lowered`, and tests ask `same_name`
abbrev pub lowered : Bytes → Bytes
lowered = map lower

abbrev pub same_name : Bytes → Bytes → Bool
same_name name other = same_bytes (lowered name) (lowered other)

-- bytes allowed: those of a name, comma, line feed
unfoldable pub allowed_byte : ℕ → Bool
unfolding name_byte
allowed_byte b = name_byte b || eqb b comma || eqb b line_feed

-- every line ends in a line feed; bytes after the last one, of which cause 2 speaks, count as a line
abbrev pub lines : Bytes → List Bytes
lines = ended_by (eqb line_feed)

-- commas part the fields of a line, and an empty line is one empty field
abbrev pub fields : Bytes → Line
fields = parted_by (eqb comma)

-- a text read from front to back, line after line
abbrev pub lines_of : Bytes → List Line
lines_of text = map fields (lines text)

-- a line as bytes, with the line feed that ends it
abbrev pub line_text : Line → Bytes
line_text line = joined comma line ++ line_feed ∷ []

-- lines as bytes, one after the other
abbrev pub text_of : List Line → Bytes
text_of lines = concat (map line_text lines)
