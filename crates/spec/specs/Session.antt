-- A session: what it holds between two calls, and its book.
use Rattle.spec.specs.Vocabulary.{[]}
use Rattle.spec.specs.Text.{Bytes}
use Rattle.spec.specs.Sheet.{sheet_of}
use Rattle.spec.specs.Machine.{State}
use Rattle.spec.specs.Roles.{start_of}
use Rattle.spec.specs.Book.{book}

-- a session has no accepted sheet; or the bytes of one that is not reduced, and nothing else; or the bytes of one that
-- is reduced, and the machine's state. All else follows from these
pub data Session : Type 0 where
  no_sheet : Session
  read : Bytes → Session
  reduced : Bytes → State → Session

-- a fresh session has no accepted sheet
abbrev pub fresh : Session
fresh = no_sheet

-- the book of a session; without a sheet there is none. That of a sheet not yet reduced is the one that it would have
-- once reduced: no call brings it out, but a buffer can be shorter than it
unfoldable pub session_book : Session → Bytes
unfolding start_of
session_book no_sheet = []
session_book (read text) = book (sheet_of text) (start_of (sheet_of text))
session_book (reduced text st) = book (sheet_of text) st
