-- What a session of the code stands for, and what its values keep from call to call: what is kept beside the sheet's
-- bytes follows from them, the position is one that searches of the sheet come to, and while the sheet is not reduced
-- nothing is kept that only a reduction finds. Assumes nothing.
use Rattle.std.specs.Prelude.{ℕ, ◌≤◌, ◌≡◌, false, cond, leb, length, take, replicate}
use Rattle.std.proofs.Math.Bool.{So}
use Rattle.spec.specs.Limits.{search_limit}
use Rattle.spec.specs.Text.{Bytes}
use Rattle.spec.specs.Sheet.{sheet_of}
use Rattle.spec.specs.Machine.{State, best_count}
use Rattle.spec.specs.Roles.{start_of}
use Rattle.spec.specs.Session.{Session, no_sheet, read, reduced}
use Rattle.spec.specs.Calls.{ReduceAnswer}
use Rattle.cells.specs.RowsRead.{RowsRead}
use Rattle.names.specs.LaidOut.{LaidOut}
use Rattle.search.specs.View.{started, PositionStands}
use Rattle.search.specs.View as position
use Rattle.search.specs.declared.machine.Position.{Position}
use Rattle.minimality.specs.StateBound.{Searching}
use Rattle.preparing.specs.Prepared.{PreparedFor}
use Rattle.preparing.specs.NothingPrepared.{nothing_prepared}
use Rattle.session.specs.declared.Session.{Session as CodeSession}

-- the bytes of the sheet
abbrev pub text_in : CodeSession → Bytes
text_in s = take s.length s.text

-- the size of the kernel
abbrev pub size_in : CodeSession → ℕ
size_in s = s.prepared.kernel.size

-- the machine's state: that of the position, or the start where the kernel is too great to be searched
abbrev pub state_in : CodeSession → State
state_in s =
    cond (leb (size_in s) search_limit) (position.view s.position (size_in s)) (start_of (sheet_of (text_in s)))

-- the session that it stands for
abbrev pub view : CodeSession → Session
view s = cond s.loaded (cond s.reduced (reduced (text_in s) (state_in s)) (read (text_in s))) no_sheet

-- what a reduction answers from the counts that were found
abbrev pub sizes_said : CodeSession → ReduceAnswer
sizes_said s = record { number = 0; kernel = size_in s; witness = s.prepared.witness.count }

-- a session with an accepted sheet
pub record HoldsSheet (s : CodeSession) : Type 0 where
  pub whole : s.length ≤ length s.text
  pub laid : LaidOut (text_in s) s.layout
  pub cells : RowsRead s.rows (sheet_of (text_in s))

-- a session with an accepted sheet that is reduced
pub record Holds (s : CodeSession) : Type 0 where
  pub accepts : So s.loaded
  pub sheet : HoldsSheet s
  pub prepared : PreparedFor (sheet_of (text_in s)) s.rows s.layout.users s.prepared
  pub stands : size_in s ≤ search_limit → PositionStands (size_in s) s.position
  pub searching : Searching (sheet_of (text_in s)) (state_in s)
  pub counted : s.position.cursor.count ≡ best_count (state_in s)
  pub finished : s.position.cursor.finished ≡ (state_in s).finished

-- where the search stands while no sheet is reduced
abbrev pub no_position : Position
no_position = started (replicate search_limit 0) 0 (record { kernel = 0; singles = 0; witness = 0 })

-- nothing is kept that only a reduction finds
pub record NothingFound (s : CodeSession) : Type 0 where
  pub prepared : s.prepared ≡ nothing_prepared
  pub position : s.position ≡ no_position

-- what every session that came from the calls keeps
pub record Sound (s : CodeSession) : Type 0 where
  pub sheet : So s.loaded → HoldsSheet s
  pub held : So s.reduced → Holds s
  pub unreduced : s.reduced ≡ false → NothingFound s
