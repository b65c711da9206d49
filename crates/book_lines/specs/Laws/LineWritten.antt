-- A line written in three steps: a name, the fields behind it, the line feed behind them; and a block, whose lines
-- stand behind the line of its heading. Room for the whole is room at each step.
use Rattle.std.specs.Prelude.{ℕ, ◌+◌, ◌≤◌, ◌≡◌, ◌++◌, length, set, take, drop}
use Rattle.std.proofs.Common.{sym, take_at}
use Rattle.spec.specs.Text.{Bytes}
use Rattle.text.specs.Line.{line_end}
use Rattle.text.specs.Written.{Written, WrittenSoFar, rest_from, with_rest, front_fits, then_byte, then_written}

-- the buffer has room for a line
pub record LineRoom (name fields before : Bytes) : Type 0 where
  pub fits : length ((name ++ fields) ++ line_end) ≤ length before

module _ {name fields before : Bytes} (room : LineRoom name fields before) where
  fields_fit : length (name ++ fields) ≤ length before
  fields_fit = front_fits (name ++ fields) line_end room.fits

  pub name_fits : length name ≤ length before
  name_fits = front_fits name fields fields_fit

  pub behind_name : {mid : Bytes} {at : ℕ} → Written name before mid at → WrittenSoFar name fields before mid at
  behind_name w = record { written = w; fits = fields_fit }

  pub behind_fields : {mid rest : Bytes} {at m : ℕ} → Written name before mid at → Written fields (rest_from at mid)
      rest m
      → WrittenSoFar (name ++ fields) line_end before (with_rest at mid rest) (at + m)
  behind_fields w v = record { written = then_written (behind_name w) v; fits = room.fits }

-- the buffer has room for a heading and the lines behind it
pub record BlockRoom (word fields lines before : Bytes) : Type 0 where
  pub fits : length (((word ++ fields) ++ line_end) ++ lines) ≤ length before

module _ {word fields lines before : Bytes} (room : BlockRoom word fields lines before) where
  pub heading_room : LineRoom word fields before
  heading_room = record { fits = front_fits ((word ++ fields) ++ line_end) lines room.fits }

  pub behind_heading : {mid : Bytes} {at : ℕ} → WrittenSoFar (word ++ fields) line_end before mid at
      → WrittenSoFar ((word ++ fields) ++ line_end) lines before (set mid at 10) (at + 1)
  behind_heading r = record { written = then_byte r; fits = room.fits }

-- what was written is the front of the buffer
pub front_written : {bytes before after : Bytes} {count : ℕ} → Written bytes before after count
    → take count after ≡ bytes
front_written {bytes} {before} {count} w =
    rw w.buffer (take_at bytes (drop (length bytes) before) count (sym w.counted))
