-- Reading the user lines one by one: what the lines read so far say, with those that are still to come, is what all
-- of them say. Assumes nothing.
use Rattle.std.specs.Prelude.{ℕ, suc, ◌+◌, ◌≤◌, ◌<◌, ◌≡◌, refl, ◌&&◌, eqb, length, get_or, drop}
use Rattle.std.proofs.Common.{zero-add, arith, sym, ◌∙◌, drop_of_length-le, drop-cons}
use Rattle.std.proofs.Math.Bool.{and-true, and_assoc}
use mathlib.Core.List.{List, [], ◌∷◌, tail}
use Rattle.spec.specs.Vocabulary.{all}
use Rattle.spec.specs.Text.{Bytes, Line, lines_of}
use Rattle.spec.specs.Sheet.{first_field, is_bit}
use Rattle.spec.specs.Refusal.{has_name_length}
use Rattle.places.specs.Places.{part}
use Rattle.refusal.specs.FirstLine.{line_fields}
use Rattle.refusal.specs.Laws.Fields.{first_line_read}
use Rattle.refusal.specs.ReadLine.{ReadLine}
use Rattle.refusal.specs.Body.{no_lines, add_read_line, add_line, add_lines, ones_after_names, body_of}
use Rattle.refusal.specs.declared.line.LineRead.{LineRead}
use Rattle.refusal.specs.declared.body.Body.{Body}

-- what some lines say, and others after them
abbrev joined_lines : ℕ → Body → List Line → Body
joined_lines width body lines =
    let others : Body = body_of width lines in
    record {
      users = body.users + others.users;
      names = body.names && others.names;
      even = body.even && others.even;
      bits = body.bits && others.bits;
      ones = body.ones + others.ones;
    }

same_body : {a b : Body} → a.users ≡ b.users → a.names ≡ b.names → a.even ≡ b.even → a.bits ≡ b.bits
    → a.ones ≡ b.ones → a ≡ b
same_body users names even bits ones =
    λ i. record { users = users i; names = names i; even = even i; bits = bits i; ones = ones i }

add_lines_joined : (width : ℕ) (body : Body) (lines : List Line) → add_lines width body lines ≡ joined_lines width
    body lines
add_lines_joined width body [] =
    same_body (omega arith) (sym (and-true body.names)) (sym (and-true body.even)) (sym (and-true body.bits))
    (omega arith)
add_lines_joined width body (line ∷ rest) =
    let later : Body = body_of width rest in
    add_lines_joined width (add_line width body line) rest
    ∙ same_body (omega arith) (and_assoc body.names (has_name_length (first_field line)) later.names)
    (and_assoc body.even (eqb (length (tail line)) width) later.even)
    (and_assoc body.bits (all is_bit (tail line)) later.bits) (omega arith)

-- so lines added to none say what they say
pub lines_added : (width : ℕ) (lines : List Line) → add_lines width no_lines lines ≡ body_of width lines
lines_added width lines =
    add_lines_joined width no_lines lines ∙ same_body (zero-add (length lines)) refl refl refl
    (zero-add (ones_after_names lines))

-- a line that was read is the first of those from its place on, and the others start at the next place
pub line_read : (text : Bytes) (at : ℕ) (r : LineRead) → at < length text → ReadLine text at r
    → lines_of (drop at text) ≡ line_fields (drop at text) ∷ lines_of (drop r.next text)
line_read text at r h read =
    rw (← read.after, drop-cons text at 0 h) (first_line_read (get_or text at 0) (drop (suc at) text))

-- the lines from a place on are read up to another
pub record BodyReading (text : Bytes) (at width : ℕ) (body : Body) (from : ℕ) : Type 0 where
  pub lines_to_come : add_lines width body (lines_of (drop from text)) ≡ add_lines width no_lines
      (lines_of (drop at text))
  pub within : from ≤ suc (length text)
  pub users_small : body.users ≤ from
  pub ones_small : body.ones ≤ from

pub body_starts : (text : Bytes) (at width : ℕ) → at ≤ suc (length text) → BodyReading text at width no_lines at
body_starts text at width h =
    record { lines_to_come = refl; within = h; users_small = omega arith; ones_small = omega arith }

pub body_goes_on : (text : Bytes) (at width : ℕ) (body : Body) (from : ℕ) (r : LineRead) → BodyReading text at width
    body from
    → from < length text → ReadLine text from r
    → BodyReading text at width (add_read_line width body (has_name_length (part from r.to text)) r.cells)
    r.next
body_goes_on text at width body from r reading h read =
    record {
      lines_to_come = rw (read.name.reads, read.cells) (rw (line_read text from r h read) at
          reading.lines_to_come);
      within = read.within;
      users_small = omega (arith, read.count_small, reading.users_small);
      ones_small = omega (arith, read.count_small, read.ones_small, reading.ones_small);
    }

-- past the last line
pub body_ends : (text : Bytes) (at width : ℕ) (body : Body) (from : ℕ) → BodyReading text at width body from
    → length text ≤ from
    → body ≡ body_of width (lines_of (drop at text))
body_ends text at width body from reading h =
    rw (drop_of_length-le text h) at reading.lines_to_come ∙ lines_added width (lines_of (drop at text))
