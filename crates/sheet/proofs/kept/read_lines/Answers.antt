-- `kept::read_lines`: behind the first line stand the lines of the users, up to the end of the text; and the lines of
-- an accepted sheet are found, within the limits.
use Rattle.std.proofs.Common.{ℕ, ◌≡◌, List, length, drop, arith, sym, subst}
use Rattle.std.specs.Prelude.{Some}
use Rattle.std.proofs.Math.Bool.{So}
use Rattle.spec.specs.Limits.{sheet_limit, grant_limit}
use Rattle.spec.specs.Text.{Bytes, text_of}
use Rattle.spec.specs.Sheet.{sheet_of}
use Rattle.spec.specs.Rules.{user_lines}
use Rattle.spec.specs.Refusal.{accepted}
use Rattle.cell_rows.specs.Laws.Width.{permissions_fit}
use Rattle.rules.specs.AcceptedFacts.{accepted_short}
use Rattle.sheet.specs.FirstLine.{FirstLineThere}
use Rattle.sheet.specs.UserLines.{Fit, UserLinesReads}
use Rattle.sheet.specs.KeptSheet.{Notes, notes_of, LinesStand}
use Rattle.sheet.specs.Laws.KeptFound.{accepted_names, accepted_text, accepted_fit, accepted_users}
use Rattle.sheet.specs.Laws.KeptFound.{accepted_grants}
use Rattle.sheet.specs.declared.first_line.FirstLine.{FirstLine}
use Rattle.sheet.specs.declared.user_lines.UserLines.{UserLines}
use Rattle.sheet.proofs.kept.read_lines.Goals as goal

-- the first line of an accepted sheet is the one that was read, with the lines of its users behind it
first_same : (s : Bytes) (permissions : List ℕ) (first : FirstLine) → FirstLineThere s permissions first
    → So (accepted s)
    → (first.permissions ≡ length (sheet_of s).permissions)
    × (drop first.next s ≡ text_of (user_lines (sheet_of s).users (sheet_of s).rows))
first_same s permissions first there p =
    there.same (sheet_of s).permissions (text_of (user_lines (sheet_of s).users (sheet_of s).rows))
    (accepted_names s p) (accepted_text s p)

-- what was noted of the lines that were read
abbrev notes : List ℕ → List ℕ → List ℕ → FirstLine → UserLines → Notes
notes permissions users words first lines =
    notes_of permissions users words (record {
      users = lines.users;
      permissions = first.permissions;
      grants = lines.grants;
    })

stand : (s : Bytes) (permissions users words : List ℕ) (first : FirstLine) (lines : UserLines)
    → FirstLineThere s permissions first
    → UserLinesReads s first.next first.permissions users words (Some lines)
    → LinesStand s (notes permissions users words first lines)
stand s permissions users words first lines there read =
    record { next = first.next; first = there.stands; lines = read }

pub returns-then-s-gt-SHEET_LIMIT : goal.returns-then-s-gt-SHEET_LIMIT
unfolding sheet_limit
returns-then-s-gt-SHEET_LIMIT c p = omega (arith, accepted_short c.args.s.now p)

pub read_first_line-requires : goal.read_first_line-requires
unfolding sheet_limit
read_first_line-requires c = (c.if-s-gt-SHEET_LIMIT.false, c.requires.permissions_room)

pub returns-in_err-first : goal.returns-in_err-first
returns-in_err-first c =
    let s = c.args.s.now in
    rw c.from_residual.ensures
    (λ p. c.in_err-first.ensures (sheet_of s).permissions
    (text_of (user_lines (sheet_of s).users (sheet_of s).rows)) (accepted_names s p) (accepted_text s p))

pub read_user_lines-requires : goal.read_user_lines-requires
unfolding sheet_limit
read_user_lines-requires c =
    let stands = c.in_ok-first.ensures.stands in (
      stands.stands.within,
      omega (arith, stands.few, permissions_fit),
      c.if-s-gt-SHEET_LIMIT.false,
      c.requires.users_room,
    )

pub returns-in_err-lines : goal.returns-in_err-lines
returns-in_err-lines c =
    let s = c.args.s.now in
    rw c.from_residual-in_err-lines.ensures
    (λ p.
    (let same = first_same s c.read_first_line.new.places c.in_ok-first.first c.in_ok-first.ensures p in
    c.in_err-lines.ensures (sheet_of s).users (sheet_of s).rows
    (subst (λ (w : ℕ). Fit w (sheet_of s).users (sheet_of s).rows) (sym same.0) (accepted_fit s p)) same.1))

pub returns-then-lines-eq0 : goal.returns-then-lines-eq0
returns-then-lines-eq0 c p =
    let some = accepted_users c.args.s.now p (notes c.read_first_line.new.places c.read_user_lines.new.places
    c.read_user_lines.new.rows c.in_ok-first.first c.in_ok-lines.lines)
    (stand c.args.s.now c.read_first_line.new.places c.read_user_lines.new.places c.read_user_lines.new.rows
    c.in_ok-first.first c.in_ok-lines.lines c.in_ok-first.ensures c.in_ok-lines.ensures) in
    omega (arith, some, c.if-lines-eq0.true)

pub returns-then-lines-gt-GRANT_LIMIT : goal.returns-then-lines-gt-GRANT_LIMIT
unfolding grant_limit
returns-then-lines-gt-GRANT_LIMIT c p =
    let few = accepted_grants c.args.s.now p (notes c.read_first_line.new.places c.read_user_lines.new.places
    c.read_user_lines.new.rows c.in_ok-first.first c.in_ok-lines.lines)
    (stand c.args.s.now c.read_first_line.new.places c.read_user_lines.new.places c.read_user_lines.new.rows
    c.in_ok-first.first c.in_ok-lines.lines c.in_ok-first.ensures c.in_ok-lines.ensures) in
    omega (arith, few, c.if-lines-gt-GRANT_LIMIT.true)

pub returns : goal.returns
unfolding sheet_limit grant_limit
returns c =
    record {
      stand = stand c.args.s.now c.read_first_line.new.places c.read_user_lines.new.places
          c.read_user_lines.new.rows c.in_ok-first.first c.in_ok-lines.lines c.in_ok-first.ensures
          c.in_ok-lines.ensures;
      short = c.if-s-gt-SHEET_LIMIT.false;
      some_user = omega arith;
      few_grants = c.if-lines-gt-GRANT_LIMIT.false;
    }
