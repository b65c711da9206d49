-- A sheet to which none of the nine causes applies keeps the rules: its lines are those of the sheet that it says,
-- and a field holds neither comma nor line feed, so that every allowed byte in it is a byte of a name. Assumes
-- nothing.
use Rattle.std.specs.Prelude.{ℕ, suc, ◌≤◌, ◌≡◌, Bool}
use Rattle.std.proofs.Common.{not-suc-le-zero, arith, ◌∙◌}
use Rattle.std.proofs.Math.Path.{sym, ap}
use Rattle.std.proofs.Math.Bool.{So}
use mathlib.Core.List.{List, [], ◌∷◌, tail, Memᴰ}
use Rattle.std.proofs.Math.ListN.{length, length-map}
use Rattle.spec.specs.Limits.{name_limit, sheet_limit, permission_limit, user_limit, grant_limit}
use Rattle.spec.specs.Text.{Bytes, Line, name_byte, lines_of, text_of}
use Rattle.spec.specs.Sheet.{first_field, first_line, is_one, sheet_of}
use Rattle.spec.specs.Rules.{Name, Names, Keeps, sheet_text}
use Rattle.lists.specs.TestLaws.{member_at}
use Rattle.lists.specs.TailLaws.{tail_member, length_tail}
use Rattle.text.specs.Laws.Text.{written_as_read_to_feed, read_in_text, read_lines}
use Rattle.text.specs.Laws.Byte.{allowed_name_byte}
use Rattle.rules.specs.SheetLines.{cells, UserLine, sheet_text_lines, lines_spelled}
use Rattle.rules.specs.NameCauses.{Sized}
use Rattle.rules.specs.Unrefused.{Unrefused}

some_line : (lines : List Line) → 1 ≤ length (first_line lines) → 1 ≤ length lines
some_line [] h = absurd (not-suc-le-zero h)
some_line (line ∷ others) h = omega arith

first_field_member : (line : Line) → 1 ≤ length line → Memᴰ (first_field line) line
first_field_member line h = member_at line 0 [] h

spelled_name : (name : Bytes) → Sized name → ((b : ℕ) → Memᴰ b name → So (name_byte b)) → Name name
unfolding name_limit
spelled_name name s spelled = record { some_byte = s.some_byte; short = s.short; spelled = spelled }

module _ (text : Bytes) (u : Unrefused text) where
  -- every field is spelled with the bytes of names
  field_spelled : (line : Line) → Memᴰ line (lines_of text) → (field : Bytes) → Memᴰ field line
      → (b : ℕ) → Memᴰ b field → So (name_byte b)
  field_spelled line m field n b k =
      let held = (read_lines text line m).each field n in
      allowed_name_byte b (u.bytes.allowed b (read_in_text text line m field n b k)) (held.no_comma b k)
      (held.no_line_feed b k)

  first_line_member : Memᴰ (first_line (lines_of text)) (lines_of text)
  first_line_member = member_at (lines_of text) 0 []
      (some_line (lines_of text) (omega (arith, u.first.some_permission)))

  -- every line after the first is a user line
  user_line : (line : Line) → Memᴰ line (tail (lines_of text)) → UserLine line
  user_line line m =
      record { some_field = (read_lines text line (tail_member (lines_of text) m)).some_field; bits = u.bits line m }

  permission_names : Names (sheet_of text).permissions
  unfolding sheet_of
  permission_names =
      record {
        each = λ field m.
            spelled_name field (u.sized.permissions field m) (field_spelled (first_line (lines_of text))
            first_line_member field
            (tail_member (first_line (lines_of text)) m));
        distinct = u.distinct.permissions;
      }

  user_names : Names (sheet_of text).users
  unfolding sheet_of
  user_names = record { each = each; distinct = u.distinct.users }
    where
      each : (field : Bytes) → Memᴰ field (sheet_of text).users → Name field
      each field m = spelled_name field (u.sized.users field m) spelled
        where
          spelled : (b : ℕ) → Memᴰ b field → So (name_byte b)
          spelled b n =
              let line = mathlib.Core.List.Memᴰ.of_map first_field (tail (lines_of text)) m in
              let member : Memᴰ line.0 (lines_of text) = tail_member (lines_of text) line.1 in
              field_spelled line.0 member (first_field line.0)
              (first_field_member line.0 (read_lines text line.0 member).some_field) b (rw (← line.2) at n)

  -- the bytes are those of the sheet that they say
  written : text ≡ sheet_text (sheet_of text)
  unfolding sheet_of
  written =
      sym (written_as_read_to_feed text u.bytes.ends)
      ∙ ap text_of (sym (lines_spelled (lines_of text) u.first.says_user
      (omega (arith, u.first.some_permission)) user_line))
      ∙ sym (sheet_text_lines (sheet_of text))

  permission_total : suc (length (sheet_of text).permissions) ≡ length (first_line (lines_of text))
  unfolding sheet_of
  permission_total = length_tail (first_line (lines_of text)) (omega (arith, u.first.some_permission))

  user_total : length (sheet_of text).users ≡ length (tail (lines_of text))
  unfolding sheet_of
  user_total = length-map (tail (lines_of text)) first_field

  row_total : length (sheet_of text).rows ≡ length (tail (lines_of text))
  unfolding sheet_of
  row_total = length-map (tail (lines_of text)) cells

  even_rows : (row : List Bool) → Memᴰ row (sheet_of text).rows → length row ≡ length (sheet_of text).permissions
  unfolding sheet_of
  even_rows row m =
      let line = mathlib.Core.List.Memᴰ.of_map cells (tail (lines_of text)) m in
      let said : length row ≡ length (tail line.0) = sym (ap length line.2) ∙ length-map (tail line.0)
      is_one in
      let shorter = length_tail line.0 (user_line line.0 line.1).some_field in
      omega (arith, said, shorter, u.even line.0 line.1, permission_total)

  -- the sheet that the bytes say keeps the rules
  pub unrefused_keeps : Keeps text (sheet_of text)
  unfolding sheet_limit permission_limit user_limit grant_limit
  unrefused_keeps =
      record {
        written = written;
        short = u.short;
        some_permission = omega (arith, permission_total, u.first.some_permission);
        few_permissions = omega (arith, permission_total, u.first.few_permissions);
        some_user = omega (arith, user_total, u.count.some_user);
        few_users = omega (arith, user_total, u.count.few_users);
        permission_names = permission_names;
        user_names = user_names;
        a_row_each = row_total ∙ sym user_total;
        even_rows = even_rows;
        few_grants = u.few;
      }
