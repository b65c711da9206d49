-- To the bytes of a sheet that keeps the rules none of the nine causes applies. Assumes nothing.
use Rattle.std.specs.Prelude.{ℕ, suc, ◌≡◌, refl, ◌⊎◌, ◌∷◌, length}
use native.Mathlib.Omega.{arith}
use Rattle.std.proofs.Common.{sym, ap, ◌∙◌, inl, inr}
use Rattle.std.proofs.Math.Path.{subst}
use Rattle.std.proofs.Math.Bool.{So}
use mathlib.Core.List.Memᴰ
use Rattle.std.proofs.lemmas.List.{length-map}
use Rattle.spec.specs.Vocabulary.{empty}
use Rattle.spec.specs.Limits.{permission_limit, user_limit, name_limit, sheet_limit, grant_limit}
use Rattle.spec.specs.Text.{ascii, Bytes, comma, line_feed, allowed_byte, lines_of, text_of, last_byte}
use Rattle.spec.specs.Sheet.{Sheet, cell_text, sheet_of}
use Rattle.spec.specs.Rules.{Name, Keeps, user_lines}
use Rattle.text.specs.Laws.TextBytes.{text_some, text_ends, text_byte, FieldByte}
use Rattle.text.specs.Laws.Byte.{name_byte_allowed, comma_allowed, line_feed_allowed}
use Rattle.rules.specs.SheetLines.{cell_is_bit, length_user_lines, sheet_lines, sheet_text_lines}
use Rattle.rules.specs.ByteCauses.{GoodBytes}
use Rattle.rules.specs.LineCauses.{GoodFirstLine, GoodLineCount, EvenLines, BitLines}
use Rattle.rules.specs.NameCauses.{Sized, SizedNames, DistinctNames}
use Rattle.rules.specs.Unrefused.{Unrefused}
use Rattle.rules.specs.WrittenLaws.{user_row, SheetWritten, line_spelled, written_lines, written_sheet}

-- what keeps the rules is written so
pub keeps_written : (text : Bytes) (sheet : Sheet) → Keeps text sheet → SheetWritten text sheet
keeps_written text sheet k =
    record {
      written = k.written;
      permissions_named = k.permission_names.each;
      users_named = k.user_names.each;
      a_row_each = k.a_row_each;
    }

module _ (text : Bytes) (sheet : Sheet) (k : Keeps text sheet) where
  -- the bytes are read as the lines that were written
  pub lines_read : lines_of text ≡ sheet_lines sheet
  lines_read = written_lines text sheet (keeps_written text sheet k)

  -- and as the sheet that was written
  pub sheet_read : sheet_of text ≡ sheet
  sheet_read = written_sheet text sheet (keeps_written text sheet k)

  bytes_written : text ≡ text_of (sheet_lines sheet)
  bytes_written = k.written ∙ sheet_text_lines sheet

  keeps_bytes : GoodBytes text
  keeps_bytes =
      record {
        some_byte = ap empty bytes_written ∙ text_some (ascii "user" ∷ sheet.permissions)
            (user_lines sheet.users sheet.rows);
        ends = ap last_byte bytes_written ∙ text_ends (ascii "user" ∷ sheet.permissions)
            (user_lines sheet.users sheet.rows);
        allowed = λ b m. choose b (text_byte (sheet_lines sheet) b (rw bytes_written at m));
      }
    where
      choose : (b : ℕ) → (b ≡ line_feed) ⊎ ((b ≡ comma) ⊎ FieldByte (sheet_lines sheet) b) → So (allowed_byte b)
      choose b (inl e) = rw e line_feed_allowed
      choose b (inr (inl e)) = rw e comma_allowed
      choose b (inr (inr f)) =
          name_byte_allowed b (line_spelled text sheet (keeps_written text sheet k) f.line f.line_member
          f.field f.field_member b f.byte_member)

  keeps_first : GoodFirstLine (sheet_lines sheet)
  unfolding permission_limit
  keeps_first = record { says_user = refl; some_permission = omega arith; few_permissions = omega arith }

  keeps_count : GoodLineCount (sheet_lines sheet)
  unfolding user_limit
  keeps_count =
      let e = length_user_lines sheet.users sheet.rows k.a_row_each in
      record { some_user = omega arith; few_users = omega arith }

  keeps_sized : SizedNames sheet
  unfolding name_limit
  keeps_sized =
      record {
        permissions = λ name m. sized (k.permission_names.each name m);
        users = λ name m. sized (k.user_names.each name m);
      }
    where
      sized : {name : Bytes} → Name name → Sized name
      sized n = record { some_byte = n.some_byte; short = n.short }

  keeps_even : EvenLines (sheet_lines sheet)
  keeps_even line m =
      let r = user_row sheet.users sheet.rows line m in
      ap length r.says ∙ ap suc (length-map r.row cell_text ∙ k.even_rows r.row r.row_member)

  keeps_bits : BitLines (sheet_lines sheet)
  keeps_bits line m field n =
      let r = user_row sheet.users sheet.rows line m in
      let c = Memᴰ.of_map cell_text r.row (rw r.says at n) in
      rw (← c.2) (cell_is_bit c.0)

  keeps_distinct : DistinctNames sheet
  keeps_distinct = record { users = k.user_names.distinct; permissions = k.permission_names.distinct }

  -- none of the nine causes applies
  pub keeps_unrefused : Unrefused text
  unfolding sheet_limit grant_limit
  keeps_unrefused =
      record {
        short = k.short;
        bytes = keeps_bytes;
        first = rw lines_read keeps_first;
        count = rw lines_read keeps_count;
        sized = rw sheet_read keeps_sized;
        even = subst EvenLines (sym lines_read) keeps_even;
        bits = subst BitLines (sym lines_read) keeps_bits;
        distinct = rw sheet_read keeps_distinct;
        few = rw sheet_read k.few_grants;
      }
