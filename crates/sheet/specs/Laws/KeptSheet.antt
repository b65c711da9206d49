-- The sheet that notes of a text say: the text is that sheet's, and keeps all rules where the limits are kept and no
-- name stands twice. Assumes nothing.
use Rattle.std.specs.Prelude.{ℕ, ◌*◌, ◌≤◌, ◌<◌, ◌≡◌, Bool, false, length, get_or, take, replicate}
use Rattle.std.proofs.Common.{arith, sym, ap, ◌∙◌}
use mathlib.Core.List.{List, [], ◌∷◌, ◌++◌, append-nil, Memᴰ}
use Rattle.std.proofs.lemmas.List.{length-replicate}
use Rattle.std.proofs.Math.Seq.{drop-length}
use Rattle.spec.specs.Vocabulary.{repeats}
use Rattle.spec.specs.Limits.{sheet_limit, permission_limit, user_limit, grant_limit}
use Rattle.spec.specs.Text.{ascii, Bytes, Line, line_text, text_of, same_name}
use Rattle.spec.specs.Sheet.{Sheet, sheet_of, grants}
use Rattle.spec.specs.Rules.{Name, Keeps, user_lines, sheet_text}
use Rattle.text.specs.Laws.Lowered.{names_apart}
use Rattle.lists.specs.ListOfLaws.{length_list_of, list_of_element}
use Rattle.cell_rows.specs.Rows.{row_words, cell}
use Rattle.cells.specs.Laws.WordRows.{word_row, word_rows, word_lines, word_grants}
use Rattle.places.specs.Places.{from_at, to_at, Part, NamesPlaced}
use Rattle.names.specs.NamesAt.{name_there, names_at}
use Rattle.places.specs.Laws.Places.{first_placed, zero_there}
use Rattle.names.specs.Laws.NamesAt.{names_total, name_of}
use Rattle.rules.specs.SheetLines.{sheet_text_lines}
use Rattle.rules.specs.WrittenLaws.{SheetWritten, written_sheet}
use Rattle.sheet.specs.Spelled.{NameAt}
use Rattle.sheet.specs.UserLines.{lines_at}
use Rattle.sheet.specs.KeptSheet.{SheetRoom, Notes, LinesStand, SheetStands}
use Rattle.sheet.specs.Laws.UserLines.{new_room}

pub new_sheet_room : SheetRoom (replicate user_limit 0) (replicate user_limit 0)
    (replicate (user_limit * row_words) 0)
new_sheet_room =
    record {
      permissions_room = record {
        room = length-replicate user_limit 0;
        unnoted = λ i l. zero_there user_limit i;
      };
      users_room = new_room;
    }

-- the sheet that notes of a text say
abbrev pub noted : Bytes → Notes → Sheet
noted text n =
    record {
      users = names_at text n.users n.counts.users;
      permissions = names_at text n.permissions n.counts.permissions;
      rows = word_rows n.counts.permissions n.words n.counts.users;
    }

-- the first n of some places are those of the names there
pub names_placed : (text : Bytes) (places : List ℕ) (n : ℕ) → n ≤ length places
    → ((i : ℕ) → i < n → NameAt text (from_at places i) (to_at places i))
    → NamesPlaced text (take n places) (names_at text places n)
names_placed text places n room each =
    first_placed n text places (names_at text places n) (record { each = there }) (sym (names_total text places n)) room
  where
    there : (i : ℕ) → i < n
        → Part text (from_at places i) (to_at places i) (get_or (names_at text places n) i [])
    there i l =
        let name = each i l in
        record {
          forward = omega (arith, name.forward);
          within = name.within;
          reads = sym (name_of text places n i l);
        }

named_at : (text : Bytes) (places : List ℕ) (n : ℕ)
    → ((i : ℕ) → i < n → NameAt text (from_at places i) (to_at places i)) → (name : Bytes)
    → Memᴰ name (names_at text places n) → Name name
named_at text places n each name m =
    let r = list_of_element n (name_there text places) m in rw (← r.there) (each r.place r.within).named

module _ (text : Bytes) (n : Notes) (s : LinesStand text n) where
  pub users_placed : NamesPlaced text (take n.counts.users n.users) (noted text n).users
  users_placed = names_placed text n.users n.counts.users (omega (arith, s.lines.few, s.lines.places_room))
      (λ u l. (s.lines.each u l).name)

  pub permissions_placed : NamesPlaced text (take n.counts.permissions n.permissions)
      (noted text n).permissions
  unfolding permission_limit user_limit
  permissions_placed =
      names_placed text n.permissions n.counts.permissions (omega (arith, s.first.few, s.first.room))
      s.first.each

  pub noted_lines : user_lines (noted text n).users (noted text n).rows
      ≡ lines_at text n.counts.permissions n.users n.words n.counts.users
  noted_lines = word_lines n.counts.users n.counts.permissions (name_there text n.users) n.words

  bytes : text ≡ sheet_text (noted text n)
  bytes =
      s.first.stands.reads
      ∙ ap (λ (l : Bytes). line_text (ascii "user" ∷ (noted text n).permissions) ++ l)
      (s.lines.stands.reads
      ∙ ap (λ (l : Bytes). text_of (lines_at text n.counts.permissions n.users n.words n.counts.users)
      ++ l) (drop-length text)
      ∙ append-nil (text_of (lines_at text n.counts.permissions n.users n.words n.counts.users))
      ∙ ap (λ (l : List Line). text_of l) (sym noted_lines))
      ∙ sym (sheet_text_lines (noted text n))

  pub noted_users : length (noted text n).users ≡ n.counts.users
  noted_users = length_list_of n.counts.users (name_there text n.users)

  pub noted_permissions : length (noted text n).permissions ≡ n.counts.permissions
  noted_permissions = length_list_of n.counts.permissions
      (name_there text n.permissions)

  pub noted_grants : length (grants (noted text n)) ≡ n.counts.grants
  noted_grants = word_grants n.counts.users n.counts.permissions n.words ∙ sym s.lines.counted

  -- the text is that sheet's
  pub noted_written : SheetWritten text (noted text n)
  noted_written =
      record {
        written = bytes;
        permissions_named = named_at text n.permissions n.counts.permissions s.first.each;
        users_named = named_at text n.users n.counts.users (λ u l. (s.lines.each u l).name);
        a_row_each = length_list_of n.counts.users (word_row n.counts.permissions n.words)
            ∙ sym noted_users;
      }

  pub noted_said : sheet_of text ≡ noted text n
  noted_said = written_sheet text (noted text n) noted_written

even_rows : (text : Bytes) (n : Notes) → LinesStand text n → (row : List Bool) → Memᴰ row (noted text n).rows
    → length row ≡ length (noted text n).permissions
even_rows text n s row m =
    let r = list_of_element n.counts.users (word_row n.counts.permissions n.words) m in
    sym (ap length r.there) ∙ length_list_of n.counts.permissions (cell n.words r.place)
    ∙ sym (noted_permissions text n s)

-- within the limits and with no name twice it keeps all rules
pub noted_keeps : (text : Bytes) (n : Notes) → SheetStands text n → repeats same_name (noted text n).users ≡ false
    → repeats same_name (noted text n).permissions ≡ false → Keeps text (noted text n)
unfolding sheet_limit permission_limit user_limit grant_limit
noted_keeps text n s users-apart permissions-apart =
    let w = noted_written text n s.stand in
    let users = noted_users text n s.stand in
    let permissions = noted_permissions text n s.stand in
    record {
      written = w.written;
      short = s.short;
      some_permission = omega (arith, permissions, s.stand.first.some_name);
      few_permissions = omega (arith, permissions, s.stand.first.few);
      some_user = omega (arith, users, s.some_user);
      few_users = omega (arith, users, s.stand.lines.few);
      permission_names = record {
        each = w.permissions_named;
        distinct = names_apart (noted text n).permissions permissions-apart;
      };
      user_names = record {
        each = w.users_named;
        distinct = names_apart (noted text n).users users-apart;
      };
      a_row_each = w.a_row_each;
      even_rows = even_rows text n s.stand;
      few_grants = omega (arith, noted_grants text n s.stand, s.few_grants);
    }
