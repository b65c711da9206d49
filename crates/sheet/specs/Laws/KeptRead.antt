-- A sheet whose lines were read in one pass, within all limits and with no name twice, is accepted, and what was
-- noted is its layout and its rows. Assumes nothing.
use Rattle.std.specs.Prelude.{ℕ, zero, suc, ◌<◌, ◌≡◌, refl, Bool, not, ◌&&◌, drop}
use Rattle.std.proofs.Common.{arith, sym, ap, ◌∙◌, eqb-true}
use Rattle.std.proofs.Math.Bool.{So}
use mathlib.Core.List.{List, [], ◌∷◌, ◌++◌, append-nil, Memᴰ}
use Rattle.std.proofs.lemmas.Bool.{not-true}
use Rattle.std.proofs.Math.Seq.{drop-length}
use Rattle.spec.specs.Vocabulary.{repeats}
use Rattle.spec.specs.Text.{Bytes, lines_of, text_of, same_name}
use Rattle.spec.specs.Sheet.{sheet_of}
use Rattle.spec.specs.Rules.{Keeps}
use Rattle.spec.specs.Refusal.{refusal, accepted}
use Rattle.bits.specs.Truth.{and_left, and_right}
use Rattle.places.specs.Places.{from_at}
use Rattle.text.specs.Laws.Text.{Lines, read_as_written, read_lines}
use Rattle.rules.specs.WrittenLaws.{written_lines}
use Rattle.rules.specs.Accepted.{accepts_sheets}
use Rattle.names.specs.LaidOut.{LaidOut}
use Rattle.cells.specs.RowsRead.{RowsRead}
use Rattle.sheet.specs.UserLines.{lines_at}
use Rattle.sheet.specs.OnlyNames.{OnlyNames}
use Rattle.cells.specs.Laws.WordRows.{word_rows_read}
use Rattle.sheet.specs.KeptSheet.{Notes, LinesStand, SheetStands}
use Rattle.sheet.specs.Laws.KeptSheet.{noted, users_placed, permissions_placed, noted_lines, noted_grants}
use Rattle.sheet.specs.Laws.KeptSheet.{noted_users, noted_permissions, noted_written, noted_said, noted_keeps}
use Rattle.names.specs.declared.layout.Layout.{Layout}

-- what is left of a list are elements of it
left_member : {A : Type 0} (n : ℕ) (l : List A) {a : A} → Memᴰ a (drop n l) → Memᴰ a l
left_member zero l m = m
left_member (suc n) [] m = m
left_member (suc n) (b ∷ l) m = Memᴰ.tail (left_member n l m)

-- ---- where the lines of users start

module _ (text : Bytes) (n : Notes) (s : LinesStand text n) where
  later_lines : (u : ℕ)
      → drop (suc u) (lines_of text) ≡ drop u (lines_at text n.counts.permissions n.users n.words
      n.counts.users)
  later_lines u = ap (drop (suc u)) (written_lines text (noted text n) (noted_written text n s))
      ∙ ap (drop u) (noted_lines text n s)

  lines_there : (u : ℕ) → Lines (drop u (lines_at text n.counts.permissions n.users n.words
      n.counts.users))
  lines_there u line m = read_lines text line (left_member (suc u) (lines_of text) (rw (later_lines u) m))

  from_line : (u : ℕ) → u < n.counts.users → lines_of (drop (from_at n.users u) text) ≡ drop (suc u)
      (lines_of text)
  from_line u h =
      ap (λ (t : Bytes). lines_of t)
      (s.lines.starts u h
      ∙ ap (λ (l : Bytes). text_of (drop u (lines_at text n.counts.permissions n.users n.words
      n.counts.users)) ++ l) (drop-length text)
      ∙ append-nil (text_of (drop u (lines_at text n.counts.permissions n.users n.words
      n.counts.users))))
      ∙ read_as_written (drop u (lines_at text n.counts.permissions n.users n.words n.counts.users))
      (lines_there u)
      ∙ sym (later_lines u)

-- ---- what was read

-- notes as a layout
abbrev pub layout_of : Notes → Layout
layout_of n =
    record {
      users = n.counts.users;
      permissions = n.counts.permissions;
      grants = n.counts.grants;
      user_places = record { at = n.users };
      permission_places = record { at = n.permissions };
    }

-- the sheet is accepted, and this is its layout and these are its rows
pub record KeptAs (text : Bytes) (layout : Layout) (words : List ℕ) : Type 0 where
  pub unrefused : refusal text ≡ 0
  pub laid_out : LaidOut text layout
  pub only_names : OnlyNames layout
  pub rows : RowsRead words (sheet_of text)

-- no name stands twice
abbrev pub apart : Bytes → Notes → Bool
apart text n = not (repeats same_name (noted text n).users) && not (repeats same_name (noted text n).permissions)

keeps_as : (text : Bytes) (n : Notes) → LinesStand text n → Keeps text (noted text n) → KeptAs text (layout_of n)
    n.words
keeps_as text n s keeps =
    record {
      unrefused = eqb-true (refusal text) 0 accepts;
      laid_out = laid_out;
      only_names = record {
        users_end = s.lines.unnoted;
        permissions_end = s.first.unnoted;
        permissions_run =
            s.first.run;
      };
      rows = rows;
    }
  where
    accepts : So (accepted text)
    accepts = (accepts_sheets text).1 (noted text n, keeps)

    rows : RowsRead n.words (sheet_of text)
    rows =
        rw (noted_said text n s)
        (word_rows_read n.counts.users n.counts.permissions n.words (λ u l. (s.lines.each u l).narrow)
        s.lines.beyond
        (noted text n) refl
        (noted_users text n s))

    laid_out : LaidOut text (layout_of n)
    laid_out =
        record {
          accepts = accepts;
          user_total = rw (noted_said text n s) (sym (noted_users text n s));
          permission_total = rw (noted_said text n s) (sym (noted_permissions text n s));
          grant_total = rw (noted_said text n s) (sym (noted_grants text n s));
          user_names = rw (noted_said text n s) (users_placed text n s);
          permission_names = rw (noted_said text n s) (permissions_placed text n s);
          user_lines = λ u l. from_line text n s u (omega (arith, rw (noted_said text n s) at l, noted_users text n s));
        }

pub kept_read : (text : Bytes) (n : Notes) → SheetStands text n → So (apart text n) → KeptAs text (layout_of n)
    n.words
kept_read text n s p =
    let again : Bool = repeats same_name (noted text n).users in
    let twice : Bool = repeats same_name (noted text n).permissions in
    keeps_as text n s.stand
    (noted_keeps text n s (not-true again (and_left (not again) (not twice) p))
    (not-true twice (and_right (not again) (not twice) p)))
