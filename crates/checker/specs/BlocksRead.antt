-- The four readings of a book, one after the other. What follows a block is known, so where one of the blocks is
-- missing, nothing that can be said is written as this book; and where all four are there, what was read is said, and
-- is written as this book.
use Rattle.std.specs.Prelude.{ℕ, ◌≤◌, ◌<◌, ◌≡◌, refl, List, ◌++◌, drop, Option, Some, None}
use native.Mathlib.Omega.{arith}
use Rattle.std.proofs.Common.{sym, ◌∙◌}
use Rattle.std.proofs.Math.Path.{ap}
use Rattle.std.proofs.Math.ListN.{length, length-append, length-drop}
use Rattle.spec.specs.Limits.{book_limit}
use Rattle.spec.specs.Text.{ascii, Bytes}
use Rattle.spec.specs.Sheet.{Sheet}
use Rattle.spec.specs.Decimal.{decimal, number_of}
use Rattle.spec.specs.Book.{Said, text_of_blocks, Spelling, sheet_spelling, blocks_spelled}
use Rattle.spec.specs.Right.{SameNames}
use Rattle.cell_rows.specs.Rows.{cell}
use Rattle.standing.specs.StandingCases.{standing_case}
use Rattle.decimal.specs.Laws.Count.{decimal_is_count, count_is_decimal}
use Rattle.product.specs.RowAfter.{roles_in}
use Rattle.book_lines.specs.declared.counts.Counts.{Counts}
use Rattle.read_fields.specs.declared.witness_block.Witness.{Witness}
use Rattle.right.specs.WrittenLines.{Sayable}
use Rattle.form.specs.Pieces.{counts_part, roles_part, users_part, witness_texts, witness_part, book_in_parts}
use Rattle.digits.specs.Capped.{count_cap}
use Rattle.read_fields.specs.CountSteps.{CountsAt, NoCounts, counts_parts_aligned}
use Rattle.read_rows.specs.RoleSteps.{RolesPart, NoRolesPart, roles_part_once}
use Rattle.read_rows.specs.UserSteps.{UsersPart, NoUsersPart, users_parts_aligned}
use Rattle.read_fields.specs.WitnessSteps.{WitnessPart, NoWitnessPart, grants_few}
use Rattle.right.specs.Judgement.{Unwritten, WrittenAs}
use Rattle.judging.specs.declared.judgement.BookRead.{BookRead}
use Rattle.judging.specs.BookSays.{Says, BookSays}

-- blocks 1 and 2 were read
pub record FrontRead (sheet : Sheet) (book : Bytes) (counts : Counts) (gives : List ℕ) (roles next : ℕ) : Type 0 where
  pub second : ℕ
  pub counts_at : CountsAt book 0 counts second
  pub roles_at : RolesPart sheet book second gives roles next

-- all four blocks were read
pub record AllRead (sheet : Sheet) (book : Bytes) (has gives : List ℕ) (r : BookRead) : Type 0 where
  pub third : ℕ
  pub front : FrontRead sheet book r.counts gives r.roles third
  pub fourth : ℕ
  pub users : UsersPart sheet book third r.roles has fourth
  pub last : WitnessPart sheet book fourth r.witness

-- reading the four blocks
abbrev pub BlocksReads : Sheet → Bytes → List ℕ → List ℕ → Option BookRead → Type 0
BlocksReads sheet book has gives (Some r) = AllRead sheet book has gives r
BlocksReads sheet book has gives None = Unwritten sheet book

-- what a book would be that is written, in whatever case its names are spelled
record Writing (sheet : Sheet) (book : Bytes) : Type 0 where
  says : Said
  sayable : Sayable sheet says
  spelling : Spelling
  same_names : SameNames spelling (sheet_spelling sheet says)
  written : book ≡ text_of_blocks (blocks_spelled spelling says)

unwritten : {sheet : Sheet} {book : Bytes} → (Writing sheet book → ⊥) → Unwritten sheet book
unwritten none =
    record {
      none = λ says s spelling same e. none (record {
        says = says;
        sayable = s;
        spelling = spelling;
        same_names = same;
        written = e;
      });
    }

module _ (sheet : Sheet) {book : Bytes} where
  -- ---- block 1

  pub no_counts_written : NoCounts book 0 → Unwritten sheet book
  no_counts_written m =
      unwritten (λ w.
      (m (decimal w.says.count) (decimal w.says.bound) w.says.standing (decimal_is_count w.says.count)
      (decimal_is_count w.says.bound)
      ).misses _ (w.written ∙ book_in_parts w.spelling w.says))

  -- ---- block 2

  module _ {counts : Counts} {second : ℕ} (first : CountsAt book 0 counts second) where
    behind_counts : (w : Writing sheet book)
        → drop second book
        ≡ roles_part w.spelling.permissions w.says.roles.count w.says.roles.gives
        ++ (users_part w.spelling.users w.says.roles.count w.says.roles.has ++ witness_part
        w.spelling.witness)
    behind_counts w =
        (counts_parts_aligned first.role_digits first.bound_digits (standing_case counts.standing)
        (decimal w.says.count)
        (decimal w.says.bound) w.says.standing first.roles.count first.bound.count
        (decimal_is_count w.says.count)
        (decimal_is_count w.says.bound)).rest (drop second book) _
        (sym first.reads.reads ∙ w.written ∙ book_in_parts w.spelling w.says)

    pub no_roles_written : NoRolesPart sheet book second → Unwritten sheet book
    no_roles_written m =
        unwritten (λ w.
        (m w.spelling.permissions w.same_names.permissions w.says.roles.count w.says.roles.gives
        w.sayable.few_roles).misses _ (behind_counts w))

  -- ---- block 3

  module _ {counts : Counts} {gives : List ℕ} {roles third : ℕ} (front : FrontRead sheet book counts gives roles
      third) where
    behind_roles : (w : Writing sheet book)
        → (roles ≡ w.says.roles.count)
        × (drop third book ≡ users_part w.spelling.users w.says.roles.count w.says.roles.has
        ++ witness_part w.spelling.witness)
    behind_roles w =
        let read = front.roles_at in
        roles_part_once read.names w.spelling.permissions (read.same ∙ sym w.same_names.permissions)
        (cell gives) w.says.roles.gives roles w.says.roles.count (drop third book) _
        (sym read.reads.reads ∙ behind_counts front.counts_at w)

    pub no_users_written : NoUsersPart sheet book third roles → Unwritten sheet book
    no_users_written m =
        unwritten (λ w.
        let b = behind_roles w in
        (m w.spelling.users w.same_names.users w.says.roles.has).misses (witness_part
        w.spelling.witness) (rw b.0 b.1))

    -- ---- block 4

    module _ (has : List ℕ) {fourth : ℕ} (users : UsersPart sheet book third roles has fourth) where
      behind_users : (w : Writing sheet book) → drop fourth book ≡ witness_part w.spelling.witness
      behind_users w =
          let b = behind_roles w in
          (users_parts_aligned users.names w.spelling.users (users.same ∙ sym w.same_names.users) roles
          (cell has) w.says.roles.has).rest (drop fourth book) (witness_part w.spelling.witness)
          (sym users.reads.reads ∙ rw b.0 b.1)

      pub no_witness_written : NoWitnessPart sheet book fourth → Unwritten sheet book
      no_witness_written m =
          unwritten (λ w.
          m.none w.says.witness
          (λ g k. record { user = w.sayable.known_users g k; permission = w.sayable.known_permissions g k })
          w.spelling.witness w.same_names.witness (behind_users w))

      -- ---- all four

      module _ {w : Witness} (last : WitnessPart sheet book fourth w) where
        -- what was read
        abbrev pub said_read : Said
        said_read =
            record {
              count = number_of front.counts_at.role_digits;
              bound = number_of front.counts_at.bound_digits;
              standing = standing_case counts.standing;
              roles = roles_in has gives roles;
              witness = last.grants;
            }

        -- the names as they stand in the book
        abbrev spelling_read : Spelling
        spelling_read =
            record {
              permissions = front.roles_at.names;
              users = users.names;
              witness = last.lines;
            }

        in_parts : book ≡ text_of_blocks (blocks_spelled spelling_read said_read)
        in_parts =
            front.counts_at.reads.reads
            ∙ ap (λ (l : Bytes). counts_part front.counts_at.role_digits front.counts_at.bound_digits
            (standing_case counts.standing) ++ l)
            (front.roles_at.reads.reads
            ∙ ap (λ (l : Bytes). roles_part front.roles_at.names roles (cell gives) ++ l)
            (users.reads.reads ∙ ap (λ (l : Bytes). users_part users.names roles (cell has) ++ l) last.there))
            ∙ sym
            (book_in_parts spelling_read said_read
            ∙ rw (
              count_is_decimal front.counts_at.role_digits front.counts_at.roles.count,
              count_is_decimal front.counts_at.bound_digits front.counts_at.bound.count,
            ))

        few_lines : length book ≤ book_limit → length last.grants < count_cap
        unfolding count_cap
        few_lines h =
            omega (
              arith,
              grants_few sheet last.grants last.lines last.same,
              length-append (ascii "user,permission\n") (witness_texts last.lines),
              ap length last.there,
              length-drop fourth book,
            )

        pub read_is_written : length book ≤ book_limit → WrittenAs sheet book said_read
        read_is_written h =
            record {
              spelling = spelling_read;
              same_names = record {
                permissions = front.roles_at.same;
                users = users.same;
                witness = last.same;
              };
              written = in_parts;
              sayable =
                  record {
                    few_roles = front.roles_at.few;
                    known_users = λ g m. (last.known g m).user;
                    known_permissions = λ g m. (last.known g m).permission;
                  };
              short = h;
            }

        pub read_is_said : length book ≤ book_limit → Says sheet counts roles has gives w said_read
        read_is_said h =
            record {
              role_number = front.counts_at.roles.number;
              bound_number = front.counts_at.bound.number;
              standing = refl;
              matrices = refl;
              few = front.roles_at.few;
              beyond = front.roles_at.beyond;
              collects = last.collects;
              known = last.known;
              few_lines = few_lines h;
            }

        pub something_said : length book ≤ book_limit → BookSays sheet counts roles has gives w
        something_said h = record { says = said_read; said = read_is_said h }
