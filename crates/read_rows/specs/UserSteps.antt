-- Reading block 3: the roles are known from block 2, and the users from the sheet but for the case in which they are
-- spelled. So only that and the cells are open, and what follows the block is known.
use Rattle.std.specs.Prelude.{ℕ, suc, ◌+◌, ◌≤◌, ◌<◌, ◌≡◌, refl, Bool, false, List, [], ◌∷◌, ◌++◌, map, length, get_or, take}
use Rattle.std.specs.Prelude.{Option, Some, None}
use Rattle.std.proofs.Common.{add-one, arith, sym, ap, ◌∙◌, take_all, take-suc, get_or-take, length-take-le}
use Rattle.std.proofs.lemmas.List.{map-append, length-map, get_or_at}
use Rattle.std.proofs.Math.ListN.{get_or-map, get_or-append}
use Rattle.spec.specs.Text.{Bytes, lowered}
use Rattle.spec.specs.Sheet.{Sheet, user_count}
use Rattle.text.specs.Line.{line_end}
use Rattle.text.specs.Laws.Lowered.{lowered_length}
use Rattle.steps.specs.Laws.Aligned.{Aligned, aligned_same, aligned_length, aligned_then, aligned_listed}
use Rattle.cell_rows.specs.Rows.{row_bits, cell}
use Rattle.steps.specs.Stands.{Stands}
use Rattle.steps.specs.Steps.{Misses}
use Rattle.steps.specs.Spelled.{SpelledAt, NotSpelled}
use Rattle.steps.specs.Laws.Stands.{stands_then}
use Rattle.steps.specs.Laws.Step.{misses_first, misses_second, misses_after, misses_next}
use Rattle.right.specs.Spelling.{spells_length, spells_at}
use Rattle.form.specs.Pieces.{row_text, named_text, named_texts, users_heading, users_part}
use Rattle.form.specs.LineSteps.{LineRead, named_aligned}
use Rattle.cells_read.specs.RowGrown.{Blank}
use Rattle.form.specs.RowSteps.{AllBlank, LinesBelow, lines_start, lines_more, lines_renamed}

-- the lines of users of these names
abbrev pub user_texts : List Bytes → ℕ → (ℕ → ℕ → Bool) → Bytes
user_texts names roles has = named_texts (λ u. get_or names u []) roles has (length names)

-- the lines of the users below u have been read, their names spelled in whatever case
pub record UsersBelow (users : List Bytes) (text : Bytes) (at roles : ℕ) (words : List ℕ) (u next : ℕ) : Type 0 where
  pub names : List Bytes
  pub same : map lowered names ≡ take u (map lowered users)
  pub lines : LinesBelow text at (λ i. get_or names i []) roles words u next

-- no lines of all users stand at a place
abbrev pub NoUsers : List Bytes → Bytes → ℕ → ℕ → Type 0
NoUsers users text at roles =
    (names : List Bytes) → map lowered names ≡ map lowered users → (has : ℕ → ℕ → Bool)
    → Misses text at (user_texts names roles has)

-- a step over the lines of all users
abbrev pub UserLinesRead : Sheet → Bytes → ℕ → ℕ → List ℕ → Option ℕ → Type 0
UserLinesRead sheet text at roles words (Some next) =
    UsersBelow sheet.users text at roles words (user_count sheet) next
UserLinesRead sheet text at roles words None = NoUsers sheet.users text at roles

-- block 3 was read into rows of words, which have nothing else; its users are the sheet's in whatever case
pub record UsersPart (sheet : Sheet) (text : Bytes) (at roles : ℕ) (words : List ℕ) (next : ℕ) : Type 0 where
  pub names : List Bytes
  pub same : map lowered names ≡ map lowered sheet.users
  pub reads : Stands text at (users_part names roles (cell words)) next
  pub beyond : (u r : ℕ) → u < user_count sheet → roles ≤ r → r < row_bits → cell words u r ≡ false
  pub blank : (u : ℕ) → user_count sheet ≤ u → Blank words u

-- no block 3 stands at a place
abbrev pub NoUsersPart : Sheet → Bytes → ℕ → ℕ → Type 0
NoUsersPart sheet text at roles =
    (names : List Bytes) → map lowered names ≡ map lowered sheet.users → (has : ℕ → ℕ → Bool)
    → Misses text at (users_part names roles has)

-- a step over block 3 and the empty line behind it; where there is none, the rows have nothing
abbrev pub UsersReads : Sheet → Bytes → ℕ → ℕ → List ℕ → Option ℕ → Type 0
UsersReads sheet text at roles words (Some next) = UsersPart sheet text at roles words next
UsersReads sheet text at roles words None = NoUsersPart sheet text at roles × AllBlank words

-- ---- line after line

pub users_start : (users : List Bytes) {text : Bytes} {at : ℕ} (roles : ℕ) {words : List ℕ} → at ≤ length text
    → AllBlank words
    → UsersBelow users text at roles words 0 at
users_start users roles h b = record { names = []; same = refl; lines = lines_start (λ i. get_or [] i []) roles h b }

-- of the users below u there are as many names
names_counted : (users names : List Bytes) (u : ℕ) → u ≤ length users → map lowered names ≡ take u (map lowered users)
    → length names ≡ u
names_counted users names u h same =
    sym (length-map names lowered) ∙ ap length same
    ∙ length-take-le u (map lowered users) (rw (length-map users lowered) h)

-- the name of a user below u is as long as any that is equal
names_as_long : (users names others : List Bytes) (u i : ℕ) → i < u → map lowered names ≡ take u (map lowered users)
    → map lowered others ≡ map lowered users → length (get_or names i []) ≡ length (get_or others i [])
names_as_long users names others u i h same equal =
    lowered_length (get_or names i []) (get_or others i [])
    (sym (get_or-map lowered names i [])
    ∙ ap (λ (l : List Bytes). get_or l i []) same
    ∙ get_or-take u (map lowered users) i [] h
    ∙ ap (λ (l : List Bytes). get_or l i []) (sym equal)
    ∙ get_or-map lowered others i [])

module _ {users : List Bytes} {text : Bytes} {at roles u next : ℕ} {words : List ℕ}
    (b : UsersBelow users text at roles words u next) (more : u < length users) where
  -- the next user's name and cells are there
  pub users_more : {cells last : ℕ} {after : List ℕ} → roles ≤ row_bits → SpelledAt text next (get_or users u []) cells
      → LineRead text cells u roles words after last
      → UsersBelow users text at roles after (u + 1) last
  users_more h s l =
      record {
        names = all;
        same = rw (add-one u) (map-append lowered b.names (s.spelled ∷ []) ∙ rw (b.same, s.same) (sym next_user));
        lines = lines_more h
            (lines_renamed (λ i. get_or b.names i []) (λ i. get_or all i [])
            (λ i k. sym (get_or-append b.names (s.spelled ∷ []) [] i (rw counted k))) b.lines)
            (rw (get_or_at b.names s.spelled [] [] u counted) s.reads) l;
      }
    where
      all : List Bytes
      all = b.names ++ s.spelled ∷ []

      next_user : take (suc u) (map lowered users) ≡ take u (map lowered users) ++ lowered (get_or users u []) ∷ []
      next_user =
          take-suc (map lowered users) u [] (rw (length-map users lowered) more) ∙ rw (get_or-map lowered users u [])

      counted : length b.names ≡ u
      counted = names_counted users b.names u (omega arith) b.same

  -- the next user's line is missing, however it spells the name
  line_missing : ((name : Bytes) → lowered name ≡ lowered (get_or users u []) → (cells : ℕ → Bool)
      → Misses text next (named_text name roles cells)) → NoUsers users text at roles
  line_missing m names equal has =
      misses_next u (length names) (λ i. named_text (get_or b.names i []) roles (cell words i))
      (λ i. named_text (get_or names i []) roles (has i)) (rw (spells_length names users equal) more)
      (λ i k. named_aligned (get_or b.names i []) (get_or names i []) (names_as_long users b.names names u i k
      b.same equal) roles (cell words i) (has i)) b.lines.reads
      (m (get_or names u []) (spells_at names users equal u) (has u))

  -- the next user's name is missing
  pub no_user_name : NotSpelled text next (get_or users u []) → NoUsers users text at roles
  no_user_name m = line_missing (λ name same cells. misses_first (row_text roles cells) (m name same))

  -- the cells behind it are missing
  pub no_user_cells : {mid : ℕ} → SpelledAt text next (get_or users u []) mid
      → ((cells : ℕ → Bool) → Misses text mid (row_text roles cells)) → NoUsers users text at roles
  no_user_cells s m =
      line_missing (λ name same cells. misses_after (row_text roles cells) s.reads (aligned_length s.spelled name
      (lowered_length s.spelled name (s.same ∙ sym same))) (m cells))

-- ---- block 3

user_texts_aligned : (names others : List Bytes) → map lowered names ≡ map lowered others → (roles : ℕ)
    (f g : ℕ → ℕ → Bool)
    → Aligned (user_texts names roles f) (user_texts others roles g)
user_texts_aligned names others same roles f g =
    rw (spells_length names others same)
    (aligned_listed (length others) (λ i. named_text (get_or names i []) roles (f i))
    (λ i. named_text (get_or others i []) roles (g i))
    (λ i h. named_aligned (get_or names i []) (get_or others i []) (lowered_length (get_or names i []) (get_or others i [])
    (spells_at names others same i)) roles (f i) (g i)))

pub no_users_heading : (sheet : Sheet) (roles : ℕ) {text : Bytes} {at : ℕ} → Misses text at (users_heading roles)
    → NoUsersPart sheet text at roles
no_users_heading sheet roles m names same has = misses_first (user_texts names roles has ++ line_end) m

module _ (sheet : Sheet) (roles : ℕ) {text : Bytes} {at lines : ℕ} (heading : Stands text at (users_heading roles)
    lines) where
  pub no_user_lines : NoUsers sheet.users text lines roles → NoUsersPart sheet text at roles
  no_user_lines m names same has =
      misses_second (user_texts names roles has ++ line_end) heading (misses_first line_end (m names same has))

  module _ {end : ℕ} {words : List ℕ} (all : UsersBelow sheet.users text lines roles words (user_count sheet) end)
    where
      same : map lowered all.names ≡ map lowered sheet.users
      same =
          all.same
          ∙ take_all (user_count sheet) (map lowered sheet.users) (omega (arith, length-map sheet.users lowered))

      reads : Stands text lines (user_texts all.names roles (cell words)) end
      reads = rw (spells_length all.names sheet.users same) all.lines.reads

      pub users_then_end : {next : ℕ} → Stands text end line_end next → UsersPart sheet text at roles words next
      users_then_end p =
          record {
            names = all.names;
            same = same;
            reads = stands_then heading (stands_then reads p);
            beyond = all.lines.beyond;
            blank = all.lines.blank;
          }

      pub no_users_end : Misses text end line_end → NoUsersPart sheet text at roles
      no_users_end m names equal has =
          misses_second (user_texts names roles has ++ line_end) heading
          (misses_after line_end reads (user_texts_aligned all.names names (same ∙ sym equal) roles (cell words) has)
          m)

-- whatever block 3 says and however it spells the users, the same follows
pub users_parts_aligned : (names others : List Bytes) → map lowered names ≡ map lowered others → (roles : ℕ)
    (f g : ℕ → ℕ → Bool)
    → Aligned (users_part names roles f) (users_part others roles g)
users_parts_aligned names others same roles f g =
    aligned_then (aligned_same (users_heading roles))
    (aligned_then (user_texts_aligned names others same roles f g) (aligned_same line_end))
