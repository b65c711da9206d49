-- Reading a witness line: a user's name up to the comma, then a permission's name up to the line feed, each in whatever
-- case. Neither byte stands in a name, so a line stands in a text in one way at most.
use Rattle.std.specs.Prelude.{ℕ, ◌<◌, ◌≡◌, refl, [], ◌∷◌, ◌++◌, eqb, Option, Some, None}
use Rattle.std.proofs.Common.{append_assoc}
use Rattle.spec.specs.Text.{Bytes, Line, comma, line_feed, lowered, line_text}
use Rattle.spec.specs.Sheet.{Sheet, Grant, user_count, permission_count, user_name, permission_name}
use Rattle.steps.specs.Laws.Aligned.{Aligned, aligned_then, ended_aligned}
use Rattle.rules.specs.AcceptedFacts.{Lawful, name_field}
use Rattle.read_fields.specs.declared.witness_block.WitnessLine.{WitnessLine}
use Rattle.steps.specs.Stands.{Stands}
use Rattle.steps.specs.Steps.{Misses}
use Rattle.steps.specs.Laws.Step.{misses_first, misses_after}
use Rattle.steps.specs.Laws.Stands.{stands_then}
use Rattle.text.specs.Laws.Text.{Field}
use Rattle.text.specs.Laws.Lowered.{field_respelled}
use Rattle.right.specs.Spelling.{SpelledLine}
use Rattle.read_fields.specs.NameSteps.{name_text, NameAt, NoName}
use Rattle.read_fields.specs.WitnessList.{named_grant}

-- a grant of the sheet's users and permissions
pub record Known (sheet : Sheet) (g : Grant) : Type 0 where
  pub user : g.user < user_count sheet
  pub permission : g.permission < permission_count sheet

-- ---- one line

-- a line was read, its names spelled in some case
pub record WitnessAt (sheet : Sheet) (text : Bytes) (at : ℕ) (line : WitnessLine) (next : ℕ) : Type 0 where
  pub known : Known sheet (named_grant line)
  pub fields : Line
  pub spelled : SpelledLine sheet (named_grant line) fields
  pub reads : Stands text at (line_text fields) next

-- no line stands at a place, in whatever case its names are spelled
abbrev pub NoWitness : Sheet → Bytes → ℕ → Type 0
NoWitness sheet text at =
    (g : Grant) → Known sheet g → (fields : Line) → SpelledLine sheet g fields → Misses text at (line_text fields)

-- a step over a line
abbrev pub WitnessReads : Sheet → Bytes → ℕ → Option (WitnessLine × ℕ) → Type 0
WitnessReads sheet text at (Some (line, next)) = WitnessAt sheet text at line next
WitnessReads sheet text at None = NoWitness sheet text at

-- the two fields of a line, each with the byte that ends it
line_in_fields : (user permission : Bytes)
    → line_text (user ∷ permission ∷ []) ≡ name_text user comma ++ name_text permission line_feed
line_in_fields user permission = simp append_assoc

module _ (sheet : Sheet) (lawful : Lawful sheet) where
  -- neither a comma nor a line feed stands in a name of the sheet, in whatever case it is spelled
  user_field : (i : ℕ) → i < user_count sheet → (name : Bytes) → lowered name ≡ lowered (user_name sheet i)
      → Field name
  user_field i h name same = field_respelled same (name_field (user_name sheet i) (lawful.user_name i h))

  permission_field : (i : ℕ) → i < permission_count sheet → (name : Bytes)
      → lowered name ≡ lowered (permission_name sheet i)
      → Field name
  permission_field i h name same =
      field_respelled same (name_field (permission_name sheet i) (lawful.permission_name i h))

  -- two users that stand in a text in one place are followed by the same
  users_aligned : (i j : ℕ) → i < user_count sheet → j < user_count sheet → (a b : Bytes)
      → lowered a ≡ lowered (user_name sheet i) → lowered b ≡ lowered (user_name sheet j)
      → Aligned (name_text a comma) (name_text b comma)
  users_aligned i j h k a b p q =
      ended_aligned (eqb comma) comma refl a b (user_field i h a p).no_comma (user_field j k b q).no_comma

  -- two lines that stand in a text in one place are followed by the same
  pub lines_aligned : {g h : Grant} {l m : Line} → Known sheet g → Known sheet h → SpelledLine sheet g l
      → SpelledLine sheet h m
      → Aligned (line_text l) (line_text m)
  lines_aligned {g} {h} p q a b =
      rw (
        a.fields,
        b.fields,
        line_in_fields a.user a.permission,
        line_in_fields b.user b.permission,
      )
      (aligned_then
      (users_aligned g.user h.user p.user q.user a.user b.user a.same_user b.same_user)
      (ended_aligned (eqb line_feed) line_feed refl a.permission b.permission
      (permission_field g.permission p.permission a.permission a.same_permission).no_line_feed
      (permission_field h.permission q.permission b.permission b.same_permission).no_line_feed))

  module _ {text : Bytes} {at : ℕ} where
    pub no_user : NoName sheet.users text at comma → NoWitness sheet text at
    no_user off g k fields l =
        rw (l.fields, line_in_fields l.user l.permission)
        (misses_first (name_text l.permission line_feed)
        (off g.user k.user l.user l.same_user
        (user_field g.user k.user l.user l.same_user).no_comma))

    module _ {i start : ℕ} (user : NameAt sheet.users text at comma i start) where
      pub no_permission : NoName sheet.permissions text start line_feed → NoWitness sheet text at
      no_permission off g k fields l =
          rw (l.fields, line_in_fields l.user l.permission)
          (misses_after (name_text l.permission line_feed) user.reads
          (users_aligned i g.user user.within k.user user.spelled l.user user.same l.same_user)
          (off g.permission k.permission l.permission l.same_permission
          (permission_field g.permission k.permission l.permission l.same_permission).no_line_feed))

      pub witness_at : {j next : ℕ} → NameAt sheet.permissions text start line_feed j next
          → WitnessAt sheet text at (record { user = record { 0 = i }; permission = record { 0 = j } }) next
      witness_at {j} permission =
          record {
            known = record { user = user.within; permission = permission.within };
            fields = user.spelled ∷ permission.spelled ∷ [];
            spelled = record {
              user = user.spelled;
              permission = permission.spelled;
              fields = refl;
              same_user = user.same;
              same_permission = permission.same;
            };
            reads = rw (line_in_fields user.spelled permission.spelled)
                (stands_then user.reads permission.reads);
          }
