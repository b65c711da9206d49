-- What request [6] of document 02 promises of a newcomer in an existing book. No test is involved but the checker
-- itself, in `confirmed_by_check`: what the two sheets are is said by `Rules`, and what the two books say by `Right`.
use Rattle.std.specs.Prelude.{◌≤◌, ◌<◌, ◌≡◌, ◌≢◌, ◌⊎◌, ◌↔◌, ◌∷◌, ◌++◌}
use Rattle.spec.specs.Vocabulary.{ℕ, suc, Bool, So, false, List, []}
use Rattle.spec.specs.Vocabulary.{map, length, take}
use Rattle.spec.specs.Text.{Bytes, line_text}
use Rattle.spec.specs.Sheet.{Sheet, cell_text, permission_count, holds}
use Rattle.spec.specs.Rules.{Keeps}
use Rattle.spec.specs.RoleSet.{RoleSet, Multiplies}
use Rattle.spec.specs.Roles.{witnessed, searched, unsettled}
use Rattle.spec.specs.Book.{Said, book_text}
use Rattle.spec.specs.Right.{Right}
use Rattle.spec.specs.Calls.{WriteAnswer, check, check_counts}
use Rattle.spec.specs.Newcomer.{Admission, longer, given_sheet, longer_sheet, newcomer, Admits}

-- a sheet with one user more, who is the last
abbrev pub with_user : Sheet → Bytes → List Bool → Sheet
with_user sheet name row =
    record {
      users = sheet.users ++ name ∷ [];
      permissions = sheet.permissions;
      rows = sheet.rows ++ row ∷ [];
    }

-- every role set with this sheet for product has at least n roles
abbrev pub AtLeast : ℕ → Sheet → Type 0
AtLeast n sheet = (roles : RoleSet) → Multiplies roles sheet → n ≤ roles.count

-- where a book says `witnessed` or `searched`, every role set has at least as many roles as the book
abbrev pub WordTrue : Said → Sheet → Type 0
WordTrue says sheet = (says.standing ≡ witnessed) ⊎ (says.standing ≡ searched) → AtLeast says.count sheet

-- user u of a sheet holds all permissions of role r
abbrev pub HoldsAll : Sheet → ℕ → RoleSet → ℕ → Type 0
HoldsAll sheet u roles r = (p : ℕ) → p < permission_count sheet → So (roles.gives r p) → So (holds sheet u p)

-- user u holds permission p, and it is in none of the roles of which they hold all permissions
pub record LeftOver (sheet : Sheet) (u : ℕ) (roles : RoleSet) (p : ℕ) : Type 0 where
  pub within : p < permission_count sheet
  pub held : So (holds sheet u p)
  pub in_none : (r : ℕ) → r < roles.count → HoldsAll sheet u roles r → roles.gives r p ≡ false

-- no permission is left over, there is no new role, and the state word and bound are kept
pub record NoNewRole (sheet : Sheet) (u : ℕ) (before after : Said) : Type 0 where
  pub none_left : (p : ℕ) → LeftOver sheet u before.roles p → ⊥
  pub count : after.roles.count ≡ before.roles.count
  pub standing : after.standing ≡ before.standing
  pub bound : after.bound ≡ before.bound

-- some permission is left over, one new role holds exactly those that are, and of all users only u has it; the state
-- is `open` and the bound is the witness count
pub record OneNewRole (sheet : Sheet) (u : ℕ) (before after : Said) : Type 0 where
  pub left : ℕ
  pub some_left : LeftOver sheet u before.roles left
  pub count : after.roles.count ≡ suc before.roles.count
  pub exactly : (p : ℕ) → p < permission_count sheet
      → So (after.roles.gives before.roles.count p) ↔ LeftOver sheet u before.roles p
  pub has_new : So (after.roles.has u before.roles.count)
  pub only_theirs : (v : ℕ) → v < u → after.roles.has v before.roles.count ≡ false
  pub standing : after.standing ≡ unsettled
  pub bound : after.bound ≡ length before.witness

-- what is owed of the new book
pub record Admitted (lent : Admission) (result : Bytes) : Type 0 where
  -- the given sheet keeps all rules; the line is a name and cells; the longer sheet is the given one with that user
  -- last, and keeps all rules too
  pub given_kept : Keeps lent.sheet (given_sheet lent)
  pub name : Bytes
  pub row : List Bool
  pub line_written : lent.line ≡ line_text (name ∷ map cell_text row)
  pub longer_is : longer_sheet lent ≡ with_user (given_sheet lent) name row
  pub longer_kept : Keeps (longer lent) (longer_sheet lent)
  -- what the given book says, and what the new one says
  pub before : Said
  pub after : Said
  pub given_right : Right (given_sheet lent) lent.book before
  -- the new book is right for the longer sheet: so its product is the longer sheet, and it has at most 131,072 bytes.
  -- Its names are spelled as in that sheet, and the checker accepts it
  pub right : Right (longer_sheet lent) result after
  pub written : result ≡ book_text (longer_sheet lent) after
  pub confirmed_by_check : check (longer lent) result ≡ check_counts after
  -- earlier users have the roles that they had, earlier roles their permissions, and the witness its lines
  pub same_roles : (u r : ℕ) → u < newcomer lent → r < before.roles.count
      → after.roles.has u r ≡ before.roles.has u r
  pub same_permissions : (r p : ℕ) → r < before.roles.count → p < permission_count (longer_sheet lent)
      → after.roles.gives r p ≡ before.roles.gives r p
  pub same_witness : after.witness ≡ before.witness
  -- the newcomer has each earlier role whose permissions they all hold, and no other
  pub theirs : (r : ℕ) → r < before.roles.count
      → So (after.roles.has (newcomer lent) r) ↔ HoldsAll (longer_sheet lent) (newcomer lent) before.roles r
  -- and one new role, if permissions are left over
  pub new_role : NoNewRole (longer_sheet lent) (newcomer lent) before after
      ⊎ OneNewRole (longer_sheet lent) (newcomer lent) before after
  -- if every role set of the sheet has at least n roles then every one of the longer sheet has
  pub at_least : (n : ℕ) → AtLeast n (given_sheet lent) → AtLeast n (longer_sheet lent)
  -- so bound and state word are as true as they were, whatever the given book is taken to say
  pub bound_true : (says : Said) → Right (given_sheet lent) lent.book says
      → AtLeast says.bound (given_sheet lent) → AtLeast after.bound (longer_sheet lent)
  pub word_true : (says : Said) → Right (given_sheet lent) lent.book says
      → WordTrue says (given_sheet lent) → WordTrue after (longer_sheet lent)
  -- and every role set has at least as many roles as there are witness lines, whoever wrote the given book
  pub witness_true : AtLeast (length after.witness) (longer_sheet lent)

-- what is owed of the call. An accepted one brings out such a book; where there is such a book and room for it, the
-- call is accepted and brings out that one, byte for byte; and no buffer of 131,072 bytes is too short
pub record NewcomerOwed : Type 0 where
  pub admitted : (lent : Admission) (before after : Bytes) (answer : WriteAnswer) → Admits lent before answer after
      → answer.number ≡ 0 → Admitted lent (take answer.count after)
  pub exactly : (lent : Admission) (before after : Bytes) (answer : WriteAnswer) → Admits lent before answer after
      → (result : Bytes) → Admitted lent result → length result ≤ length before
      → (answer.number ≡ 0) × (take answer.count after ≡ result)
  pub room : (lent : Admission) (before after : Bytes) (answer : WriteAnswer) → Admits lent before answer after
      → 131_072 ≤ length before → answer.number ≢ 11
