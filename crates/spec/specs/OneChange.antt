-- Request [7] of document 02, one person moves one role: the smallest role count of a sheet; two sheets with the same
-- names that differ only in one user's line, or only in one permission's column; what a book prints; and what is
-- promised of all these. What smallest means is said over all role sets, with no search.
use Rattle.std.specs.Prelude.{◌≤◌, ◌<◌, ◌≡◌, ◌≢◌, ◌⊎◌, ◌∷◌, ◌++◌}
use Rattle.spec.specs.Vocabulary.{ℕ, suc, false, some, List, map}
use Rattle.spec.specs.Text.{Bytes, lowered, text_of}
use Rattle.spec.specs.Sheet.{Sheet, sheet_of, user_count, permission_count, holds}
use Rattle.spec.specs.Rules.{Keeps}
use Rattle.spec.specs.RoleSet.{RoleSet, Multiplies}
use Rattle.spec.specs.Roles.{Standing, witnessed, searched}
use Rattle.spec.specs.Book.{counts_block}
use Rattle.spec.specs.Session.{Session}
use Rattle.spec.specs.Admitted.{AtLeast}
use Rattle.spec.specs.Sequence.{write, WriteOutcome, Event, Led, calls, last_accepted, brought_out}

-- n is the smallest role count of a sheet: some role set with that product has n roles, and none has fewer
pub record SmallestCount (n : ℕ) (sheet : Sheet) : Type 0 where
  pub roles : RoleSet
  pub product : Multiplies roles sheet
  pub counted : roles.count ≡ n
  pub none_fewer : AtLeast n sheet

-- ---- one change

-- two sheets with the same names: as many permissions and as many users, each name equal, with `A-Z` read as `a-z`, to
-- the one at its place
pub record NamesAgree (sheet other : Sheet) : Type 0 where
  pub permissions : map lowered sheet.permissions ≡ map lowered other.permissions
  pub users : map lowered sheet.users ≡ map lowered other.users

-- they differ only in the line of user u: all names agree, and the cells of every other user are the same
pub record OnlyInLine (u : ℕ) (sheet other : Sheet) : Type 0 where
  pub same_names : NamesAgree sheet other
  pub same_cells : (v p : ℕ) → v < user_count sheet → p < permission_count sheet → v ≢ u
      → holds sheet v p ≡ holds other v p

-- they differ only in the column of permission p: the same with users and permissions exchanged
pub record OnlyInColumn (p : ℕ) (sheet other : Sheet) : Type 0 where
  pub same_names : NamesAgree sheet other
  pub same_cells : (u q : ℕ) → u < user_count sheet → q < permission_count sheet → q ≢ p
      → holds sheet u q ≡ holds other u q

-- they differ only in one user's line, or only in one permission's column; two whose cells are all the same are among
-- them
abbrev pub OneChange : Sheet → Sheet → Type 0
OneChange sheet other = ((u : ℕ) × OnlyInLine u sheet other) ⊎ ((p : ℕ) × OnlyInColumn p sheet other)

-- two numbers are at most 1 apart
abbrev pub AtMostOneApart : ℕ → ℕ → Type 0
AtMostOneApart m n = (m ≤ suc n) × (n ≤ suc m)

-- ---- what becomes of the roles

-- nothing moved but user u: there are as many roles, or one more; every other user has of the earlier roles those that
-- they had, and the earlier roles have their permissions; a new role is had by no other user
pub record OnlyUserMoved (u : ℕ) (before after : RoleSet) : Type 0 where
  pub no_fewer : before.count ≤ after.count
  pub at_most_one_more : after.count ≤ suc before.count
  pub same_roles : (v r : ℕ) → v ≢ u → r < before.count → after.has v r ≡ before.has v r
  pub same_permissions : (r p : ℕ) → r < before.count → after.gives r p ≡ before.gives r p
  pub new_is_theirs : (v r : ℕ) → v ≢ u → before.count ≤ r → after.has v r ≡ false

-- nothing moved but permission p: the same with users and permissions exchanged
pub record OnlyPermissionMoved (p : ℕ) (before after : RoleSet) : Type 0 where
  pub no_fewer : before.count ≤ after.count
  pub at_most_one_more : after.count ≤ suc before.count
  pub same_permissions : (r q : ℕ) → q ≢ p → r < before.count → after.gives r q ≡ before.gives r q
  pub same_roles : (u r : ℕ) → r < before.count → after.has u r ≡ before.has u r
  pub new_has_it_alone : (r q : ℕ) → q ≢ p → before.count ≤ r → after.gives r q ≡ false

-- ---- numbers printed

-- a book prints this role count, this bound and this word: its first two lines are block 1 with these three
pub record Prints (book : Bytes) (count bound : ℕ) (word : Standing) : Type 0 where
  pub later : Bytes
  pub spelled : book ≡ text_of (counts_block count bound word) ++ later

-- a book prints this role count with `witnessed` or `searched`
pub record PrintsAsSmallest (book : Bytes) (count : ℕ) : Type 0 where
  pub bound : ℕ
  pub word : Standing
  pub prints : Prints book count bound word
  pub claimed : (word ≡ witnessed) ⊎ (word ≡ searched)

-- a session brought out this book for this sheet: some calls from a fresh session end with an accepted writing that
-- brought out the book, and before it the last accepted load was this sheet's. Whatever a session does after that is
-- not looked at: a later book of the same session has a longer sequence
pub record BroughtOut (text book : Bytes) : Type 0 where
  pub earlier : List Event
  pub session : Session
  pub buffer : Bytes
  pub written : WriteOutcome
  pub led : Led (record { call = write buffer; outcome = written } ∷ earlier) session
  pub last : last_accepted (calls earlier) ≡ some text
  pub answered : written.answer.number ≡ 0
  pub book_is : book ≡ brought_out written

-- a fact about the numbers that two books print, for two sheets with one change
pub record NumbersOneApart (text book other_text other_book : Bytes) : Type 0 where
  -- role counts printed with `witnessed` or `searched` are at most 1 apart
  pub counts : OneChange (sheet_of text) (sheet_of other_text)
      → (m n : ℕ) → PrintsAsSmallest book m → PrintsAsSmallest other_book n → AtMostOneApart m n
  -- and whatever the words are, no bound is more than 1 above the other role count
  pub bounds : OneChange (sheet_of text) (sheet_of other_text)
      → (m bound n other_bound : ℕ) (word other_word : Standing)
      → Prints book m bound word → Prints other_book n other_bound other_word
      → (bound ≤ suc n) × (other_bound ≤ suc m)

-- ---- the promise

-- one person moves one role
pub record OneMovesOne : Type 0 where
  -- every accepted sheet has exactly one smallest role count
  pub exactly_one : (text : Bytes) (sheet : Sheet) → Keeps text sheet
      → (n : ℕ) × SmallestCount n sheet × ((m : ℕ) → SmallestCount m sheet → m ≡ n)
  -- those of any two sheets that differ only in one user's line, or only in one permission's column, are at most 1
  -- apart
  pub one_apart : (sheet other : Sheet) → OneChange sheet other
      → (m n : ℕ) → SmallestCount m sheet → SmallestCount n other → AtMostOneApart m n
  -- and nobody else has to move: every role set for the one sheet becomes one for the other by moving that user, or
  -- that permission, alone. It need not be a smallest one
  pub others_stay : (sheet other : Sheet) (u : ℕ) → OnlyInLine u sheet other
      → (roles : RoleSet) → Multiplies roles sheet
      → (after : RoleSet) × Multiplies after other × OnlyUserMoved u roles after
  pub others_stay_by_column : (sheet other : Sheet) (p : ℕ) → OnlyInColumn p sheet other
      → (roles : RoleSet) → Multiplies roles sheet
      → (after : RoleSet) × Multiplies after other × OnlyPermissionMoved p roles after
  -- every book that a session brings out prints a role count, a bound and a word; and no text prints two of them
  pub prints_some : (text book : Bytes) → BroughtOut text book
      → (count : ℕ) × (bound : ℕ) × (word : Standing) × Prints book count bound word
  pub prints_one : (book : Bytes) (count bound : ℕ) (word : Standing) → Prints book count bound word
      → (other_count other_bound : ℕ) (other_word : Standing) → Prints book other_count other_bound other_word
      → (count ≡ other_count) × (bound ≡ other_bound) × (word ≡ other_word)
  -- the role count that a session's book prints with `witnessed` or `searched` is its sheet's smallest role count
  pub prints_smallest : (text book : Bytes) → BroughtOut text book → (n : ℕ) → PrintsAsSmallest book n
      → SmallestCount n (sheet_of text)
  -- so for two books that sessions brought out, the same session or two, it is a fact about the numbers printed
  pub numbers : (text book other_text other_book : Bytes) → BroughtOut text book → BroughtOut other_text other_book
      → NumbersOneApart text book other_text other_book
