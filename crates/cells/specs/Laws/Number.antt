-- Grants by their numbers in a list: a number below the length names a member, and a member has such a number. In a
-- list in order no two numbers name one grant.
use Rattle.std.specs.Prelude.{ℕ, ◌<◌, ◌≡◌, false, length}
use mathlib.Core.List.{List, Memᴰ}
use Rattle.spec.specs.Sheet.{Grant, same_grant}
use Rattle.spec.specs.Cover.{grant_at}
use Rattle.lists.specs.TestLaws.{member_at, place_of}
use Rattle.lists.specs.Ordered.{Ordered}
use Rattle.cells.specs.Laws.GrantOrder.{Before, ordered_grants_differ}

pub grant_at_member : (l : List Grant) (i : ℕ) → i < length l → Memᴰ (grant_at l i) l
grant_at_member l i k = member_at l i (record { user = 0; permission = 0 }) k

-- the number of a grant in a list
pub record Numbered (l : List Grant) (g : Grant) : Type 0 where
  pub number : ℕ
  pub within : number < length l
  pub there : grant_at l number ≡ g

pub member_number : (l : List Grant) {g : Grant} → Memᴰ g l → Numbered l g
member_number l m =
    let found = place_of l (record { user = 0; permission = 0 }) m in
    record { number = found.place; within = found.within; there = found.there }

-- no two numbers name one grant
abbrev pub Different : List Grant → Type 0
Different l = (i j : ℕ) → i < j → j < length l → same_grant (grant_at l i) (grant_at l j) ≡ false

pub ordered_different : (l : List Grant) → Ordered Before l → Different l
ordered_different l o i j = ordered_grants_differ l o i j (record { user = 0; permission = 0 })
