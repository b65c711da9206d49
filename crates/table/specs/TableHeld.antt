-- The cells whose permissions a user holds, as the code keeps them from one grant of that user to the next.
use Rattle.std.specs.Prelude.{ℕ, ◌≡◌, List}
use Rattle.std.proofs.Common.{sym}
use Rattle.bits.specs.Bit.{word_bits}
use Rattle.table.specs.TableWords.{FirstBits}
use Rattle.table.specs.TableParts.{permission_held}
use Rattle.table.specs.declared.table.HolderCells.{HolderCells}

-- the cells of both words are those whose permissions this user holds
pub record HeldBy (rows cells : List ℕ) (user : ℕ) (h : HolderCells) : Type 0 where
  pub owner : h.user.0 ≡ user
  pub low : FirstBits (permission_held rows cells 0 user) word_bits h.low
  pub high : FirstBits (permission_held rows cells word_bits user) word_bits h.high

module _ {rows cells : List ℕ} {user : ℕ} {h : HolderCells} (held : HeldBy rows cells user h) where
  pub same_user : {other : ℕ} → user ≡ other → HeldBy rows cells other h
  same_user e = rw e at held

  pub own_user : HeldBy rows cells h.user.0 h
  own_user = same_user (sym held.owner)
