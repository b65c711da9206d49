-- `cover::class_for`: no class of the words passed is free.
use Rattle.std.proofs.Common.{ℕ, ◌≡◌, ◌*◌, ◌<◌, false}
use Rattle.bits.specs.Bit.{word_bits}
use Rattle.cover.specs.CoverFree.{free}
use Rattle.cover.proofs.cover.class_for.Given as goal

abbrev pub invariant-loop-j : goal.invariant-loop-j
invariant-loop-j l = (i : ℕ) → i < l.j * word_bits → free l.allowed l.lacked l.permission.0 i ≡ false
