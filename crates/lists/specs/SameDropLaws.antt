-- Two lists compared from the front, place by place: lists of other lengths differ, and with equal elements in front
-- the rests decide. Assumes nothing.
use Rattle.std.specs.Prelude.{ℕ, suc, ◌<◌, ◌≡◌, Bool, false, ◌&&◌, List, length, drop, get_or}
use Rattle.std.proofs.Common.{drop-cons}
use Rattle.spec.specs.Vocabulary.{same_by}
use Rattle.bits.specs.Truth.{fails_unless}
use Rattle.lists.specs.SameLaws.{same_by_length}

module _ {A : Type 0} where
  pub other_lengths_differ : (same : A → A → Bool) (l others : List A) → (length l ≡ length others → ⊥)
      → same_by same l others ≡ false
  other_lengths_differ same l others h = fails_unless (same_by same l others) (λ e. h (same_by_length same l others e))

  -- the elements at place i, then the rests
  pub same_by_drop : (same : A → A → Bool) (l others : List A) (i : ℕ) (d : A) → i < length l → i < length others
      → same_by same (drop i l) (drop i others)
      ≡ (same (get_or l i d) (get_or others i d) && same_by same (drop (suc i) l) (drop (suc i) others))
  same_by_drop same l others i d h k = rw (drop-cons l i d h, drop-cons others i d k)
