-- What it means that the causes of a sheet's bytes, numbers 1 and 2, do not apply: each cause is a test, and the
-- facts are what the test asks, in both directions. Assumes nothing.
use Rattle.std.specs.Prelude.{ℕ, ◌≤◌, ◌≡◌, ◌↔◌, Bool, false, ◌||◌, not, eqb, length}
use Rattle.std.proofs.Common.{ap, ltb-false, le-ltb, eqb-true, eq-eqb}
use Rattle.std.proofs.Math.Bool.{So}
use mathlib.Core.List.{Memᴰ}
use Rattle.std.proofs.lemmas.Bool.{not-false}
use Rattle.spec.specs.Vocabulary.{empty, all}
use Rattle.spec.specs.Limits.{sheet_limit}
use Rattle.spec.specs.Text.{Bytes, line_feed, allowed_byte, last_byte}
use Rattle.spec.specs.Refusal.{too_long, bad_bytes}
use Rattle.bits.specs.Truth.{or_fails, or_fails_left, or_fails_right}
use Rattle.lists.specs.TestLaws.{all_intro, all_elim}

-- 1: at most as many bytes as the limit
pub short_enough : (text : Bytes) → (too_long text ≡ false) ↔ (length text ≤ sheet_limit)
unfolding too_long
short_enough text = (ltb-false sheet_limit (length text), le-ltb sheet_limit (length text))

-- 2: some byte, the last one a line feed, and only allowed bytes
pub record GoodBytes (text : Bytes) : Type 0 where
  pub some_byte : empty text ≡ false
  pub ends : last_byte text ≡ line_feed
  pub allowed : (b : ℕ) → Memᴰ b text → So (allowed_byte b)

pub good_bytes : (text : Bytes) → (bad_bytes text ≡ false) ↔ GoodBytes text
unfolding bad_bytes
good_bytes text = (read, written)
  where
    unended : Bool
    unended = not (eqb (last_byte text) line_feed)

    unknown : Bool
    unknown = not (all allowed_byte text)

    read : (bad_bytes text ≡ false) → GoodBytes text
    read e =
        let front : (empty text || unended) ≡ false = or_fails_left (empty text || unended) unknown e in
        record {
          some_byte = or_fails_left (empty text) unended front;
          ends = eqb-true (last_byte text) line_feed (not-false (eqb (last_byte text) line_feed)
              (or_fails_right (empty text) unended front));
          allowed = λ b m.
              all_elim allowed_byte text (not-false (all allowed_byte text) (or_fails_right (empty text || unended)
              unknown e)) m;
        }

    written : GoodBytes text → bad_bytes text ≡ false
    written g =
        or_fails (empty text || unended) unknown
        (or_fails (empty text) unended g.some_byte (ap not (eq-eqb (last_byte text) line_feed g.ends)))
        (ap not (all_intro allowed_byte text g.allowed))
