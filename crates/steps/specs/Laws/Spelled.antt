-- A name in whatever case: bytes as long as the name stand there, and by them it is decided. Assumes nothing.
use Rattle.std.specs.Prelude.{ℕ, ◌+◌, ◌-◌, ◌≤◌, ◌<◌, ◌≡◌, false, ◌++◌, length, drop}
use Rattle.std.proofs.Common.{arith, ap, length-append, length-drop}
use Rattle.std.proofs.Math.Bool.{So}
use Rattle.std.proofs.Math.Seq.{take-append_seam}
use Rattle.spec.specs.Text.{Bytes, same_name}
use Rattle.bits.specs.Truth.{not_both}
use Rattle.text.specs.Laws.Lowered.{lowered_length, same_name_elim, same_name_intro}
use Rattle.places.specs.Places.{part}
use Rattle.steps.specs.Laws.Stands.{stands_part}
use Rattle.steps.specs.Spelled.{SpelledAt, NotSpelled}

module _ (text : Bytes) (at : ℕ) (name : Bytes) where
  -- too few bytes stand there
  pub too_short : at ≤ length text → length text - at < length name → NotSpelled text at name
  too_short h few spelled same =
      record {
        misses = λ rest e. omega (
          arith,
          ap length e,
          length-append spelled rest,
          length-drop at text,
          lowered_length spelled name same,
        );
      }

  -- as many bytes are an equal name
  pub equal_part : {end : ℕ} → at ≤ end → end ≤ length text → So (same_name (part at end text) name)
      → SpelledAt text at name end
  equal_part {end} h k p =
      record {
        spelled = part at end text;
        same = same_name_elim (part at end text) name p;
        reads = stands_part text at end h k;
      }

  -- as many bytes are none
  pub other_part : {end : ℕ} → end ≡ at + length name → same_name (part at end text) name ≡ false
      → NotSpelled text at name
  other_part {end} there other spelled same =
      record { misses = λ rest e. not_both (rw (part_is rest e) (same_name_intro spelled name same)) other }
    where
      part_is : (rest : Bytes) → drop at text ≡ spelled ++ rest → part at end text ≡ spelled
      part_is rest e =
          let long : end - at ≡ length spelled = omega (arith, lowered_length spelled name same) in
          rw (long, e) (take-append_seam spelled rest)
