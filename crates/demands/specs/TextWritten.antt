-- What a call answers and leaves that writes a text into a lent buffer: where the number of its causes is 0, the text's
-- byte count, with the text in front of the buffer's own bytes; else the number alone, with the buffer as it was.
use Rattle.std.specs.Prelude.{ℕ, ◌≡◌, Bool, false, cond, ◌++◌, ◌≢◌, eqb, length, take, drop}
use Rattle.std.proofs.Common.{sym, ⊎_elim, eqb-true, eq-eqb, ne_eqb}
use Rattle.std.proofs.Math.Bool.{So}
use Rattle.std.proofs.Math.Seq.{take-append_seam}
use Rattle.spec.specs.Text.{Bytes}
use Rattle.spec.specs.Calls.{WriteAnswer, write_refused}
use Rattle.bits.specs.Truth.{passes_or_fails}

-- the answer and the buffer after it, by whether no cause applies
abbrev pub answer_if : Bool → ℕ → Bytes → WriteAnswer
answer_if fits number text = cond fits (record { number = 0; count = length text }) (write_refused number)

abbrev pub lent_if : Bool → Bytes → Bytes → Bytes
lent_if fits text buffer = cond fits (text ++ drop (length text) buffer) buffer

-- the number that it answers is that of its causes
pub answers_the_number : (number : ℕ) (text : Bytes) → (answer_if (eqb number 0) number text).number ≡ number
answers_the_number number text =
    ⊎_elim (λ (e : So (eqb number 0)). rw e (sym (eqb-true number 0 e))) (λ (f : eqb number 0 ≡ false). rw f)
    (passes_or_fails (eqb number 0))

-- where that is not 0 it answers the number alone and leaves the buffer as it was
pub refused_alone : (number : ℕ) (text buffer : Bytes) → number ≢ 0
    → (answer_if (eqb number 0) number text ≡ write_refused number) × (lent_if (eqb number 0) text buffer ≡ buffer)
refused_alone number text buffer n =
    let e = ne_eqb number 0 n in
    (rw e, rw e)

-- where it is 0, the front of the buffer, as many bytes as were answered, is the text
pub front_is_the_text : (number : ℕ) (text buffer : Bytes) → number ≡ 0
    → take (answer_if (eqb number 0) number text).count (lent_if (eqb number 0) text buffer) ≡ text
front_is_the_text number text buffer z = rw (eq-eqb number 0 z) (take-append_seam text (drop (length text) buffer))
