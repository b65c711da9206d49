-- Steps one after the other. Bytes that stand at a place and bytes that stand where it goes on stand there together;
-- and where the first or the second of two parts is missing, both together are. All of it is cancelling in front.
use Rattle.std.specs.Prelude.{ℕ, ◌+◌, ◌≤◌, ◌<◌, ◌≡◌, length, drop, get_or, Option}
use Rattle.std.specs.Prelude.{Some, None}
use Rattle.std.proofs.Common.{arith, sym, ap, ◌∙◌, length-append, length-drop, drop_of_length-le, drop-cons}
use mathlib.Core.List.{◌∷◌, ◌++◌, append_assoc, append_cancel_left, nil≢cons, head-eq_of_cons-eq}
use Rattle.spec.specs.Text.{Bytes}
use Rattle.lists.specs.Listed.{listed, listed_more}
use Rattle.steps.specs.Laws.Aligned.{Aligned, aligned_same, listed_next}
use Rattle.steps.specs.Stands.{Stands}
use Rattle.steps.specs.Laws.Stands.{stands_then}
use Rattle.steps.specs.Steps.{Misses, Expects}

-- what follows bytes that stand there is what the text goes on with
pub stands_rest : {text a : Bytes} {at next : ℕ} → Stands text at a next → (rest : Bytes) → drop at text ≡ a ++ rest
    → rest ≡ drop next text
stands_rest {text} {a} {at} {next} p rest e = append_cancel_left a rest (drop next text) (sym e ∙ p.reads)

-- the place where it goes on is as far as the bytes are long
pub stands_place : {text a : Bytes} {at next : ℕ} → Stands text at a next → next ≡ at + length a
stands_place {text} {a} {at} {next} p =
    omega (
      arith,
      ap length p.reads,
      length-append a (drop next text),
      length-drop at text,
      length-drop next text,
      p.forward,
      p.within,
    )

-- the first part is missing
pub misses_first : {text a : Bytes} {at : ℕ} (b : Bytes) → Misses text at a → Misses text at (a ++ b)
misses_first {text} {a} {at} b m = record { misses = λ rest e. m.misses (b ++ rest) (e ∙ append_assoc a b rest) }

-- the second part is missing
pub misses_second : {text a : Bytes} {at next : ℕ} (b : Bytes) → Stands text at a next → Misses text next b
    → Misses text at (a ++ b)
misses_second {text} {a} {at} {next} b p m =
    record { misses = λ rest e. m.misses rest (sym (stands_rest p (b ++ rest) (e ∙ append_assoc a b rest))) }

-- the second part is missing behind another first part that can only be followed by the same
pub misses_after : {text a b : Bytes} {at next : ℕ} (c : Bytes) → Stands text at a next → Aligned a b
    → Misses text next c
    → Misses text at (b ++ c)
misses_after {text} {a} {b} {at} {next} c p same m =
    record {
      misses = λ rest e.
          m.misses rest (same.rest (drop next text) (c ++ rest) (sym p.reads ∙ e ∙ append_assoc b c rest));
    }

-- the next of parts by number is missing
pub misses_next : {text : Bytes} {at next : ℕ} (j count : ℕ) (f g : ℕ → Bytes) → j < count
    → ((i : ℕ) → i < j → Aligned (f i) (g i))
    → Stands text at (listed j f) next → Misses text next (g j) → Misses text at (listed count g)
misses_next {text} {at} {next} j count f g h same p m =
    record {
      misses = λ rest e.
          (let b = listed_next j count f g h same (drop next text) rest (sym p.reads ∙ e) in m.misses b.more
          b.there);
    }

-- the next of parts that are known is missing
pub misses_known : {text : Bytes} {at next : ℕ} (j count : ℕ) (f : ℕ → Bytes) → j < count → Stands text at (listed j f)
    next
    → Misses text next (f j) → Misses text at (listed count f)
misses_known j count f h p m = misses_next j count f f h (λ i l. aligned_same (f i)) p m

-- with the next of parts by number there, one more is
pub stands_more : {text : Bytes} {at next last : ℕ} (j : ℕ) (f : ℕ → Bytes) → Stands text at (listed j f) next
    → Stands text next (f j) last
    → Stands text at (listed (j + 1) f) last
stands_more j f p q = rw (listed_more j f) (stands_then p q)

-- with the first part there, the second decides
pub expects_then : {text a : Bytes} {at next : ℕ} (b : Bytes) → Stands text at a next → (r : Option ℕ)
    → Expects text next b r
    → Expects text at (a ++ b) r
expects_then b p (Some last) q = stands_then p q
expects_then b p None m = misses_second b p m

-- ---- one byte

-- another byte stands there
pub misses_byte : (text : Bytes) (at b : ℕ) (rest : Bytes) → at < length text → (get_or text at 0 ≡ b → ⊥)
    → Misses text at (b ∷ rest)
misses_byte text at b rest h other =
    record { misses = λ more e. other (head-eq_of_cons-eq (sym (drop-cons text at 0 h) ∙ e)) }

-- nothing stands past the end
pub misses_at_end : (text : Bytes) (at b : ℕ) (rest : Bytes) → length text ≤ at → Misses text at (b ∷ rest)
misses_at_end text at b rest h = record { misses = λ more e. nil≢cons (sym (drop_of_length-le text h) ∙ e) }
