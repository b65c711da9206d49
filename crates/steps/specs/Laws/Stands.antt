-- Bytes that stand in a text from one place up to another: one after the other they stand there together. Assumes
-- nothing.
use Rattle.std.specs.Prelude.{ℕ, suc, ◌+◌, ◌-◌, ◌≤◌, ◌<◌, ◌≡◌, refl, ◌&&◌, [], ◌∷◌, ◌++◌, eqb, ltb, length, get_or}
use Rattle.std.specs.Prelude.{drop}
use Rattle.std.proofs.Common.{arith, sym, ap, ◌∙◌, append_assoc, ltb-true, eqb-true, take-append-drop, drop-cons}
use Rattle.std.proofs.Common.{drop-drop}
use Rattle.std.proofs.Math.Bool.{So}
use Rattle.spec.specs.Text.{Bytes}
use Rattle.bits.specs.Truth.{and_left, and_right}
use Rattle.places.specs.Places.{part}
use Rattle.steps.specs.Stands.{Stands}

pub stands_nothing : (text : Bytes) (at : ℕ) → at ≤ length text → Stands text at [] at
stands_nothing text at h = record { forward = omega arith; within = h; reads = refl }

pub stands_then : {text a b : Bytes} {at next last : ℕ} → Stands text at a next → Stands text next b last
    → Stands text at (a ++ b) last
stands_then {text} {a} {b} {at} {next} {last} p q =
    record {
      forward = omega (arith, p.forward, q.forward);
      within = q.within;
      reads = p.reads ∙ ap (λ (l : Bytes). a ++ l) q.reads ∙ sym (append_assoc a b (drop last text));
    }

-- a byte
pub stands_byte : (text : Bytes) (at b : ℕ) → at < length text → get_or text at 0 ≡ b → Stands text at (b ∷ []) (suc at)
stands_byte text at b h e = record { forward = omega arith; within = h; reads = rw (← e) (drop-cons text at 0 h) }

-- a byte that a test found
pub stands_found : (text : Bytes) (at b : ℕ) → So (ltb at (length text) && eqb (get_or text at 0) b)
    → Stands text at (b ∷ []) (suc at)
stands_found text at b p =
    stands_byte text at b (ltb-true at (length text) (and_left (ltb at (length text)) (eqb (get_or text at 0) b) p))
    (eqb-true (get_or text at 0) b (and_right (ltb at (length text)) (eqb (get_or text at 0) b) p))

-- a part of the text
pub stands_part : (text : Bytes) (from to : ℕ) → from ≤ to → to ≤ length text → Stands text from (part from to text) to
stands_part text from to h k =
    let there : from + (to - from) ≡ to = omega arith in
    let rest : drop (to - from) (drop from text) ≡ drop to text = drop-drop (to - from) from text ∙ rw there in
    record { forward = h; within = k; reads = sym (take-append-drop (to - from) (drop from text)) ∙ rw rest }
