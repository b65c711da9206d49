-- A part of a text that a byte ends: what stands before the first such byte. A text has one such part at most at a
-- place, so what follows it is known too. Assumes nothing.
use Rattle.std.specs.Prelude.{ℕ, suc, ◌+◌, ◌-◌, ◌≤◌, ◌<◌, ◌≡◌, refl, eqb, length, get_or, drop, Option, Some, None}
use Rattle.std.proofs.Common.{arith, sym, ap, ◌∙◌, ⊎_elim, eq-eqb, ne_eqb, length-drop, take-append-drop}
use Rattle.std.proofs.Common.{drop_of_length-le, drop-cons, take-suc, get_or-drop, drop-drop}
use mathlib.Core.List.{[], ◌∷◌, ◌++◌, append_assoc, append_cancel_left, append-nil, tail-eq_of_cons-eq, Memᴰ}
use Rattle.spec.specs.Text.{Bytes}
use Rattle.bits.specs.Truth.{not_both}
use Rattle.lists.specs.CutLaws.{Free}
use Rattle.steps.specs.Laws.Aligned.{ended_same}
use Rattle.places.specs.Places.{part}
use Rattle.steps.specs.Stands.{Stands}

-- a part from one place up to another, where the byte that ends it stands
pub record Ended (text : Bytes) (at : ℕ) (end : ℕ) (to : ℕ) : Type 0 where
  pub forward : at ≤ to
  pub within : to < length text
  pub reads : drop at text ≡ part at to text ++ end ∷ drop (suc to) text
  pub free : Free (eqb end) (part at to text)

-- no such byte stands from a place on
pub record Unended (text : Bytes) (at : ℕ) (end : ℕ) : Type 0 where
  pub none : (bytes rest : Bytes) → drop at text ≡ bytes ++ end ∷ rest → ⊥

-- a step to the end of a part
abbrev pub PartEnd : Bytes → ℕ → ℕ → Option ℕ → Type 0
PartEnd text at end (Some to) = Ended text at end to
PartEnd text at end None = Unended text at end

-- ---- looking for the end, byte by byte

-- a text from a place on is the part up to another place and what follows it
pub part_and_rest : (text : Bytes) (at i : ℕ) → at ≤ i → drop at text ≡ part at i text ++ drop i text
part_and_rest text at i h =
    let there : at + (i - at) ≡ i = omega arith in
    sym (take-append-drop (i - at) (drop at text)) ∙ ap (λ l. part at i text ++ l) (drop-drop (i - at) at text
    ∙ rw there)

-- one byte more of a part
part_more : (text : Bytes) (at i : ℕ) → at ≤ i → i < length text → part at (i + 1) text ≡ part at i text ++ get_or text
    i 0 ∷ []
part_more text at i h k =
    let there : at + (i - at) ≡ i = omega arith in
    let more : i + 1 - at ≡ suc (i - at) = omega arith in
    rw (
      more,
      take-suc (drop at text) (i - at) 0 (rw (length-drop at text) (omega arith)),
      get_or-drop at text (i - at)
          0,
      there,
    )

-- no byte that would end the part stands up to a place
pub record Passed (text : Bytes) (at : ℕ) (end : ℕ) (i : ℕ) : Type 0 where
  pub forward : at ≤ i
  pub free : Free (eqb end) (part at i text)

pub nothing_passed : (text : Bytes) (at end : ℕ) → Passed text at end at
nothing_passed text at end =
    let none : at - at ≡ 0 = omega arith in
    record { forward = omega arith; free = rw none (λ b m. absurd (mathlib.Core.List.Memᴰ.not-nil m)) }

pub byte_passed : {text : Bytes} {at end i : ℕ} → Passed text at end i → i < length text → (get_or text i 0 ≡ end → ⊥)
    → Passed text at end (i + 1)
byte_passed {text} {at} {end} {i} p h other =
    record { forward = omega (arith, p.forward); free = rw (part_more text at i p.forward h) each }
  where
    each : Free (eqb end) (part at i text ++ get_or text i 0 ∷ [])
    each b m =
        ⊎_elim (p.free b) (λ n. ne_eqb end b (λ e. other (sym (mathlib.Core.List.Memᴰ.eq_of_singleton n) ∙ sym e)))
        (mathlib.Core.List.Memᴰ.append_cases (part at i text) m)

pub end_found : {text : Bytes} {at end i : ℕ} → Passed text at end i → i < length text → get_or text i 0 ≡ end
    → Ended text at end i
end_found {text} {at} {end} {i} p h same =
    record {
      forward = p.forward;
      within = h;
      reads = part_and_rest text at i p.forward ∙ ap (λ l. part at i text ++ l) (drop-cons text i 0 h ∙ rw same);
      free = p.free;
    }

pub no_end : {text : Bytes} {at end i : ℕ} → Passed text at end i → length text ≤ i → Unended text at end
no_end {text} {at} {end} {i} p h = record { none = contradiction }
  where
    whole : drop at text ≡ part at i text
    whole = part_and_rest text at i p.forward ∙ rw (drop_of_length-le text h) (append-nil (part at i text))

    here : (rest : Bytes) → Memᴰ end (end ∷ rest)
    here rest = mathlib.Core.List.Memᴰ.head refl

    contradiction : (bytes rest : Bytes) → drop at text ≡ bytes ++ end ∷ rest → ⊥
    contradiction bytes rest e =
        let member : Memᴰ end (part at i text) =
        rw (sym e ∙ whole) at (mathlib.Core.List.Memᴰ.append_right bytes (here rest)) in
        not_both (eq-eqb end end refl) (p.free end member)

-- ---- there is one such part

-- bytes before such an end are the part, and what follows them follows it
pub ended_once : {text : Bytes} {at end to : ℕ} → Ended text at end to → (bytes rest : Bytes) → Free (eqb end) bytes
    → drop at text ≡ bytes ++ end ∷ rest → (bytes ≡ part at to text) × (rest ≡ drop (suc to) text)
ended_once {text} {at} {end} {to} p bytes rest free e =
    let there : bytes ++ end ∷ rest ≡ part at to text ++ end ∷ drop (suc to) text = sym e ∙ p.reads in
    let same : bytes ≡ part at to text =
    ended_same (eqb end) end (eq-eqb end end refl) bytes (part at to text) rest (drop (suc to) text) free p.free
    there in (
      same,
      tail-eq_of_cons-eq (append_cancel_left (part at to text) (end ∷ rest) (end ∷ drop (suc to) text)
          (rw same at there)),
    )

-- a part and the byte that ends it stand there
pub ended_stands : {text : Bytes} {at end to : ℕ} → Ended text at end to → Stands text at (part at to text ++ end ∷ [])
    (suc to)
ended_stands {text} {at} {end} {to} p =
    record {
      forward = omega (arith, p.forward);
      within = p.within;
      reads = p.reads ∙ sym (append_assoc (part at to text) (end ∷ []) (drop (suc to) text));
    }
