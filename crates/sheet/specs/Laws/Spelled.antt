-- Names of a text that are read: what is read as a name stands there, and a name that stands before a comma or a line
-- feed is read, with its end. Assumes nothing.
use Rattle.std.specs.Prelude.{ℕ, suc, ◌+◌, ◌-◌, ◌≤◌, min, ◌≡◌, refl, Bool, true, false, eqb, length, drop, Option, Some, None}
use Rattle.std.proofs.Common.{arith, sym, ap, ◌∙◌, ne_eqb, length-take, length-drop, drop-drop}
use Rattle.std.proofs.Math.Bool.{So}
use mathlib.Core.List.{[], ◌∷◌, ◌++◌, Memᴰ}
use Rattle.std.proofs.lemmas.Bool.{eqb-false}
use Rattle.std.proofs.Math.Seq.{drop-append_seam, take-append_seam}
use Rattle.spec.specs.Vocabulary.{all}
use Rattle.spec.specs.Limits.{name_limit}
use Rattle.spec.specs.Text.{Bytes, comma, line_feed, name_byte}
use Rattle.spec.specs.Rules.{Name}
use Rattle.spec.specs.Refusal.{has_name_length}
use Rattle.bits.specs.Truth.{and_intro, and_left, and_right, or_fails}
use Rattle.lists.specs.Span.{further, span, span_within}
use Rattle.lists.specs.TestLaws.{all_intro, all_elim}
use Rattle.places.specs.Places.{part}
use Rattle.rules.specs.NameCauses.{sized_name}
use Rattle.reader.specs.Fields.{field_from, field_read}
use Rattle.text.specs.Line.{separator}
use Rattle.text.specs.Laws.Byte.{name_byte_no_comma, name_byte_no_line_feed}
use Rattle.sheet.specs.Spelled.{is_name, field_end, name_said, name_read, NameAt}

-- ---- what is read as a name

-- where the field at a place within the text ends
pub field_ends : (text : Bytes) (at : ℕ) → at ≤ length text → (field_read text at).to ≡ field_end text at
unfolding field_read field_from
field_ends text at h =
    let e : min at (length text) ≡ at = omega arith in
    rw e

said_name : (b : Bool) (end k : ℕ) → Some end ≡ name_said b k → So b × (end ≡ k)
said_name true end k e = (refl, (cc))
said_name false end k e = absurd (let z : ◌≡◌ {A = ℕ} 0 1 = cc in omega arith)

-- it is not read as none
pub read_or_not : (r : Option ℕ) (end : ℕ) → None ≡ r → r ≡ Some end → ⊥
read_or_not r end e f = let z : ◌≡◌ {A = ℕ} 0 1 = cc in omega arith

-- a name that is read stands there
pub name_stands : (text : Bytes) (at end : ℕ) → at ≤ length text → Some end ≡ name_read text at
    → NameAt text at end
unfolding name_limit
name_stands text at end h e =
    let said = said_name (is_name (part at (field_end text at) text)) end (field_end text at) e in
    let name : Bytes = part at end text in
    let both : So (is_name name) = rw said.1 said.0 in
    let sized = (sized_name name).0 (and_left (has_name_length name) (all name_byte name) both) in
    record {
      forward = omega (arith, sized.some_byte, length-take (end - at) (drop at text));
      within = omega (arith, said.1, span_within separator (drop at text), length-drop at text);
      named = record {
        some_byte = sized.some_byte;
        short = sized.short;
        spelled = λ b m. all_elim name_byte name (and_right (has_name_length name) (all name_byte name) both) m;
      };
    }

-- ---- a name that stands there

-- what stands behind bytes of a text
pub behind : (text : Bytes) (at : ℕ) (front rest : Bytes) → drop at text ≡ front ++ rest → drop (at + length front)
    text ≡ rest
behind text at front rest e =
    sym (drop-drop (length front) at text) ∙ ap (drop (length front)) e ∙ drop-append_seam front rest

-- a byte of a name ends no field
name_goes_on : (b : ℕ) → So (name_byte b) → separator b ≡ false
name_goes_on b n =
    or_fails (eqb b comma) (eqb b line_feed) (ne_eqb b comma (λ e. eqb-false comma b (name_byte_no_comma b n) (sym e)))
    (ne_eqb b line_feed (λ e. eqb-false line_feed b (name_byte_no_line_feed b n) (sym e)))

-- a field is as long as the name that stands there
span_of_name : (name : Bytes) (b : ℕ) (rest : Bytes) → ((c : ℕ) → Memᴰ c name → So (name_byte c))
    → So (separator b)
    → span separator (name ++ b ∷ rest) ≡ length name
span_of_name [] b rest spelled ends = ap (λ t. further t (span separator rest)) ends
span_of_name (c ∷ name) b rest spelled ends =
    ap (λ t. further t (span separator (name ++ b ∷ rest))) (name_goes_on c (spelled c (Memᴰ.head refl)))
    ∙ ap suc (span_of_name name b rest (λ d m. spelled d (Memᴰ.tail m)) ends)

pub name_found : (text : Bytes) (at : ℕ) (name : Bytes) (b : ℕ) (rest : Bytes) → Name name → So (separator b)
    → drop at text ≡ name ++ b ∷ rest → name_read text at ≡ Some (at + length name)
unfolding name_limit
name_found text at name b rest n f e =
    ap (λ (said : Bool). name_said said (field_end text at)) good ∙ ap (λ (k : ℕ). Some k) ends
  where
    ends : field_end text at ≡ at + length name
    ends = ap (λ (l : Bytes). at + span separator l) e ∙ ap (λ (k : ℕ). at + k) (span_of_name name b rest n.spelled
        f)

    there : part at (field_end text at) text ≡ name
    there =
        let long : field_end text at - at ≡ length name = omega (arith, ends) in
        rw (long, e) (take-append_seam name (b ∷ rest))

    good : So (is_name (part at (field_end text at) text))
    good =
        ap is_name there
        ∙ and_intro (has_name_length name) (all name_byte name)
        ((sized_name name).1 (record { some_byte = n.some_byte; short = n.short }))
        (all_intro name_byte name n.spelled)
