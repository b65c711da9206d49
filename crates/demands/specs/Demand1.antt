-- Demand 1. Each call has an answer on every session. Its number is the first of its causes that applies; and where it
-- is not 0, the call's definition takes the branch that returns the number alone and changes nothing.
use Rattle.std.specs.Prelude.{ℕ, ◌≡◌, refl, false, ◌≢◌}
use Rattle.std.proofs.Common.{sym, ap, ◌∙◌, ⊎_elim, eqb-true, ne_eqb}
use Rattle.std.proofs.Math.Bool.{So}
use Rattle.spec.specs.Text.{Bytes}
use Rattle.spec.specs.Session.{Session, no_sheet, read, reduced, session_book}
use Rattle.spec.specs.Refusal.{first_number, sheet_causes, refusal, accepted, reduce_causes, search_causes}
use Rattle.spec.specs.Refusal.{write_causes}
use Rattle.spec.specs.Calls.{LoadAnswer, load_answer, load_refused, after_load, ReduceAnswer, reduce_answer}
use Rattle.spec.specs.Calls.{reduce_refused, after_reduce, SearchAnswer, search_answer, search_refused, after_search}
use Rattle.spec.specs.Calls.{WriteAnswer, write_answer, write_refused, buffer_after, check, Loads, Reduces, Searches}
use Rattle.spec.specs.Calls.{Writes}
use Rattle.spec.specs.Newcomer.{Admission, new_book, newcomer_causes, newcomer_answer, buffer_admitting, Admits}
use Rattle.spec.specs.Demands.{Judged, Demand1}
use Rattle.bits.specs.Truth.{passes_or_fails}
use Rattle.rules.specs.CauseLaws.{positive, sheet_causes_positive}
use Rattle.right.specs.CheckOwed.{judged, checks_judged}
use Rattle.admitted.specs.NewcomerCauses.{newcomer_causes_positive}
use Rattle.demands.specs.TextWritten.{answers_the_number, refused_alone}
use Rattle.demands.specs.EverySequence.{outcome_on, session_next, happens_on}

-- a load's number is its refusal's
pub load_number_is_refusal : (text : Bytes) → (load_answer text).number ≡ refusal text
unfolding load_answer
load_number_is_refusal text =
    ⊎_elim (λ (p : So (accepted text)). rw p (sym (eqb-true (refusal text) 0 p))) (λ (f : accepted text ≡ false). rw f)
    (passes_or_fails (accepted text))

not_accepted : (text : Bytes) → refusal text ≢ 0 → accepted text ≡ false
not_accepted text n = ne_eqb (refusal text) 0 n

refused_load : (text : Bytes) → refusal text ≢ 0 → load_answer text ≡ load_refused (refusal text)
unfolding load_answer
refused_load text n = rw (not_accepted text n)

refused_load_leaves : (before : Session) (text : Bytes) → refusal text ≢ 0 → after_load before text ≡ before
unfolding after_load
refused_load_leaves before text n = rw (not_accepted text n)

refusal_is_first : (text : Bytes) → refusal text ≡ first_number (sheet_causes text)
unfolding refusal
refusal_is_first text = refl

loads_judged : (before after : Session) (text : Bytes) (answer : LoadAnswer) → Loads before text answer after
    → Judged (sheet_causes text) answer.number ((answer ≡ load_refused answer.number) × (after ≡ before))
loads_judged before after text answer h =
    let number : answer.number ≡ refusal text = ap (λ (a : LoadAnswer). a.number) h.answers
    ∙ load_number_is_refusal text in
    judged (sheet_causes text) answer.number ((answer ≡ load_refused answer.number) × (after ≡ before))
    (sheet_causes_positive text)
    (number ∙ refusal_is_first text) (λ n.
    let m : refusal text ≢ 0 = λ z. n (sym (refusal_is_first text) ∙ z) in
    (h.answers ∙ (refused_load text m ∙ ap load_refused (sym number)), h.leaves ∙ refused_load_leaves before text m))

-- a reduction's number is the first of its causes, and where it is not 0 the session stays
reduce_number : (before : Session) → (reduce_answer before).number ≡ first_number (reduce_causes before)
unfolding reduce_answer
reduce_number no_sheet = refl
reduce_number (read text) = refl
reduce_number (reduced text st) = refl

refused_reduce : (before : Session) → first_number (reduce_causes before) ≢ 0
    → (reduce_answer before ≡ reduce_refused (first_number (reduce_causes before))) × (after_reduce before ≡ before)
unfolding reduce_answer after_reduce
refused_reduce no_sheet n = (refl, refl)
refused_reduce (read text) n = absurd (n refl)
refused_reduce (reduced text st) n = absurd (n refl)

reduces_judged : (before after : Session) (answer : ReduceAnswer) → Reduces before answer after
    → Judged (reduce_causes before) answer.number ((answer ≡ reduce_refused answer.number) × (after ≡ before))
reduces_judged before after answer h =
    let number : answer.number ≡ first_number (reduce_causes before) =
    ap (λ (a : ReduceAnswer). a.number) h.answers ∙ reduce_number before in
    judged (reduce_causes before) answer.number ((answer ≡ reduce_refused answer.number) × (after ≡ before))
    refl number (λ n.
    let r = refused_reduce before n in
    (h.answers ∙ (r.0 ∙ ap reduce_refused (sym number)), h.leaves ∙ r.1))

-- a search's likewise
search_number : (before : Session) (budget : ℕ) → (search_answer before budget).number ≡ first_number
    (search_causes before)
unfolding search_answer
search_number no_sheet budget = refl
search_number (read text) budget = refl
search_number (reduced text st) budget = refl

refused_search : (before : Session) (budget : ℕ) → first_number (search_causes before) ≢ 0
    → (search_answer before budget ≡ search_refused (first_number (search_causes before)))
    × (after_search before budget ≡ before)
unfolding search_answer after_search
refused_search no_sheet budget n = (refl, refl)
refused_search (read text) budget n = (refl, refl)
refused_search (reduced text st) budget n = absurd (n refl)

searches_judged : (before after : Session) (budget : ℕ) (answer : SearchAnswer) → Searches before budget answer after
    → Judged (search_causes before) answer.number ((answer ≡ search_refused answer.number) × (after ≡ before))
searches_judged before after budget answer h =
    let number : answer.number ≡ first_number (search_causes before) =
    ap (λ (a : SearchAnswer). a.number) h.answers ∙ search_number before budget in
    judged (search_causes before) answer.number ((answer ≡ search_refused answer.number) × (after ≡ before))
    refl number (λ n.
    let r = refused_search before budget n in
    (h.answers ∙ (r.0 ∙ ap search_refused (sym number)), h.leaves ∙ r.1))

write_causes_positive : (before : Session) (buffer : Bytes) → So (positive (write_causes before buffer))
unfolding write_causes
write_causes_positive before buffer = refl

-- a writing's number is the first of its causes, and where it is not 0 the buffer stays
pub write_number : (before : Session) (buffer : Bytes) → (write_answer before buffer).number ≡ first_number
    (write_causes before buffer)
unfolding write_answer
write_number before buffer = answers_the_number (first_number (write_causes before buffer)) (session_book before)

refused_write : (before : Session) (buffer : Bytes) → first_number (write_causes before buffer) ≢ 0
    → (write_answer before buffer ≡ write_refused (first_number (write_causes before buffer)))
    × (buffer_after before buffer ≡ buffer)
unfolding write_answer buffer_after
refused_write before buffer n =
    refused_alone (first_number (write_causes before buffer)) (session_book before) buffer n

writes_judged : (before after : Session) (buffer lent : Bytes) (answer : WriteAnswer) → Writes before buffer answer
    lent after
    → Judged (write_causes before buffer) answer.number
    ((answer ≡ write_refused answer.number) × (lent ≡ buffer) × (after ≡ before))
writes_judged before after buffer lent answer h =
    let number : answer.number ≡ first_number (write_causes before buffer) =
    ap (λ (a : WriteAnswer). a.number) h.answers ∙ write_number before buffer in
    judged (write_causes before buffer) answer.number ((answer ≡ write_refused answer.number) × (lent ≡ buffer)
    × (after ≡ before))
    (write_causes_positive before buffer) number (λ n.
    let r = refused_write before buffer n in
    (h.answers ∙ (r.0 ∙ ap write_refused (sym number)), h.fills ∙ r.1, h.leaves))

-- the number of a call that puts a newcomer in a book, likewise
pub newcomer_number : (lent : Admission) (buffer : Bytes) → (newcomer_answer lent buffer).number ≡ first_number
    (newcomer_causes lent buffer)
unfolding newcomer_answer
newcomer_number lent buffer = answers_the_number (first_number (newcomer_causes lent buffer)) (new_book lent)

refused_newcomer : (lent : Admission) (buffer : Bytes) → first_number (newcomer_causes lent buffer) ≢ 0
    → (newcomer_answer lent buffer ≡ write_refused (first_number (newcomer_causes lent buffer)))
    × (buffer_admitting lent buffer ≡ buffer)
unfolding newcomer_answer buffer_admitting
refused_newcomer lent buffer n =
    refused_alone (first_number (newcomer_causes lent buffer)) (new_book lent) buffer n

admits_judged : (lent : Admission) (before after : Bytes) (answer : WriteAnswer) → Admits lent before answer after
    → Judged (newcomer_causes lent before) answer.number
    ((answer ≡ write_refused answer.number) × (after ≡ before))
admits_judged lent before after answer h =
    let number : answer.number ≡ first_number (newcomer_causes lent before) =
    ap (λ (a : WriteAnswer). a.number) h.answers ∙ newcomer_number lent before in
    judged (newcomer_causes lent before) answer.number ((answer ≡ write_refused answer.number)
    × (after ≡ before))
    (newcomer_causes_positive lent before) number (λ n.
    let r = refused_newcomer lent before n in
    (h.answers ∙ (r.0 ∙ ap write_refused (sym number)), h.fills ∙ r.1))

pub demand_1 : Demand1
demand_1 =
    record {
      answered = λ call before. (outcome_on before call, session_next before call, happens_on before call);
      checked = λ sheet_bytes book_bytes. (check sheet_bytes book_bytes, record { answers = refl });
      admission = λ lent buffer.
          (newcomer_answer lent buffer, buffer_admitting lent buffer, record { answers = refl; fills = refl });
      loads = loads_judged;
      reduces = reduces_judged;
      searches = searches_judged;
      writes = writes_judged;
      checks = checks_judged;
      admits = admits_judged;
    }
