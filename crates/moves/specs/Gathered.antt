-- The members of each class, in a table that has a word of each class for the first grants, then for the others. One
-- grant put in or taken out changes one bit, so that the table goes with the classes of the first grants when the next
-- one is placed or the latest taken back.
use Rattle.std.specs.Prelude.{ℕ, zero, suc, ◌+◌, ◌*◌, ◌/◌, ◌%◌, ◌≤◌, ◌<◌, ◌≡◌, refl, Bool, true, false, ◌&&◌, cond, List, eqb, ltb, length, get_or, set, replicate}
use Rattle.std.proofs.Common.{sym, ◌∙◌, ⊎_elim, arith, eqb-true, eq-eqb, lt-ltb, le-ltb, length-set, get_or-set_same, get_or-set_other}
use Rattle.std.proofs.Math.Bool.{So, and-true, and-false}
use Rattle.std.proofs.lemmas.Bool.{eqb-false}
use Rattle.std.proofs.lemmas.List.{length-replicate}
use Rattle.bits.specs.Truth.{eqb_comm, same_truth, fails_unless, and_left, and_right, and_intro, passes_or_fails}
use Rattle.bits.specs.Laws.Below.{below_or_from}
use Rattle.bits.specs.Bit.{bit, word_bits}
use Rattle.bits.specs.Laws.Bit.{bit_of_zero}
use Rattle.marks.specs.Marks.{mark_limit, table_words}

-- the word of class c that has grant i
abbrev pub member_word : ℕ → ℕ → ℕ
member_word c i = i / word_bits * mark_limit + c

-- grant i is in class c
abbrev pub member : List ℕ → ℕ → ℕ → Bool
member members c i = bit (get_or members (member_word c i) 0) (i % word_bits)

-- the members of each class are those of the first grants that are placed in it
pub record Gathered (classes : List ℕ) (depth : ℕ) (members : List ℕ) : Type 0 where
  pub sized : length members ≡ table_words
  pub has : (c i : ℕ) → c < mark_limit → i < mark_limit
      → member members c i ≡ (ltb i depth && eqb (get_or classes i 0) c)

-- a table in which one grant is made a member of one class, or no member any more
pub record MemberSet (members : List ℕ) (class grant : ℕ) (put : Bool) (after : List ℕ) : Type 0 where
  pub sized : length after ≡ length members
  pub has : (c i : ℕ) → c < mark_limit → i < mark_limit
      → member after c i ≡ cond (eqb c class && eqb i grant) put (member members c i)

-- a grant's word and bit are those of one class and one grant alone
same_place : (c i class grant : ℕ) → c < mark_limit → class < mark_limit → member_word c i ≡ member_word class grant
    → eqb (i % word_bits) (grant % word_bits) ≡ (eqb c class && eqb i grant)
same_place c i class grant l k e =
    same_truth (eqb (i % word_bits) (grant % word_bits)) (eqb c class && eqb i grant)
    (λ s.
    let bits : i % word_bits ≡ grant % word_bits = eqb-true (i % word_bits) (grant % word_bits) s in
    and_intro (eqb c class) (eqb i grant) (eq-eqb c class (omega arith)) (eq-eqb i grant (omega arith)))
    (λ s.
    let grants : i ≡ grant = eqb-true i grant (and_right (eqb c class) (eqb i grant) s) in
    eq-eqb (i % word_bits) (grant % word_bits) (omega arith))

other_place : (c i class grant : ℕ) → (member_word c i ≡ member_word class grant → ⊥)
    → (eqb c class && eqb i grant) ≡ false
other_place c i class grant ne =
    fails_unless (eqb c class && eqb i grant) (λ s.
    let classes : c ≡ class = eqb-true c class (and_left (eqb c class) (eqb i grant) s) in
    let grants : i ≡ grant = eqb-true i grant (and_right (eqb c class) (eqb i grant) s) in
    ne (rw (classes, grants)))

-- one word stored with one bit set changes that grant's bit of that class
pub word_set : (members : List ℕ) (class grant : ℕ) (put : Bool) (word : ℕ)
    → class < mark_limit → member_word class grant < length members
    → ((q : ℕ) → bit word q ≡ cond (eqb q (grant % word_bits)) put (bit (get_or members (member_word class grant) 0) q))
    → MemberSet members class grant put (set members (member_word class grant) word)
word_set members class grant put word k room changes = record { sized = length-set members at word; has = has }
  where
    at : ℕ
    at = member_word class grant

    has : (c i : ℕ) → c < mark_limit → i < mark_limit
        → member (set members at word) c i ≡ cond (eqb c class && eqb i grant) put (member members c i)
    has c i l _ =
        ⊎_elim
        (λ (s : So (eqb (member_word c i) at)).
        let e : member_word c i ≡ at = eqb-true (member_word c i) at s in
        rw (e, get_or-set_same members at word 0 room, ← same_place c i class grant l k e) (changes (i % word_bits)))
        (λ (f : eqb (member_word c i) at ≡ false).
        let ne : member_word c i ≡ at → ⊥ = eqb-false (member_word c i) at f in
        rw (other_place c i class grant ne, get_or-set_other members at (member_word c i) word 0 ne))
        (passes_or_fails (eqb (member_word c i) at))

-- no grant is placed, and no bit is set
pub gathered_none : (classes : List ℕ) → Gathered classes 0 (replicate table_words 0)
gathered_none classes =
    record {
      sized = length-replicate {A = ℕ} table_words 0;
      has = λ c i k l. rw (
        zero_word table_words (member_word c i),
        bit_of_zero (i % word_bits),
        le-ltb i 0 (omega arith),
      );
    }
  where
    zero_word : (m at : ℕ) → ◌≡◌ {A = ℕ} (get_or (replicate m 0) at 0) 0
    zero_word zero at = refl
    zero_word (suc m) zero = refl
    zero_word (suc m) (suc at) = zero_word m at

-- one grant more or fewer is no other grant more or fewer
ltb_other : (i d : ℕ) → (i ≡ d → ⊥) → ltb i (suc d) ≡ ltb i d
ltb_other i d ne =
    ⊎_elim (λ (l : i < d). rw (lt-ltb i d l, lt-ltb i (suc d) (omega arith)))
    (λ (l : d ≤ i). rw (le-ltb i d l, le-ltb i (suc d) (omega arith))) (below_or_from i d)

-- where one grant of a class changes, it is enough to know of the others that they stay and of this one what it
-- becomes
gathered_changed : {classes after members changed : List ℕ} {d n m class : ℕ} {put : Bool}
    → Gathered classes n members → MemberSet members class d put changed
    → ((i : ℕ) → (i ≡ d → ⊥) → ltb i m ≡ ltb i n) → ((i : ℕ) → (i ≡ d → ⊥) → get_or after i 0 ≡ get_or classes i 0)
    → ((c : ℕ) → cond (eqb c class) put (ltb d n && eqb (get_or classes d 0) c) ≡ (ltb d m && eqb (get_or after d 0) c))
    → Gathered after m changed
gathered_changed {d = d} g w first same here =
    record {
      sized = w.sized ∙ g.sized;
      has = λ c i k l. rw (w.has c i k l, g.has c i k l)
          (⊎_elim (λ s. let e : i ≡ d = eqb-true i d s in rw (e, eq-eqb d d refl, and-true) (here c))
          (λ f. let ne : i ≡ d → ⊥ = eqb-false i d f in rw (f, and-false, first i ne, same i ne))
          (passes_or_fails (eqb i d)));
    }

-- grant d is placed in a class: the table in which it has joined the class goes with the classes in which that is
-- stored
pub gathered_more : {classes after members joined : List ℕ} {d class : ℕ} → Gathered classes d members
    → MemberSet members class d true joined
    → ((i : ℕ) → (i ≡ d → ⊥) → get_or after i 0 ≡ get_or classes i 0) → get_or after d 0 ≡ class
    → Gathered after (suc d) joined
gathered_more {d = d} {class} g j others here =
    gathered_changed g j (λ i ne. ltb_other i d ne) others (λ c.
    rw (le-ltb d d (omega arith), lt-ltb d (suc d) (omega arith), here, eqb_comm c class) (joins (eqb class c)))
  where
    joins : (b : Bool) → cond b true false ≡ b
    joins true = refl
    joins false = refl

-- the latest grant is taken back: it leaves its class
pub gathered_fewer : {classes members left : List ℕ} {d : ℕ} → Gathered classes (suc d) members
    → MemberSet members (get_or classes d 0) d false left
    → Gathered classes d left
gathered_fewer {classes} {d = d} g w =
    gathered_changed g w (λ i ne. sym (ltb_other i d ne)) (λ i ne. refl) (λ c.
    rw (le-ltb d d (omega arith), lt-ltb d (suc d) (omega arith), eqb_comm c (get_or classes d 0))
    (leaves (eqb (get_or classes d 0) c)))
  where
    leaves : (b : Bool) → cond b false b ≡ false
    leaves true = refl
    leaves false = refl
