-- Two lists that can only be followed by the same: where one is in front of a list and the other is, what follows is
-- the same. Lists of one length are such, and such lists one after the other are. So of parts in front of a list, one
-- after the other, the next part is known too. Assumes nothing.
use Rattle.std.specs.Prelude.{ℕ, zero, suc, ◌<◌, ◌≡◌, refl, ◌⊎◌, Bool, length, drop}
use Rattle.std.proofs.Common.{le_of_suc-le-suc, not-suc-le-zero, arith, sym, ap, ◌∙◌, inl, inr, ⊎_elim}
use Rattle.std.proofs.Math.Bool.{So}
use mathlib.Core.List.{List, [], ◌∷◌, ◌++◌, append_assoc, append_cancel_left, head-eq_of_cons-eq, tail-eq_of_cons-eq}
use Rattle.std.proofs.Math.Seq.{drop-append_seam}
use Rattle.spec.specs.Vocabulary.{parted_by, concat}
use Rattle.lists.specs.CutLaws.{Free, parted_front}
use Rattle.lists.specs.ListOfLaws.{list_of_first}
use Rattle.lists.specs.Listed.{listed}

module _ {A : Type 0} where
  pub record Aligned (a b : List A) : Type 0 where
    pub rest : (l m : List A) → a ++ l ≡ b ++ m → l ≡ m

  pub aligned_same : (a : List A) → Aligned a a
  aligned_same a = record { rest = append_cancel_left a }

  pub aligned_length : (a b : List A) → length a ≡ length b → Aligned a b
  aligned_length a b same =
      record {
        rest = λ l m e.
            sym (drop-append_seam a l) ∙ ap (drop (length a)) e ∙ rw same (drop-append_seam b m);
      }

  pub aligned_then : {a b c d : List A} → Aligned a b → Aligned c d → Aligned (a ++ c) (b ++ d)
  aligned_then {a} {b} {c} {d} p q =
      record {
        rest = λ l m e.
            q.rest l m (p.rest (c ++ l) (d ++ m) (sym (append_assoc a c l) ∙ e ∙ append_assoc b d m));
      }

  -- ---- parts by number

  -- the first part, then the others
  pub listed_first : (count : ℕ) (f : ℕ → List A) → listed (suc count) f ≡ f 0 ++ listed count (λ i. f (suc i))
  listed_first count f = ap concat (list_of_first count f)

  front : (count : ℕ) (f : ℕ → List A) (l : List A) → listed (suc count) f ++ l ≡ f 0 ++
      (listed count (λ i. f (suc i)) ++ l)
  front count f l = rw (listed_first count f) (append_assoc (f 0) (listed count (λ i. f (suc i))) l)

  pub aligned_listed : (count : ℕ) (f g : ℕ → List A) → ((i : ℕ) → i < count → Aligned (f i) (g i))
      → Aligned (listed count f) (listed count g)
  aligned_listed zero f g h = aligned_same []
  aligned_listed (suc count) f g h =
      rw (listed_first count f, listed_first count g)
      (aligned_then (h 0 (omega arith)) (aligned_listed count (λ i. f (suc i)) (λ i. g (suc i))
      (λ i l. h (suc i) (omega arith))))

  -- a list begins with a part
  pub record Begins (part l : List A) : Type 0 where
    pub more : List A
    pub there : l ≡ part ++ more

  -- behind the parts below j the next one follows
  pub listed_next : (j count : ℕ) (f g : ℕ → List A) → j < count → ((i : ℕ) → i < j → Aligned (f i) (g i))
      → (l m : List A)
      → listed j f ++ l ≡ listed count g ++ m → Begins (g j) l
  listed_next j zero f g k h l m e = absurd (not-suc-le-zero k)
  listed_next zero (suc count) f g k h l m e =
      record { more = listed count (λ i. g (suc i)) ++ m; there = e ∙ front count g m }
  listed_next (suc j) (suc count) f g k h l m e =
      listed_next j count (λ i. f (suc i)) (λ i. g (suc i)) (le_of_suc-le-suc k) (λ i n. h (suc i) (omega arith)) l m
      ((h 0 (omega arith)).rest (listed j (λ i. f (suc i)) ++ l) (listed count (λ i. g (suc i)) ++ m)
      (sym (front j f l) ∙ e ∙ front count g m))

  -- where an element that begins no part ends the parts, behind the parts below r the next one follows, or that element
  pub listed_ended : (s : A) (r count : ℕ) (f g : ℕ → List A) → ((i : ℕ) → i < r → Aligned (f i) (g i))
      → ((i : ℕ) → i < r → (l m : List A) → f i ++ l ≡ s ∷ m → ⊥) → (l m : List A) → listed r f ++ l ≡ listed count g
      ++ s ∷ m
      → ((r < count) × Begins (g r) l) ⊎ ((r ≡ count) × (l ≡ s ∷ m))
  listed_ended s zero zero f g h other l m e = inr (refl, e)
  listed_ended s zero (suc count) f g h other l m e =
      inl (omega arith, record { more = listed count (λ i. g (suc i)) ++ s ∷ m; there = e ∙ front count g (s ∷ m) })
  listed_ended s (suc r) zero f g h other l m e =
      absurd (other 0 (omega arith) (listed r (λ i. f (suc i)) ++ l) m (sym (front r f l) ∙ e))
  listed_ended s (suc r) (suc count) f g h other l m e =
      ⊎_elim (λ n. inl (omega (arith, n.0), n.1)) (λ n. inr (ap suc n.0, n.1))
      (listed_ended s r count (λ i. f (suc i)) (λ i. g (suc i)) (λ i n. h (suc i) (omega arith))
      (λ i n. other (suc i) (omega arith)) l m
      ((h 0 (omega arith)).rest (listed r (λ i. f (suc i)) ++ l) (listed count (λ i. g (suc i)) ++ s ∷ m)
      (sym (front r f l) ∙ e ∙ front count g (s ∷ m))))

  -- ---- parts that a separator ends

  -- what stands before the first separator
  pub ended_same : (separator : A → Bool) (s : A) → So (separator s) → (a b l m : List A) → Free separator a
      → Free separator b
      → a ++ s ∷ l ≡ b ++ s ∷ m → a ≡ b
  ended_same separator s p a b l m free other e =
      head-eq_of_cons-eq
      (sym (parted_front separator s p a l free) ∙ ap (parted_by separator) e ∙ parted_front separator s p b m other)

  pub ended_aligned : (separator : A → Bool) (s : A) → So (separator s) → (a b : List A) → Free separator a
      → Free separator b
      → Aligned (a ++ s ∷ []) (b ++ s ∷ [])
  ended_aligned separator s p a b free other =
      record {
        rest = λ l m e.
            (let both : a ++ s ∷ l ≡ b ++ s ∷ m = sym (append_assoc a (s ∷ []) l) ∙ e ∙ append_assoc b (s ∷ []) m in
            let same : a ≡ b = ended_same separator s p a b l m free other both in
            tail-eq_of_cons-eq (append_cancel_left b (s ∷ l) (s ∷ m) (rw same at both)));
      }
