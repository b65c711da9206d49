-- Cutting a list at separators and joining the parts are inverse to each other. A part that holds no separator is
-- read off whole before the next separator stands, and `cut` puts one element before the parts of the rest just as
-- joining the parts puts it before the rest. Assumes nothing.
use Rattle.std.specs.Prelude.{◌≤◌, ◌≡◌, refl, ◌⊎◌, Bool, true, false, length}
use Rattle.std.proofs.Common.{not-suc-le-zero, arith, ◌∙◌, inl, inr, ⊎_elim}
use Rattle.std.proofs.Math.Bool.{So}
use mathlib.Core.List.Memᴰ
use mathlib.Core.List.{List, [], ◌∷◌, ◌++◌, map, append_assoc, Memᴰ}
use Rattle.spec.specs.Vocabulary.{cut, ended_by, parted_by, joined, concat}
use Rattle.bits.specs.Truth.{not_both}

module _ {A : Type 0} where
  -- no element is a separator
  abbrev pub Free : (A → Bool) → List A → Type 0
  Free separator part = (a : A) → Memᴰ a part → separator a ≡ false

  -- no element of any part is a separator
  abbrev pub Parts : (A → Bool) → List (List A) → Type 0
  Parts separator parts = (part : List A) → Memᴰ part parts → Free separator part

  -- the list is empty, or its last element is a separator
  abbrev pub closed : (A → Bool) → List A → Bool
  closed separator [] = true
  closed separator (a ∷ []) = separator a
  closed separator (a ∷ next ∷ rest) = closed separator (next ∷ rest)

  -- a part with the separator that ends it
  abbrev pub ending : A → List A → List A
  ending s part = part ++ s ∷ []

  -- ---- from parts to the list and back

  free_rest : {separator : A → Bool} {a : A} {part : List A} → Free separator (a ∷ part) → Free separator part
  free_rest h b m = h b (Memᴰ.tail m)

  later_parts : {separator : A → Bool} {part : List A} {later : List (List A)} → Parts separator (part ∷ later)
      → Parts separator later
  later_parts h q m = h q (Memᴰ.tail m)

  -- a list without separators is one part
  pub parted_part : (separator : A → Bool) (part : List A) → Free separator part → parted_by separator part ≡ part ∷ []
  parted_part separator [] h = refl
  parted_part separator (a ∷ part) h = rw (parted_part separator part (free_rest h), h a (Memᴰ.head refl))

  -- what stands before the first separator is the first part
  pub parted_front : (separator : A → Bool) (s : A) → So (separator s) → (part rest : List A) → Free separator part
      → parted_by separator (part ++ s ∷ rest) ≡ part ∷ parted_by separator rest
  parted_front separator s p [] rest h = rw p
  parted_front separator s p (a ∷ part) rest h = rw (
    parted_front separator s p part rest (free_rest h),
    h a (Memᴰ.head refl),
  )

  -- and so it is where separators end the parts
  pub ended_front : (separator : A → Bool) (s : A) → So (separator s) → (part rest : List A) → Free separator part
      → ended_by separator (part ++ s ∷ rest) ≡ part ∷ ended_by separator rest
  ended_front separator s p [] rest h = rw p
  ended_front separator s p (a ∷ part) rest h = rw (
    ended_front separator s p part rest (free_rest h),
    h a (Memᴰ.head refl),
  )

  -- parts that hold no separator are the parts of their joining
  pub parted_joined : (separator : A → Bool) (s : A) → So (separator s) → (parts : List (List A)) → 1 ≤ length parts
      → Parts separator parts → parted_by separator (joined s parts) ≡ parts
  parted_joined separator s p [] some h = absurd (not-suc-le-zero some)
  parted_joined separator s p (part ∷ []) some h = parted_part separator part (h part (Memᴰ.head refl))
  parted_joined separator s p (part ∷ next ∷ later) some h =
      rw (
        parted_front separator s p part (joined s (next ∷ later)) (h part (Memᴰ.head refl)),
        parted_joined separator s p (next ∷ later) (omega arith) (later_parts h),
      )

  pub append_ending : (s : A) (part rest : List A) → ending s part ++ rest ≡ part ++ s ∷ rest
  append_ending s part rest = append_assoc part (s ∷ []) rest

  -- parts that hold no separator, each with a separator after it, are the parts of the whole
  pub ended_concat : (separator : A → Bool) (s : A) → So (separator s) → (parts : List (List A)) → Parts separator parts
      → ended_by separator (concat (map (ending s) parts)) ≡ parts
  ended_concat separator s p [] h = refl
  ended_concat separator s p (part ∷ later) h =
      rw (
        append_ending s part (concat (map (ending s) later)),
        ended_front separator s p part (concat (map (ending s) later)) (h part (Memᴰ.head refl)),
        ended_concat separator s p later (later_parts h),
      )

  -- ---- from the list to parts and back

  cut_some : (t : Bool) (a : A) (parts : List (List A)) → 1 ≤ length (cut t a parts)
  cut_some true a parts = omega arith
  cut_some false a [] = omega arith
  cut_some false a (part ∷ later) = omega arith

  -- there is always a part between separators
  pub parted_some : (separator : A → Bool) (l : List A) → 1 ≤ length (parted_by separator l)
  parted_some separator [] = omega arith
  parted_some separator (a ∷ rest) = cut_some (separator a) a (parted_by separator rest)

  -- there is a part that a separator ends, unless there is no element
  pub ended_some : (separator : A → Bool) (a : A) (rest : List A) → 1 ≤ length (ended_by separator (a ∷ rest))
  ended_some separator a rest = cut_some (separator a) a (ended_by separator rest)

  joined_cut : (s : A) (t : Bool) (a : A) (parts : List (List A)) → 1 ≤ length parts → (So t → a ≡ s)
      → joined s (cut t a parts) ≡ a ∷ joined s parts
  joined_cut s t a [] some h = absurd (not-suc-le-zero some)
  joined_cut s true a (part ∷ later) some h = rw (h refl)
  joined_cut s false a (part ∷ []) some h = refl
  joined_cut s false a (part ∷ next ∷ later) some h = refl

  -- the parts between separators, joined, are the list
  pub joined_parted : (separator : A → Bool) (s : A) → ((a : A) → So (separator a) → a ≡ s) → (l : List A)
      → joined s (parted_by separator l) ≡ l
  joined_parted separator s only [] = refl
  joined_parted separator s only (a ∷ rest) =
      joined_cut s (separator a) a (parted_by separator rest) (parted_some separator rest) (only a)
      ∙ rw (joined_parted separator s only rest)

  concat_cut : (s : A) (t : Bool) (a : A) (parts : List (List A)) → (t ≡ false → 1 ≤ length parts) → (So t → a ≡ s)
      → concat (map (ending s) (cut t a parts)) ≡ a ∷ concat (map (ending s) parts)
  concat_cut s true a parts some h = rw (h refl)
  concat_cut s false a [] some h = absurd (not-suc-le-zero (some refl))
  concat_cut s false a (part ∷ later) some h = refl

  closed_rest : (separator : A → Bool) (a : A) (rest : List A) → So (closed separator (a ∷ rest))
      → So (closed separator rest)
  closed_rest separator a [] e = refl
  closed_rest separator a (next ∷ rest) e = e

  closed_some : (separator : A → Bool) (a : A) (rest : List A) → So (closed separator (a ∷ rest)) → separator a ≡ false
      → 1 ≤ length (ended_by separator rest)
  closed_some separator a [] e f = absurd (not_both e f)
  closed_some separator a (next ∷ rest) e f = ended_some separator next rest

  -- the parts that separators end, each with its separator, are the list, where nothing follows the last separator
  pub concat_ended : (separator : A → Bool) (s : A) → ((a : A) → So (separator a) → a ≡ s) → (l : List A)
      → So (closed separator l)
      → concat (map (ending s) (ended_by separator l)) ≡ l
  concat_ended separator s only [] e = refl
  concat_ended separator s only (a ∷ rest) e =
      concat_cut s (separator a) a (ended_by separator rest) (closed_some separator a rest e) (only a)
      ∙ rw (concat_ended separator s only rest (closed_rest separator a rest e))

  -- ---- the elements of a part

  -- an element of the list that is no separator
  pub record InList (separator : A → Bool) (l : List A) (c : A) : Type 0 where
    pub member : Memᴰ c l
    pub free : separator c ≡ false

  in_rest : {separator : A → Bool} {a : A} {rest : List A} {c : A} → InList separator rest c
      → InList separator (a ∷ rest) c
  in_rest r = record { member = Memᴰ.tail r.member; free = r.free }

  -- every element of every part is such an element
  abbrev Within : (A → Bool) → List A → List (List A) → Type 0
  Within separator l parts = (part : List A) → Memᴰ part parts → (c : A) → Memᴰ c part → InList separator l c

  cut_element : (separator : A → Bool) (t : Bool) (a : A) (rest : List A) (parts : List (List A)) → separator a ≡ t
      → Within separator rest parts → Within separator (a ∷ rest) (cut t a parts)
  cut_element separator true a rest parts e later part m c n =
      ⊎_elim (λ p. absurd (Memᴰ.not-nil (rw p at n))) (λ k. in_rest (later part k c n)) (Memᴰ.cases_cons m)
  cut_element separator false a rest [] e later part m c n =
      let q : c ≡ a = Memᴰ.eq_of_singleton (rw (Memᴰ.eq_of_singleton m) at n) in
      record { member = Memᴰ.head q; free = rw q e }
  cut_element separator false a rest (front ∷ parts) e later part m c n =
      ⊎_elim (λ p. choose (Memᴰ.cases_cons (rw p at n))) (λ k. in_rest (later part (Memᴰ.tail k) c n))
      (Memᴰ.cases_cons m)
    where
      choose : (c ≡ a) ⊎ Memᴰ c front → InList separator (a ∷ rest) c
      choose (inl q) = record { member = Memᴰ.head q; free = rw q e }
      choose (inr k) = in_rest (later front (Memᴰ.head refl) c k)

  -- an element of a part stands in the list and is no separator
  pub parted_element : (separator : A → Bool) (l : List A) (part : List A) → Memᴰ part (parted_by separator l)
      → (c : A) → Memᴰ c part → InList separator l c
  parted_element separator [] part m c n = absurd (Memᴰ.not-nil (rw (Memᴰ.eq_of_singleton m) at n))
  parted_element separator (a ∷ rest) part m c n =
      cut_element separator (separator a) a rest (parted_by separator rest) refl (parted_element separator rest) part
      m c n

  -- and so it is where separators end the parts
  pub ended_element : (separator : A → Bool) (l : List A) (part : List A) → Memᴰ part (ended_by separator l)
      → (c : A) → Memᴰ c part → InList separator l c
  ended_element separator [] part m c n = absurd (Memᴰ.not-nil m)
  ended_element separator (a ∷ rest) part m c n =
      cut_element separator (separator a) a rest (ended_by separator rest) refl (ended_element separator rest) part m
      c n

  -- no part holds a separator
  pub parted_parts : (separator : A → Bool) (l : List A) → Parts separator (parted_by separator l)
  parted_parts separator l part m c n = (parted_element separator l part m c n).free

  pub ended_parts : (separator : A → Bool) (l : List A) → Parts separator (ended_by separator l)
  ended_parts separator l part m c n = (ended_element separator l part m c n).free
