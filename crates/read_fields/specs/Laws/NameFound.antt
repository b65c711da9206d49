-- What stands before the first byte that ends a name, looked up in a list of names: it is the name of the number
-- found, in some case, and where none is found no name of the list stands there in any. Assumes nothing.
use Rattle.std.specs.Prelude.{ℕ, ◌+◌, ◌<◌, ◌≡◌, refl, List, [], ◌∷◌, length, get_or, Some, None}
use Rattle.std.proofs.Common.{add-one, arith, sym, ap, ◌∙◌, append_assoc}
use Rattle.std.proofs.Math.Option.{Option, none, some}
use Rattle.spec.specs.Text.{Bytes, lowered, same_name}
use Rattle.bits.specs.Truth.{not_both}
use Rattle.bits.specs.Laws.Lowest.{lowest_below_elim, lowest_below_none_elim}
use Rattle.text.specs.Laws.Lowered.{same_name_elim, same_name_intro}
use Rattle.places.specs.Places.{part}
use Rattle.names.specs.NamesAt.{name_number, found}
use Rattle.steps.specs.Ended.{Ended, Unended, ended_once, ended_stands}
use Rattle.read_fields.specs.NameSteps.{NameAt, NoName}

module _ (names : List Bytes) (name : Bytes) where
  -- a name that was looked up
  record Named (i : ℕ) : Type 0 where
    within : i < length names
    same : lowered name ≡ lowered (get_or names i [])

  named : (n : ℕ) (o : Option ℕ) → name_number names name ≡ o → Some n ≡ found o → Named n
  named n none p q = absurd (let z : ◌≡◌ {A = ℕ} 0 1 = cc in omega arith)
  named n (some i) p q =
      let l = lowest_below_elim (length names) (λ j. same_name name (get_or names j [])) p in
      let here : n ≡ i = cc in
      rw here (record { within = l.within; same = same_name_elim name (get_or names i []) l.holds })

  unnamed : (o : Option ℕ) → name_number names name ≡ o → None ≡ found o → (i : ℕ) → i < length names
      → lowered name ≡ lowered (get_or names i []) → ⊥
  unnamed none p q i h same =
      not_both (same_name_intro name (get_or names i []) same) (lowest_below_none_elim (length names)
      (λ j. same_name name (get_or names j [])) p h)
  unnamed (some j) p q i h same = absurd (let z : ◌≡◌ {A = ℕ} 0 1 = cc in omega arith)

module _ (names : List Bytes) {text : Bytes} {at end : ℕ} where
  pub no_name_ended : Unended text at end → NoName names text at end
  no_name_ended u i h spelled same free =
      record { misses = λ rest e. u.none spelled rest (e ∙ append_assoc spelled (end ∷ []) rest) }

  module _ {to : ℕ} (p : Ended text at end to) where
    pub no_name_known : None ≡ found (name_number names (part at to text)) → NoName names text at end
    no_name_known e i h spelled same free =
        record {
          misses = λ rest f.
              (let there = (ended_once p spelled rest free (f ∙ append_assoc spelled (end ∷ []) rest)).0 in
              unnamed names (part at to text) (name_number names (part at to text)) refl e i h
              (ap lowered (sym there) ∙ same));
        }

    pub name_at : {n : ℕ} → Some n ≡ found (name_number names (part at to text)) → NameAt names text at end n (to + 1)
    name_at {n} e =
        let known = named names (part at to text) n (name_number names (part at to text)) refl e in
        record {
          within = known.within;
          spelled = part at to text;
          same = known.same;
          reads = rw (add-one to) (ended_stands p);
        }
