-- The name that a line begins with, looked for among the users: what is found says whether one of them has it. Assumes
-- nothing.
use Rattle.std.specs.Prelude.{ℕ, ◌-◌, ◌≤◌, ◌≡◌, refl, false, List, [], ◌∷◌, length, get_or, take, Some, None}
use Rattle.std.specs.Option.{is_some}
use Rattle.std.proofs.Common.{arith, sym, ap, ◌∙◌}
use Rattle.std.proofs.Math.Bool.{So}
use Rattle.std.proofs.Math.Option.{Option, none, some}
use Rattle.spec.specs.Text.{Bytes, same_name}
use Rattle.spec.specs.Form.{known}
use Rattle.bits.specs.Laws.Lowest.{lowest_below_elim, lowest_below_none_elim}
use Rattle.lists.specs.TestLaws.{any_intro, none_intro, member_at, place_of}
use Rattle.places.specs.Places.{Part}
use Rattle.reader.specs.Fields.{field_read}
use Rattle.names.specs.NamesAt.{name_number, found}
use Rattle.refusal.specs.Laws.Fields.{first_line_read}
use Rattle.refusal.specs.Laws.ReadLine.{first_field_part}
use Rattle.longer.specs.OneLine.{added_name}

-- the bytes of a line up to a place are its name
pub record NameUpTo (line : Bytes) (to : ℕ) : Type 0 where
  pub within : to ≤ length line
  pub reads : take to line ≡ added_name line

first_field_read : (line : Bytes) → Part line 0 (field_read line 0).to (added_name line)
first_field_read [] = first_field_part [] 0 (omega arith)
first_field_read (b ∷ rest) = rw (first_line_read b rest) (first_field_part (b ∷ rest) 0 (omega arith))

-- the first field is read so
pub name_of_line : (line : Bytes) → NameUpTo line (field_read line 0).to
name_of_line line =
    let field = first_field_read line in
    let to = (field_read line 0).to in
    let whole : to ≡ to - 0 = omega arith in
    record { within = field.within; reads = ap (λ (n : ℕ). take n line) whole ∙ field.reads }

module _ (names : List Bytes) (name : Bytes) where
  -- where a number is found, the name is known
  pub found_known : {i : ℕ} → found (name_number names name) ≡ Some i → So (known names name)
  found_known {i} told = choose (name_number names name) refl told
    where
      choose : (number : Option ℕ) → name_number names name ≡ number → found number ≡ Some i → So (known names name)
      choose none e told = absurd (let z : ◌≡◌ {A = ℕ} 0 1 = cc in omega arith)
      choose (some j) e told =
          let low = lowest_below_elim (length names) (λ k. same_name name (get_or names k [])) e in
          any_intro (same_name name) names (member_at names j [] low.within) low.holds

  -- and where none is, it is not
  pub nothing_unknown : found (name_number names name) ≡ None → known names name ≡ false
  nothing_unknown told = choose (name_number names name) refl told
    where
      choose : (number : Option ℕ) → name_number names name ≡ number → found number ≡ None
          → known names name ≡ false
      choose none e told =
          none_intro (same_name name) names (λ other m.
          let r = place_of names [] m in
          rw (← r.there) (lowest_below_none_elim (length names) (λ k. same_name name (get_or names k [])) e r.within))
      choose (some j) e told = absurd (let z : ◌≡◌ {A = ℕ} 0 1 = cc in omega arith)

  pub found_is_known : is_some (found (name_number names name)) ≡ known names name
  found_is_known = choose (name_number names name) refl
    where
      choose : (number : Option ℕ) → name_number names name ≡ number → is_some (found number) ≡ known names name
      choose none e = sym (nothing_unknown (ap found e))
      choose (some j) e = sym (found_known {i = j} (ap found e))
