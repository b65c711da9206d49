-- The names at places of a text, by their numbers; and what a search that passes them one by one finds. Assumes
-- nothing.
use Rattle.std.specs.Prelude.{ℕ, ◌≤◌, ◌<◌, ◌≡◌, false, List, [], length, get_or}
use Rattle.std.proofs.Common.{arith, ◌∙◌}
use Rattle.std.proofs.Math.Bool.{So}
use Rattle.std.proofs.Math.Option.{none, some}
use Rattle.spec.specs.Limits.{user_limit}
use Rattle.spec.specs.Text.{Bytes, same_name}
use Rattle.bits.specs.Laws.Lowest.{lowest_below_intro, lowest_below_none_intro}
use Rattle.lists.specs.ListOfLaws.{length_list_of, getD_list_of, list_of_same, list_of_places}
use Rattle.places.specs.Places.{NamesPlaced}
use Rattle.names.specs.NamesAt.{Inside, PartThere, name_there, names_at, all_names, name_number}

pub names_total : (text : Bytes) (places : List ℕ) (count : ℕ) → length (names_at text places count) ≡ count
names_total text places count = length_list_of count (name_there text places)

pub name_of : (text : Bytes) (places : List ℕ) (count i : ℕ) → i < count
    → get_or (names_at text places count) i [] ≡ name_there text places i
name_of text places count i h = getD_list_of count (name_there text places) i [] h

-- the names that stand at their places are the names at those places
pub placed_names : (text : Bytes) (places : List ℕ) (names : List Bytes) → NamesPlaced text places names
    → all_names text places ≡ names
placed_names text places names p =
    rw p.total
    (list_of_same (length names) (name_there text places) (λ i. get_or names i []) (λ i l. (p.placed.each i l).reads)
    ∙ list_of_places names [])

pub placed_inside : (text : Bytes) (places : List ℕ) (names : List Bytes) → NamesPlaced text places names
    → length names ≤ user_limit
    → Inside text places
placed_inside text places names p few =
    record {
      few = omega (arith, p.total);
      forward = λ i l. (p.placed.each i (rw p.total at l)).forward;
      within = λ i l. (p.placed.each i (rw p.total at l)).within;
    }

pub inside_part : {text : Bytes} {places : List ℕ} → Inside text places → (i : ℕ) → i < length places
    → PartThere text places i
inside_part inside i h = (h, inside.forward i h, inside.within i h)

-- no name before i equals the name looked for
abbrev pub Unlike : Bytes → List ℕ → ℕ → Bytes → ℕ → Type 0
Unlike text places count name i = (j : ℕ) → j < i → same_name name (get_or (names_at text places count) j []) ≡ false

pub found_at : (text : Bytes) (places : List ℕ) (count : ℕ) (name : Bytes) (i : ℕ) → i < count
    → Unlike text places count name i
    → So (same_name name (name_there text places i)) → name_number (names_at text places count) name ≡ some i
found_at text places count name i h before p =
    rw (names_total text places count)
    (lowest_below_intro count (λ j. same_name name (get_or (names_at text places count) j []))
    (record { within = h; holds = rw (name_of text places count i h) p; first = before }))

pub found_nothing : (text : Bytes) (places : List ℕ) (count : ℕ) (name : Bytes) → Unlike text places count name count
    → name_number (names_at text places count) name ≡ none
found_nothing text places count name before =
    rw (names_total text places count)
    (lowest_below_none_intro count (λ j. same_name name (get_or (names_at text places count) j [])) before)
