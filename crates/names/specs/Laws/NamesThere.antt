-- The names of an accepted sheet at their places: each stands in the text, and no two are equal. Assumes nothing.
use Rattle.std.specs.Prelude.{ℕ, ◌≤◌, ◌<◌, ◌≡◌, List, [], length, get_or}
use Rattle.std.proofs.Common.{arith, sym, ap, ◌∙◌}
use Rattle.spec.specs.Limits.{permission_limit, user_limit}
use Rattle.spec.specs.Text.{Bytes, lowered, same_name}
use Rattle.spec.specs.Sheet.{sheet_of}
use Rattle.spec.specs.Rules.{Names}
use Rattle.bits.specs.Truth.{fails_unless}
use Rattle.text.specs.Laws.Lowered.{same_name_elim}
use Rattle.rules.specs.AcceptedFacts.{accepted_lawful}
use Rattle.places.specs.Places.{NamesPlaced}
use Rattle.names.specs.NamesAt.{Inside, PartThere, name_there, all_names, Apart}
use Rattle.names.specs.Laws.NamesAt.{placed_names, placed_inside}
use Rattle.names.specs.LaidOut.{UsersAt, PermissionsAt}

-- the names at the places are these, and no two are equal
pub record NamesThere (text : Bytes) (places : List ℕ) (names : List Bytes) : Type 0 where
  pub inside : Inside text places
  pub apart : Apart text places (length places)
  pub same : all_names text places ≡ names

names_there : (text : Bytes) (places : List ℕ) (names : List Bytes) → NamesPlaced text places names → Names names
    → length names ≤ user_limit
    → NamesThere text places names
names_there text places names p lawful few =
    record {
      inside = placed_inside text places names p few;
      apart = λ i j h k.
          (let below : j < length names = rw p.total at k in
          fails_unless (same_name (name_there text places i) (name_there text places j)) (λ equal.
          lawful.distinct i j h below
          (sym (ap lowered (p.placed.each i (omega arith)).reads)
          ∙ same_name_elim (name_there text places i) (name_there text places j) equal
          ∙ ap lowered (p.placed.each j below).reads)));
      same = placed_names text places names p;
    }

pub users_there : {text : Bytes} {places : List ℕ} → UsersAt text places → NamesThere text places
    (sheet_of text).users
users_there {text} {places} at =
    let lawful = accepted_lawful text at.accepts in
    names_there text places (sheet_of text).users at.names lawful.user_names lawful.few_users

pub permissions_there : {text : Bytes} {places : List ℕ} → PermissionsAt text places → NamesThere text places
    (sheet_of text).permissions
unfolding permission_limit user_limit
permissions_there {text} {places} at =
    let lawful = accepted_lawful text at.accepts in
    let few = lawful.few_permissions in
    names_there text places (sheet_of text).permissions at.names lawful.permission_names (omega arith)

-- a name of a number below their count is there
pub name_placed : {text : Bytes} {places : List ℕ} {names : List Bytes} → NamesPlaced text places names → (i : ℕ)
    → i < length names
    → PartThere text places i × (name_there text places i ≡ get_or names i [])
name_placed p i h =
    let name = p.placed.each i h in ((omega (arith, p.total), name.forward, name.within), name.reads)
