-- Noting where the fields after the first of the first line stand, field by field. Assumes nothing.
use Rattle.std.specs.Prelude.{ℕ, suc, ◌≤◌, ◌<◌, Bool, true, false, ◌≡◌, List, length}
use Rattle.std.proofs.Common.{arith, ◌∙◌, length-set}
use Rattle.spec.specs.Text.{Bytes}
use Rattle.reader.specs.Fields.{field_read}
use Rattle.refusal.specs.Laws.FieldsLeft.{fields_after, FieldsLeft, fields_start, field_below, field_there}
use Rattle.refusal.specs.Laws.FieldsLeft.{fields_go_on, fields_end}
use Rattle.places.specs.Places.{place_base, place_of, PlacedBelow}
use Rattle.places.specs.Laws.Places.{note_place, name_noted, none_noted}

-- the first n fields after the first are noted, and the line is read up to a cursor
pub record FieldsNoted (room : ℕ) (text : Bytes) (places : List ℕ) (n : ℕ) (last : Bool) (next : ℕ) : Type 0 where
  pub has_room : length places ≡ room
  pub small : length text < place_base
  pub noted : PlacedBelow n text places (fields_after text 0)
  pub left : FieldsLeft text 0 n last next

pub noting_fields_starts : (room : ℕ) (text : Bytes) (places : List ℕ) → length places ≡ room
    → length text < place_base
    → FieldsNoted room text places 0 (field_read text 0).last (field_read text 0).next.at
noting_fields_starts room text places s small =
    record {
      has_room = s;
      small = small;
      noted = none_noted text places (fields_after text 0);
      left = fields_start text 0
          (omega arith);
    }

pub noting_fields_goes_on : (room : ℕ) (text : Bytes) (places : List ℕ) (n next : ℕ) → FieldsNoted room text places n
    false next
    → length (fields_after text 0) ≤ room
    → FieldsNoted room text (note_place places n (field_read text next).from (field_read text next).to) (suc n)
    (field_read text next).last (field_read text next).next.at
noting_fields_goes_on room text places n next noting few =
    let field = field_there text 0 n next noting.left in
    let from = (field_read text next).from in
    let to = (field_read text next).to in
    record {
      has_room = length-set places n (place_of from to) ∙ noting.has_room;
      small = noting.small;
      noted =
          name_noted places n from to (omega (arith, field_below text 0 n next noting.left, noting.has_room))
          (omega (arith, field.within, noting.small)) text (fields_after text 0) noting.noted field;
      left = fields_go_on text 0 n next noting.left;
    }

-- while fewer fields are noted than there are, the line goes on
pub noting_fields_left : (room : ℕ) (text : Bytes) (places : List ℕ) (n : ℕ) (last : Bool) (next : ℕ)
    → FieldsNoted room text places n last next → n < length (fields_after text 0)
    → FieldsNoted room text places n false next
noting_fields_left room text places n true next noting h =
    let all : length (fields_after text 0) ≤ n = fields_end text 0 n next noting.left in
    absurd (omega arith)
noting_fields_left room text places n false next noting h = noting

-- at the end of the line all fields are noted
pub noting_fields_ends : (room : ℕ) (text : Bytes) (places : List ℕ) (n : ℕ) (last : Bool) (next : ℕ)
    → FieldsNoted room text places n last next → n ≡ length (fields_after text 0)
    → PlacedBelow (length (fields_after text 0)) text places (fields_after text 0)
noting_fields_ends room text places n last next noting e = rw (← e) noting.noted
