-- Places are noted one after the other: a place noted last is read back, those noted before stay, and past them none
-- is noted. Assumes nothing.
use Rattle.std.specs.Prelude.{ℕ, suc, ◌≤◌, ◌<◌, ◌≡◌, List, [], length, get_or, set, take, replicate}
use Rattle.std.proofs.Common.{not-suc-le-zero, ne_of_lt, arith, ap, ◌∙◌, ⊎_elim, get_or-set_same, get_or-set_other}
use Rattle.std.proofs.Common.{get_or-take, length-take-le}
use Rattle.std.proofs.lemmas.List.{length-replicate, get_or-replicate}
use Rattle.std.proofs.Math.ListN.{get_or-eq_default}
use Rattle.spec.specs.Text.{Bytes}
use Rattle.bits.specs.Laws.Below.{below_or_from, last_or_below}
use Rattle.places.specs.Places.{place_base, place_of, from_of, to_of, from_at, to_at, Part, PlacedBelow}
use Rattle.places.specs.Places.{NamesPlaced, BlankPast}

-- ---- one number for both ends

module _ (from to : ℕ) (small : to < place_base) where
  pub from_of_place : from_of (place_of from to) ≡ from
  from_of_place = omega arith

  pub to_of_place : to_of (place_of from to) ≡ to
  to_of_place = omega arith

-- ---- a place noted as the n-th

abbrev pub note_place : List ℕ → ℕ → ℕ → ℕ → List ℕ
note_place places n from to = set places n (place_of from to)

module _ (places : List ℕ) (n from to : ℕ) where
  pub place_stays : (i : ℕ) → i < n → get_or (note_place places n from to) i 0 ≡ get_or places i 0
  place_stays i l = get_or-set_other places n i (place_of from to) 0 (ne_of_lt l)

  module _ (h : n < length places) (small : to < place_base) where
    pub noted_from : from_at (note_place places n from to) n ≡ from
    noted_from = ap from_of (get_or-set_same places n (place_of from to) 0 h) ∙ from_of_place from to small

    pub noted_to : to_at (note_place places n from to) n ≡ to
    noted_to = ap to_of (get_or-set_same places n (place_of from to) 0 h) ∙ to_of_place from to small

    -- one more name stands where it was noted
    pub name_noted : (text : Bytes) (names : List Bytes) → PlacedBelow n text places names
        → Part text from to (get_or names n [])
        → PlacedBelow (suc n) text (note_place places n from to) names
    name_noted text names p q = record { each = λ i l. ⊎_elim (here i) (earlier i) (last_or_below l) }
      where
        There : ℕ → Type 0
        There i =
            Part text (from_at (note_place places n from to) i) (to_at (note_place places n from to) i)
            (get_or names i [])

        here : (i : ℕ) → i ≡ n → There i
        here i e = rw (e, noted_from, noted_to) q

        earlier : (i : ℕ) → i < n → There i
        earlier i l = rw (place_stays i l) (p.each i l)

-- no name yet
pub none_noted : (text : Bytes) (places : List ℕ) (names : List Bytes) → PlacedBelow 0 text places names
none_noted text places names = record { each = λ i l. absurd (not-suc-le-zero l) }

-- the part of the places that has one for each name
pub first_placed : (n : ℕ) (text : Bytes) (places : List ℕ) (names : List Bytes) → PlacedBelow n text places names
    → n ≡ length names → n ≤ length places → NamesPlaced text (take n places) names
first_placed n text places names p e room =
    record {
      total = length-take-le n places room ∙ e;
      placed = record {
        each = λ i l. (let below : i < n = omega arith in rw (get_or-take n places i 0 below) (p.each i below));
      };
    }

-- ---- past the places noted

pub zero_there : (n i : ℕ) → ◌≡◌ {A = ℕ} (get_or (replicate n 0) i 0) 0
zero_there n i =
    ⊎_elim (λ l. get_or-replicate n i 0 0 l)
    (λ l. let past : length {A = ℕ} (replicate n 0) ≤ i = omega (arith, length-replicate {A = ℕ} n 0)
    in get_or-eq_default (replicate n 0) 0 past)
    (below_or_from i n)

-- none is past one that is noted next
pub blank_kept : (n : ℕ) (places : List ℕ) (place : ℕ) → BlankPast n places → BlankPast (suc n) (set places n place)
blank_kept n places place b i l = get_or-set_other places n i place 0 (λ e. omega arith) ∙ b i (omega arith)
