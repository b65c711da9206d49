-- The remaining grant with the fewest partners, found by one walk over the cells: the best so far is kept unless the
-- next grant has fewer. The words count a grant itself among those that fit it, so every count is 1 more than the
-- partners.
use Rattle.std.specs.Prelude.{ℕ, ◌+◌, ◌*◌, ◌<◌, ◌≡◌, refl, ◌⊎◌, Bool, true, false, cond, List, [], ◌∷◌, ◌++◌, ltb, Option, Some, None, IfSome}
use Rattle.std.proofs.Common.{arith, ap, ◌∙◌, inl, inr, ltb-true, ltb-false, le-leb}
use Rattle.std.proofs.Math.Bool.{So}
use Rattle.std.proofs.Math.Option.{none, some}
use Rattle.std.proofs.Math.Option as math
use Rattle.std.proofs.lemmas.Bool.{lt-leb}
use Rattle.spec.specs.Vocabulary.{least}
use Rattle.spec.specs.Sheet.{Sheet, Grant}
use Rattle.spec.specs.Witness.{fewest_partners}
use Rattle.bits.specs.Truth.{passes_or_fails}
use Rattle.lists.specs.LeastLast.{or_lesser, least_last}
use Rattle.cell_rows.specs.Rows.{row_bits}
use Rattle.witness.specs.declared.choice.Choice.{Choice}
use Rattle.cells.specs.CellSets.{cell_grants}
use Rattle.cell_rows.specs.CellPlaces.{grant_of, marked, Shown, Part}

-- the grant that a choice names
abbrev pub choice_of : Option Choice → math.Option Grant
choice_of None = none
choice_of (Some choice) = some (grant_of choice.cell.0)

-- the grant at a cell, and none
abbrev pub choose : ℕ → ℕ → Choice
choose cell count = record { cell = record { 0 = cell }; partners = count }

abbrev pub no_choice : Option Choice
no_choice = None

-- the choice so far, unless the grant at a cell has fewer partners
abbrev pub better_of : Option Choice → ℕ → ℕ → Choice
better_of None cell count = choose cell count
better_of (Some best) cell count = cond (ltb count best.partners) (choose cell count) best

-- a choice names a cell of left below an end
pub record ChoiceWithin (left : List ℕ) (end : ℕ) (choice : Option Choice) : Type 0 where
  pub within : IfSome choice (λ c. c.cell.0 < end)
  pub is_set : IfSome choice (λ c. So (marked left c.cell.0))

-- of the remaining grants of a sheet it is the one with the fewest partners
pub record Fewest (rows left : List ℕ) (users : ℕ) (choice : Option Choice) : Type 0 where
  pub standing : ChoiceWithin left (users * row_bits) choice
  pub is_fewest :
      (sheet : Sheet) → Shown rows users sheet → Part left rows → fewest_partners sheet (cell_grants sheet left) ≡
      choice_of choice

-- ---- in the walk

-- of some of the remaining grants it is the first with the least measure, which the count is 1 more than
pub record Least (measure : Grant → ℕ) (seen : List Grant) (choice : Option Choice) : Type 0 where
  pub first : least measure seen ≡ choice_of choice
  pub counted : IfSome choice (λ c. c.partners ≡ measure (grant_of c.cell.0) + 1)

pub none_seen : (measure : Grant → ℕ) → Least measure [] no_choice
none_seen measure = record { first = refl; counted = tt }

module _ (measure : Grant → ℕ) (seen : List Grant) (n count : ℕ) (exact : count ≡ measure (grant_of n) + 1) where
  -- the grant at the cell is taken
  found_better : or_lesser measure (least measure seen) (grant_of n) ≡ grant_of n
      → Least measure (seen ++ grant_of n ∷ []) (Some (choose n count))
  found_better h = record {
    first = least_last measure seen (grant_of n) ∙ ap some h;
    counted = exact;
  }

  pub one_more_seen : (best : Option Choice) → Least measure seen best
      → Least measure (seen ++ grant_of n ∷ []) (Some (better_of best n count))
  one_more_seen None so_far = found_better (rw so_far.first)
  one_more_seen (Some best) so_far = split (passes_or_fails (ltb count best.partners))
    where
      split : So (ltb count best.partners) ⊎ (ltb count best.partners ≡ false)
          → Least measure (seen ++ grant_of n ∷ []) (Some (better_of (Some best) n count))
      split (inl q) =
          rw q (found_better (rw (
            so_far.first,
            lt-leb (measure (grant_of best.cell.0)) (measure (grant_of n))
                (omega (arith, so_far.counted, ltb-true count best.partners q)),
          )))
      split (inr q) =
          rw q (record {
            first = least_last measure seen (grant_of n)
                ∙ rw (
                  so_far.first,
                  le-leb (measure (grant_of best.cell.0)) (measure (grant_of n))
                      (omega (arith, so_far.counted, ltb-false count best.partners q)),
                );
            counted = so_far.counted;
          })

-- ---- a choice is a cell of left

pub none_standing : (left : List ℕ) (end : ℕ) → ChoiceWithin left end no_choice
none_standing left end = record { within = tt; is_set = tt }

pub better_standing : (left : List ℕ) (end : ℕ) (best : Option Choice) → ChoiceWithin left end best → (n count : ℕ)
    → n < end → So (marked left n)
    → ChoiceWithin left end (Some (better_of best n count))
better_standing left end None s n count l p = record { within = l; is_set = p }
better_standing left end (Some best) s n count l p = pick (ltb count best.partners)
  where
    pick : (b : Bool) → ChoiceWithin left end (Some (cond b (choose n count) best))
    pick true = record { within = l; is_set = p }
    pick false = s
