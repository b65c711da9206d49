-- The grouping by fit in the making: the first numbers have their classes, the words say what the members of each
-- class ask and lack, and which classes are allowed to the user of the latest. The lowest free class is the one that
-- the grouping gives the next number: a class without members is free, so it is the next class where no other is.
-- Where none is free below a bound, the grouping has more classes than that.
use Rattle.std.specs.Prelude.{ℕ, zero, suc, ◌+◌, ◌-◌, ◌^◌, ◌≤◌, ◌<◌, max, ◌≡◌, refl, Bool, true, false, List, length, get_or, set, replicate}
use Rattle.std.proofs.Common.{le_refl, le_trans, le_of_lt, lt_of_lt_of_le, add-one, arith, sym, ◌∙◌, inl, inr, ⊎_elim}
use Rattle.spec.specs.Cover.{used, joins, grouping}
use Rattle.bits.specs.Truth.{not_both}
use Rattle.bits.specs.Counting.{NextFrom}
use Rattle.bits.specs.Laws.Below.{below_or_from}
use Rattle.bits.specs.Laws.Lowest.{lowest_below_intro}
use Rattle.lists.specs.PlacementLaws.{earlier_uses_fewer, latest_below_used}
use Rattle.lists.specs.GroupingLaws.{class_taken, grouping_length, grouping_valid}
use Rattle.bits.specs.Bit.{word_bits}
use Rattle.cell_rows.specs.Rows.{row_words, row_bits}
use Rattle.cell_rows.specs.CellAdded.{CellAdded}
use Rattle.cover.specs.CoverRelation.{fit_at_cells, permission_at_cell, user_at_cell, HeldCells}
use Rattle.cover.specs.CoverPlaced.{Placed, next_class, none_placed, taken_le, one_placed}
use Rattle.cover.specs.CoverMembers.{class_words, Members, no_members, one_member, joinable_is_joins}
use Rattle.cover.specs.CoverWords.{LacksAdded, all_lacks_added}
use Rattle.cover.specs.CoverFree.{free}
use Rattle.cover.specs.CoverAllowed.{AllowedTo, all_allowed, allowed_kept, free_is_joinable}

-- the first d numbers are grouped by fit, and the words say so; user u is the one of the latest
pub record FitSoFar (rows cells classes : List ℕ) (d count : ℕ) (asked lacked : List ℕ) (u : ℕ) (allowed : List ℕ)
    (most : ℕ) : Type 0 where
  pub placed : Placed (grouping (fit_at_cells rows cells) d) classes d count
  pub members : Members rows cells classes d asked lacked
  pub allowing : AllowedTo rows asked u most allowed

-- at first there is none
pub none_fitted : (rows cells classes : List ℕ) (u n m most : ℕ) → n ≡ class_words → m ≡ row_words → most ≤ row_bits
    → FitSoFar rows cells classes 0 0 (replicate n 0) (replicate n 0) u (replicate m (2 ^ word_bits - 1)) most
none_fitted rows cells classes u n m most e f few = record {
  placed = none_placed classes;
  members = no_members rows cells classes n e;
  allowing = all_allowed rows u n m most e f few;
}

-- the user of the next number comes
pub next_user : {rows cells classes : List ℕ} {d count : ℕ} {asked lacked : List ℕ} {u : ℕ} {allowed : List ℕ} {v : ℕ}
    {after : List ℕ} {most : ℕ}
    → (AllowedTo rows asked u most allowed → AllowedTo rows asked v most after)
    → FitSoFar rows cells classes d count asked lacked u allowed most → FitSoFar rows cells classes d count asked
    lacked v after most
next_user turned so_far =
    record { placed = so_far.placed; members = so_far.members; allowing = turned so_far.allowing }

-- more numbers have no fewer classes
pub used_grows : (together : ℕ → ℕ → Bool) (m n : ℕ) → m ≤ n → used (grouping together m) ≤ used (grouping together n)
used_grows together m zero l = let e : m ≡ 0 = omega arith in rw e (le_refl (used (grouping together 0)))
used_grows together m (suc n) l =
    ⊎_elim (λ (k : m ≤ n). le_trans (used_grows together m n k)
    (earlier_uses_fewer (class_taken together n (grouping together n)) (grouping together n)))
    (λ (k : suc n ≤ m). let e : m ≡ suc n = omega arith in rw e (le_refl (used (grouping together (suc n)))))
    (⊎_elim (λ o. inl (omega arith)) (λ o. inr o) (below_or_from m (suc n)))

module _ {rows cells classes : List ℕ} {d count : ℕ} {asked lacked : List ℕ} {allowed : List ℕ} {most : ℕ}
    (few : most ≤ row_bits)
    (so_far : FitSoFar rows cells classes d count asked lacked (user_at_cell cells d) allowed most)
    {c : ℕ} (first : NextFrom (free allowed lacked (permission_at_cell cells d)) 0 row_bits c) where
  -- a class is free exactly if the next number fits all its members
  free_is_joins : (i : ℕ) → i < most
      → free allowed lacked (permission_at_cell cells d) i ≡ joins (fit_at_cells rows cells) d
      (grouping (fit_at_cells rows cells) d) i
  free_is_joins i l =
      rw so_far.placed.so_far at (free_is_joinable lacked (get_or cells d 0) most so_far.allowing i l
      ∙ joinable_is_joins so_far.members i (lt_of_lt_of_le l few))

  -- no lower class is taken
  pub not_lower : (i : ℕ) → i ≤ c → i ≤ most → i ≤ next_class (fit_at_cells rows cells) d
  not_lower i k o = ⊎_elim lower (λ l. l) (below_or_from (next_class (fit_at_cells rows cells) d) i)
    where
      lower : next_class (fit_at_cells rows cells) d < i → i ≤ next_class (fit_at_cells rows cells) d
      lower l =
          let valid = rw (grouping_length (fit_at_cells rows cells) d) at (grouping_valid (fit_at_cells rows cells)
          (suc d)).0 in
          absurd (not_both (free_is_joins (next_class (fit_at_cells rows cells) d) (lt_of_lt_of_le l o) ∙ valid)
          (first.skipped (next_class (fit_at_cells rows cells) d) (omega arith) (lt_of_lt_of_le l k)))

  -- the grouping has more classes than those among which none is free
  pub more_classes : (n : ℕ) → most ≤ c → d < n → most < used (grouping (fit_at_cells rows cells) n)
  more_classes n l k =
      omega (
        arith,
        not_lower most l (le_refl most),
        latest_below_used (next_class (fit_at_cells rows cells) d) (grouping (fit_at_cells rows cells) d),
        used_grows (fit_at_cells rows cells) (suc d) n k,
      )

  module _ (inside : c < most) where
    -- it is the class taken
    pub is_taken : c ≡ next_class (fit_at_cells rows cells) d
    is_taken = ⊎_elim old new (below_or_from c (used (grouping (fit_at_cells rows cells) d)))
      where
        fails : (i : ℕ) → i < c → joins (fit_at_cells rows cells) d (grouping (fit_at_cells rows cells) d) i ≡ false
        fails i l = sym (free_is_joins i (omega arith)) ∙ first.skipped i (omega arith) l

        old : c < used (grouping (fit_at_cells rows cells) d) → c ≡ next_class (fit_at_cells rows cells) d
        old l =
            rw (lowest_below_intro (used (grouping (fit_at_cells rows cells) d)) (joins (fit_at_cells rows cells) d
            (grouping (fit_at_cells rows cells) d))
            (record {
              within = l;
              holds = sym (free_is_joins c inside) ∙ first.passes (lt_of_lt_of_le inside few);
              first = fails;
            }))

        new : used (grouping (fit_at_cells rows cells) d) ≤ c → c ≡ next_class (fit_at_cells rows cells) d
        new l =
            omega (
              arith,
              not_lower c (le_refl c) (le_of_lt inside),
              taken_le (fit_at_cells rows cells) classes d count so_far.placed
                  {c = next_class (fit_at_cells rows cells) d} refl,
              so_far.placed.in_use,
            )

    -- the next number joins it
    pub one_fitted : HeldCells rows cells → (asked' lacked' : List ℕ) → d < length cells → d < length classes
        → CellAdded asked asked' c (permission_at_cell cells d) true
        → LacksAdded rows lacked lacked' c (user_at_cell cells d) row_bits
        → FitSoFar rows cells (set classes d c) (d + 1) (max (suc c) count) asked' lacked' (user_at_cell cells d)
        allowed most
    one_fitted held asked' lacked' within room a l = record {
      placed = rw (add-one d) (one_placed (fit_at_cells rows cells) classes d count so_far.placed is_taken room);
      members = one_member so_far.members c asked' lacked' room a l.size (all_lacks_added l);
      allowing = allowed_kept rows (user_at_cell cells d) so_far.allowing a (held d within);
    }
