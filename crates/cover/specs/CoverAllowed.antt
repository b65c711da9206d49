-- The classes that are allowed to a user: those whose members ask only what the user holds, as a set of classes. A
-- grant that the user holds asks nothing else, so the set stays the same while the user's own grants are placed.
use Rattle.std.specs.Prelude.{ℕ, ◌+◌, ◌-◌, ◌/◌, ◌%◌, ◌^◌, ◌≤◌, ◌<◌, ◌≡◌, true, false, not, ◌&&◌, ◌||◌, List, eqb, ltb, replicate}
use Rattle.std.proofs.Common.{lt_of_lt_of_le, mod-lt, arith, sym, ◌∙◌, ⊎_elim, eqb-true, lt-ltb, le-ltb, lit<}
use Rattle.std.proofs.Math.Bool.{So, and-false, and_comm, or-false, or-true}
use Rattle.std.proofs.lemmas.List.{get_or-replicate}
use Rattle.bits.specs.Truth.{passes_or_fails, implies}
use Rattle.bits.specs.Laws.Below.{every_below_intro, every_below_ext}
use Rattle.bits.specs.Bit.{word_bits}
use Rattle.bits.specs.Laws.Bit.{bit_of_zero, bit_full}
use Rattle.cell_rows.specs.Rows.{row_words, row_bits, cell}
use Rattle.cell_rows.specs.RowHeld.{held_at, holds_row}
use Rattle.cell_rows.specs.CellAdded.{CellAdded, word_of}
use Rattle.cells.specs.Laws.CellAdded.{word_below}
use Rattle.cells.specs.Laws.NextBelow.{next_below}
use Rattle.cover.specs.CoverMembers.{class_words, joinable}
use Rattle.cover.specs.CoverFree.{free}

-- of the classes below most, the set has those that are allowed to user u, who holds all that their members ask
pub record AllowedTo (rows asked : List ℕ) (u most : ℕ) (allowed : List ℕ) : Type 0 where
  pub says : (c : ℕ) → c < most → cell allowed 0 c ≡ holds_row rows asked u c

-- the same in the making: it has those below n, and no other
pub record AllowedSoFar (rows asked : List ℕ) (u n : ℕ) (allowed : List ℕ) : Type 0 where
  pub shows : (c : ℕ) → c < row_bits → cell allowed 0 c ≡ (ltb c n && holds_row rows asked u c)

pub allowed_all : {rows asked : List ℕ} {u n : ℕ} {allowed : List ℕ} → AllowedSoFar rows asked u n allowed
    → n ≤ row_bits
    → AllowedTo rows asked u n allowed
allowed_all {n = n} so_far few = record { says = λ c l. rw (lt-ltb c n l) at (so_far.shows c (lt_of_lt_of_le l few)) }

module _ (rows : List ℕ) (u : ℕ) where
  -- no class is looked at yet
  pub none_allowed : (asked : List ℕ) (m : ℕ) → m ≡ row_words → AllowedSoFar rows asked u 0 (replicate m 0)
  none_allowed asked m e = record {
    shows = λ c l.
        rw (
          get_or-replicate {A = ℕ} m (word_of 0 c) 0 0 (rw e (word_in_one c l)),
          bit_of_zero (c % word_bits),
          le-ltb c 0 (omega arith),
        );
  }
    where
      word_in_one : (c : ℕ) → c < row_bits → word_of 0 c < row_words
      word_in_one c l = omega (arith, word_below 1 0 c (lit< tt) l)

  -- one class more
  pub one_allowed : (asked allowed after : List ℕ) (n : ℕ) → AllowedSoFar rows asked u n allowed
      → CellAdded allowed after 0 n (holds_row rows asked u n)
      → AllowedSoFar rows asked u (n + 1) after
  one_allowed asked allowed after n so_far added =
      record { shows = λ c l. added.shows 0 c l ∙ rw (so_far.shows c l) (next_below (holds_row rows asked u) c n) }

  -- at first nothing is asked, so all classes are allowed
  pub all_allowed : (n m most : ℕ) → n ≡ class_words → m ≡ row_words → most ≤ row_bits
      → AllowedTo rows (replicate n 0) u most (replicate m (2 ^ word_bits - 1))
  all_allowed n m most e f few = record {
    says = λ c k.
        let l : c < row_bits = lt_of_lt_of_le k few in
        rw (
          get_or-replicate {A = ℕ} m (word_of 0 c) (2 ^ word_bits - 1) 0 (rw f (word_in_one c l)),
          bit_full word_bits (c % word_bits),
          lt-ltb (c % word_bits) word_bits (mod-lt c (lit< tt)),
        )
        (sym (every_below_intro row_bits (held_at rows (replicate n 0) u c) (λ q o. unasked c q l o)));
  }
    where
      word_in_one : (c : ℕ) → c < row_bits → word_of 0 c < row_words
      word_in_one c l = omega (arith, word_below 1 0 c (lit< tt) l)

      unasked : (c q : ℕ) → c < row_bits → q < row_bits → So (held_at rows (replicate n 0) u c q)
      unasked c q l k =
          rw (
            get_or-replicate {A = ℕ} n (word_of c q) 0 0 (rw e (word_below row_bits c q l k)),
            bit_of_zero (q % word_bits),
          )

  -- a permission that the user holds is asked
  pub allowed_kept : {asked after allowed : List ℕ} {c p most : ℕ} → AllowedTo rows asked u most allowed
      → CellAdded asked after c p true → So (cell rows u p)
      → AllowedTo rows after u most allowed
  allowed_kept {asked} {after} {allowed} {c} {p} allowing added held = record {
    says = λ x l. allowing.says x l ∙ every_below_ext row_bits (held_at rows asked u x) (held_at rows after u x)
        (λ q k. same x q k);
  }
    where
      same : (x q : ℕ) → q < row_bits → held_at rows asked u x q ≡ held_at rows after u x q
      same x q k = rw (added.shows x q k) (⊎_elim own other (passes_or_fails (eqb q p)))
        where
          own : So (eqb q p) → held_at rows asked u x q ≡ implies (cell asked x q || (eqb x c && (eqb q p && true)))
              (cell rows u q)
          own t =
              let e : q ≡ p = eqb-true q p t in
              rw (
                e,
                held,
                or-true (not (cell asked x p)),
                or-true (not (cell asked x p || (eqb x c && (eqb p p && true)))),
              )

          other : eqb q p ≡ false → held_at rows asked u x q ≡ implies (cell asked x q
              || (eqb x c && (eqb q p && true))) (cell rows u q)
          other f = rw (f, and-false (eqb x c), or-false (cell asked x q))

-- the free classes are those that can be joined
pub free_is_joinable : {rows asked allowed : List ℕ} (lacked : List ℕ) (it most : ℕ)
    → AllowedTo rows asked (it / row_bits) most allowed
    → (c : ℕ) → c < most → free allowed lacked (it % row_bits) c ≡ joinable rows asked lacked it c
free_is_joinable {rows} {asked} lacked it most allowing c l =
    rw (allowing.says c l) (and_comm (holds_row rows asked (it / row_bits) c) (not (cell lacked c (it % row_bits))))
